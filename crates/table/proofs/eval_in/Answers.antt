use Rattle.table.proofs.AdmissionLaws.{case_sound, case_answers}
use Rattle.table.proofs.eval_in.Goals as goal

pub invariant_of-table : goal.invariant_of-table
invariant_of-table c = record { sound = case_sound _ _ _ _ _ c.admit_case-admitted.ensures _ c.in-Sound.is }

pub returns : goal.returns
returns c = case_answers _ _ _ _ _ c.admit_case-admitted.ensures _ c.in-Sound.is _ c.says_yes.ensures
