use Rattle.std.proofs.Common.{rules}
use native.Mathlib.Omega.{arith}
use Rattle.cover.proofs.CoverLaws.{cover_refused, cover_ready, cover_answered}
use Rattle.cover.proofs.check_cover.Goals as goal

pub returns-in_default : goal.returns-in_default
returns-in_default c = let parts = cover_refused _ _ _ _ _ _ _ _ c.admit_cover-admitted.ensures _ c.refusal.ensures in
    record { result_value = parts.0; work_after = parts.1 }

pub invariant_of-table : goal.invariant_of-table
invariant_of-table c = record { sound = (cover_ready _ _ _ _ _ _ _ _ c.admit_cover-admitted.ensures _ c.in-Sound.is).0 }

pub compare_list-covered-requires : goal.compare_list-covered-requires
compare_list-covered-requires c = (cover_ready _ _ _ _ _ _ _ _ c.admit_cover-admitted.ensures _ c.in-Sound.is).1 _ (omega arith)

pub returns : goal.returns
returns c = let parts = cover_answered _ _ _ _ _ _ _ _ c.admit_cover-admitted.ensures _ c.in-Sound.is _ c.compare_list-covered.ensures c.compare_list-covered.new.work _ c.compare_list-covered.auto.work (search rules) in
    record { result_value = parts.0; work_after = parts.1 }
