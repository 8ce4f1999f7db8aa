use Rattle.valuation.proofs.Checks.{mark_below}
use Rattle.refusal.proofs.Judged.{judged_stops, judged_answers}
use Rattle.valuation.proofs.Answers.{found}
use Rattle.valuation.specs.Replies.{lookup_reply}
use Rattle.valuation.specs.Valuation.{gets_value}
use Rattle.valuation.proofs.BddPartialValuation.get_value.Goals as goal

pub cell_at-requires : goal.cell_at-requires
cell_at-requires c = mark_below _ _ c.in-Ok.ensures

pub returns-in-Ok : goal.returns-in-Ok
unfolding lookup_reply gets_value
returns-in-Ok c = judged_answers _ _ c.in-Ok.ensures _ (found c.cell_at.result _ c.cell_at.ensures)

pub returns-in-Err : goal.returns-in-Err
unfolding lookup_reply gets_value
returns-in-Err c = judged_stops _ _ _ c.in-Err.ensures
