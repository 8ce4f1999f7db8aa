use Rattle.valuation.proofs.Checks.{one_formed}
use Rattle.refusal.proofs.Judged.{judged_answers}
use Rattle.valuation.proofs.Answers.{counts}
use Rattle.valuation.specs.Valuation.{counts_fixed}
use Rattle.valuation.proofs.BddPartialValuation.cardinality.Goals as goal

pub returns : goal.returns
unfolding counts_fixed
returns c = judged_answers _ _ c.in_ok-check_one.ensures _ (counts _ (one_formed _ c.in_ok-check_one.ensures).small)
