use Rattle.valuation.proofs.Gathering.{none_bad, gathered_answer}
use Rattle.valuation.proofs.BddPartialValuation.from_values.Goals as goal

pub gather_values-requires : goal.gather_values-requires
gather_values-requires c = none_bad _ _ c.first_bad_mark-bad.ensures _ c.in_ok-refuse_if.ensures

pub returns : goal.returns
returns c = gathered_answer _ _ c.first_bad_mark-bad.ensures _ c.in_ok-refuse_if.ensures _ c.gather_values.ensures
