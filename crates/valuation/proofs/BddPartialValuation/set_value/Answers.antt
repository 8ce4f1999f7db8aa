use Rattle.valuation.proofs.Checks.{mark_below}
use Rattle.valuation.proofs.BddPartialValuation.set_value.Goals as goal

pub with_bit-requires : goal.with_bit-requires
with_bit-requires c = mark_below _ _ c.in_ok-check_mark.ensures
