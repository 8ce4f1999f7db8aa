use Rattle.valuation.proofs.Checks.{mark_below}
use Rattle.valuation.proofs.BddPartialValuation.unset_value.Goals as goal

pub without_bit-requires : goal.without_bit-requires
without_bit-requires c = mark_below _ _ c.in_ok-check_mark.ensures
