use Rattle.valuation.proofs.Checks.{mark_fits}
use Rattle.valuation.proofs.BddPartialValuation.has_value.Goals as goal

pub has_bit-requires : goal.has_bit-requires
has_bit-requires c = mark_fits _ _ c.in_ok-check_mark.ensures
