use Rattle.valuation.proofs.Checks.{one_formed}
use Rattle.valuation.proofs.BddPartialValuation.last_fixed_variable.Goals as goal

pub last_mark-requires : goal.last_mark-requires
last_mark-requires c = (one_formed _ c.in_ok-check_one.ensures).small
