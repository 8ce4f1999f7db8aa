use Rattle.std.proofs.Common.{rules}
use Rattle.valuation.proofs.Checks.{two_formed}
use Rattle.valuation.proofs.BddPartialValuation.extends.Goals as goal

pub agree-requires : goal.agree-requires
agree-requires c = search (rules, two_formed _ _ c.in_ok-check_two.ensures)
