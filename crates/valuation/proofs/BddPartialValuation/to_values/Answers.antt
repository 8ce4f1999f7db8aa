use Rattle.valuation.proofs.Checks.{one_formed}
use Rattle.refusal.proofs.Judged.{judged_goes}
use mathlib.Core.Path.{sym, ap, ◌∙◌}
use Prim.Native.Nat.{suc}
use Rattle.refusal.specs.Limits.{max_marks}
use Rattle.valuation.specs.Replies.{replied_in}
use Rattle.valuation.specs.Valuation.{lists_values}
use Rattle.valuation.proofs.BddPartialValuation.to_values.Goals as goal

pub list_values-requires : goal.list_values-requires
list_values-requires c = one_formed _ c.in_ok-check_one.ensures

pub returns : goal.returns
unfolding lists_values
returns c = c.list_values.ensures ∙ ap (replied_in (suc max_marks)) (sym (judged_goes _ _ c.in_ok-check_one.ensures))
