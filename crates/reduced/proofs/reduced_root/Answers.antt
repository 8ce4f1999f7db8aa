use Rattle.std.proofs.Common.{rules}
use mathlib.Core.Path.{◌∙◌}
use Rattle.reduced.proofs.CheckLaws.{check_sound, check_unreduced, check_reduced}
use Rattle.reduced.proofs.reduced_root.Goals as goal

pub invariant_of-table : goal.invariant_of-table
invariant_of-table c = record { sound = check_sound _ _ _ _ (c.in_ok-root.ensures ∙ c.inspect.ensures) }

pub returns-in_err-refuse_if : goal.returns-in_err-refuse_if
returns-in_err-refuse_if c = search (rules, check_unreduced _ _ _ _ (c.in_ok-root.ensures ∙ c.inspect.ensures) _ c.lowest_unreduced-bad.ensures _ c.in_err-refuse_if.ensures)

pub returns : goal.returns
returns c = check_reduced _ _ _ _ (c.in_ok-root.ensures ∙ c.inspect.ensures) _ c.lowest_unreduced-bad.ensures _ c.in_ok-refuse_if.ensures
