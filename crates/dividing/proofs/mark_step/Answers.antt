use Rattle.std.proofs.Common.{rules}
use Rattle.dividing.proofs.MarkLaws.{over_high, over_low, step_new, step_old}
use Rattle.dividing.proofs.mark_step.Goals as goal

pub returns-in_err-high : goal.returns-in_err-high
returns-in_err-high c = over_high _ _ _ _ _ _ c.in_err-high.ensures _ (search rules)

pub returns-in_err-low : goal.returns-in_err-low
returns-in_err-low c = over_low _ _ _ _ _ _ _ _ c.in_ok-high.ensures c.in_err-low.ensures _ (search rules)

pub returns-then-high-low : goal.returns-then-high-low
returns-then-high-low c = step_new _ _ _ _ _ _ _ _ c.in_ok-high.ensures _ _ c.in_ok-low.ensures c.if-high-low.true

pub returns : goal.returns
returns c = step_old _ _ _ _ _ _ _ _ c.in_ok-high.ensures _ _ c.in_ok-low.ensures c.if-high-low.false
