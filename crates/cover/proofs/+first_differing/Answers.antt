use mathlib.Core.Bool.{true, false}
use native.Mathlib.Omega.{arith}
use Rattle.cover.proofs.DescentLaws.{none_left, left-lies, right-lies, paired_below, first_fits, first-high, first-low}
use Rattle.cover.proofs.+first_differing.Goals as goal

pub returns-then-level-n : goal.returns-then-level-n
returns-then-level-n t c = none_left _ _ _ _ _ _ c.if-level-n.true

pub step_to-low-requires : goal.step_to-low-requires
step_to-low-requires t c = omega (arith, c.requires.long, left-lies _ _ _ _ _ _ c.requires)

pub step_to-other_low-requires : goal.step_to-other_low-requires
step_to-other_low-requires t c = omega (arith, c.requires.long, right-lies _ _ _ _ _ _ c.requires)

pub step_to-high-requires : goal.step_to-high-requires
step_to-high-requires t c = omega (arith, c.requires.long, left-lies _ _ _ _ _ _ c.requires)

pub step_to-other_high-requires : goal.step_to-other_high-requires
step_to-other_high-requires t c = omega (arith, c.requires.long, right-lies _ _ _ _ _ _ c.requires)

pub first_differing-requires : goal.first_differing-requires
first_differing-requires t c = (omega (arith, c.decreases, c.if-level-n.false, c.requires.within), paired_below _ _ _ _ _ _ c.requires c.if-level-n.false true _ _ c.step_to-high.ensures c.step_to-other_high.ensures)

pub overflow_mul-result : goal.overflow_mul-result
overflow_mul-result t c = omega (arith, first_fits _ _ _ _ _ _ c.requires c.if-level-n.false true _ _ c.step_to-high.ensures c.step_to-other_high.ensures _ c.first_differing.ensures)

pub overflow_add-result : goal.overflow_add-result
overflow_add-result t c = omega (arith, first_fits _ _ _ _ _ _ c.requires c.if-level-n.false true _ _ c.step_to-high.ensures c.step_to-other_high.ensures _ c.first_differing.ensures)

pub returns-then-low-other_low : goal.returns-then-low-other_low
returns-then-low-other_low t c = first-high _ _ _ _ _ _ c.requires c.if-level-n.false _ _ c.step_to-low.ensures c.step_to-other_low.ensures c.if-low-other_low.true _ _ c.step_to-high.ensures c.step_to-other_high.ensures _ c.first_differing.ensures

pub first_differing-requires-2 : goal.first_differing-requires-2
first_differing-requires-2 t c = (omega (arith, c.decreases, c.if-level-n.false, c.requires.within), paired_below _ _ _ _ _ _ c.requires c.if-level-n.false false _ _ c.step_to-low.ensures c.step_to-other_low.ensures)

pub overflow_mul-result-2 : goal.overflow_mul-result-2
overflow_mul-result-2 t c = omega (arith, first_fits _ _ _ _ _ _ c.requires c.if-level-n.false false _ _ c.step_to-low.ensures c.step_to-other_low.ensures _ c.first_differing-2.ensures)

pub returns : goal.returns
returns t c = first-low _ _ _ _ _ _ c.requires c.if-level-n.false _ _ c.step_to-low.ensures c.step_to-other_low.ensures c.if-low-other_low.false _ c.first_differing-2.ensures
