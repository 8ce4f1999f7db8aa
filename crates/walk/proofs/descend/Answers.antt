use native.Mathlib.Omega.{arith}
use Rattle.walk.proofs.Holding.{descent_start, descent_fits, descent_reads, descent_step, descent_end, descent_falls}
use Rattle.walk.proofs.descend.Goals as goal

pub loop-q-init : goal.loop-q-init
loop-q-init c = descent_start _ _ _ c.requires

pub bounds-path-at : goal.bounds-path-at
bounds-path-at c = descent_fits _ _ _ _ _ c.loop-q.invariant

pub overflow_add-len : goal.overflow_add-len
overflow_add-len c = omega (arith, descent_fits _ _ _ _ _ c.loop-q.invariant)

pub onward_of-q-requires : goal.onward_of-q-requires
onward_of-q-requires c = descent_reads _ _ _ _ _ c.loop-q.invariant

pub loop-q-smaller : goal.loop-q-smaller
loop-q-smaller c = descent_falls _ _ _ _ _ c.loop-q.invariant c.loop-q-test.true _ c.onward_of-q.ensures

pub loop-q-preserved : goal.loop-q-preserved
loop-q-preserved c = descent_step _ _ _ _ _ c.loop-q.invariant c.loop-q-test.true _ c.onward_of-q.ensures

pub bounds-path-last : goal.bounds-path-last
bounds-path-last c = descent_fits _ _ _ _ _ c.loop-q.invariant

pub overflow_add-result : goal.overflow_add-result
overflow_add-result c = omega (arith, descent_fits _ _ _ _ _ c.loop-q.invariant)

pub returns : goal.returns
returns c = descent_end _ _ _ _ _ c.loop-q.invariant c.loop-q-test.false
