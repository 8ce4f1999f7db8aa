use native.Mathlib.Omega.{arith}
use Rattle.valuation.proofs.Gathering.{bad_here, bad_none}
use Rattle.valuation.proofs.first_bad_mark.Goals as goal

pub returns-then-values-i : goal.returns-then-values-i
returns-then-values-i c = bad_here c.loop-i.invariant (omega arith) (omega (arith, c.if-values-i.true))

pub returns : goal.returns
returns c = let h = c.loop-i-test.false in omega (arith, c.loop-i.invariant.within, bad_none c.loop-i.invariant (omega arith))
