use Rattle.std.proofs.Common.{rules}
use Rattle.held.proofs.HeldLaws.{tab-of, canonical_of}
use Rattle.dividing.proofs.RestLaws.{step_over, step_take, step_leave}
use Rattle.dividing.proofs.rest_step.Goals as goal

pub returns-in_err-fewer : goal.returns-in_err-fewer
returns-in_err-fewer c = step_over _ _ _ _ _ c.in_err-fewer.ensures _ _ (search rules)

pub invariant_of-some : goal.invariant_of-some
invariant_of-some c = record { canonical = canonical_of _ _ _ _ _ c.in_ok-fewer.ensures c.args.function.canonical.marks c.args.function.canonical.some c.args.function.canonical.few }

pub returns-then-implies : goal.returns-then-implies
returns-then-implies c = step_take _ _ _ _ _ _ _ c.in_ok-fewer.ensures _ c.implies.ensures c.if-implies.true _ c.copy_to.ensures

pub returns : goal.returns
returns c = step_leave _ _ _ _ _ _ _ c.in_ok-fewer.ensures _ c.implies.ensures c.if-implies.false _ _ (tab-of _ _ _ _ c.requires.standing)
