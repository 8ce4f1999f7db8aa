use Rattle.std.proofs.Common.{rules}
use Rattle.held.proofs.HeldLaws.{tab-of, canonical_of}
use Rattle.dividing.proofs.CoreLaws.{step_over, step_more, step_less}
use Rattle.dividing.proofs.core_step.Goals as goal

pub returns-in_err-count : goal.returns-in_err-count
returns-in_err-count c = step_over _ _ _ _ c.in_err-count.ensures _ _ (search rules)

pub invariant_of-all : goal.invariant_of-all
invariant_of-all c = record { canonical = canonical_of _ _ _ _ _ c.in_ok-count.ensures c.args.function.canonical.marks c.args.function.canonical.some c.args.function.canonical.few }

pub returns-then-cases-best : goal.returns-then-cases-best
returns-then-cases-best c = step_more _ _ _ _ _ _ _ _ c.in_ok-count.ensures c.cases-cases.ensures c.requires.standing.cases c.if-cases-best.true _ c.copy_to.ensures

pub returns : goal.returns
returns c = step_less _ _ _ _ _ _ _ _ c.in_ok-count.ensures c.cases-cases.ensures c.requires.standing.cases c.if-cases-best.false _ _ (tab-of _ _ _ _ c.requires.standing.canonical)
