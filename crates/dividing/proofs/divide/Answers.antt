use Rattle.std.proofs.Common.{rules}
use Rattle.theory.proofs.Support.{support-lt}
use Rattle.held.proofs.HeldLaws.{canonical_of}
use Rattle.dividing.proofs.DivideLaws.{over_core, coring, over_rest, over_mark, divided_into}
use Rattle.dividing.proofs.divide.Goals as goal

pub returns-in_err-best : goal.returns-in_err-best
returns-in_err-best c = over_core _ _ _ c.in_err-best.ensures _ _ _ (search rules)

pub invariant_of-core : goal.invariant_of-core
invariant_of-core c = record { canonical = canonical_of _ _ _ _ _ c.in_ok-best.ensures.0 c.args.function.canonical.marks c.args.function.canonical.some c.args.function.canonical.few }

pub rest_of-requires-clause-coring : goal.rest_of-requires-clause-coring
rest_of-requires-clause-coring c = coring _ _ _ _ _ c.in_ok-best.ensures c.requires.inner

pub returns-in_err-count : goal.returns-in_err-count
returns-in_err-count c = over_rest _ _ _ _ _ c.in_ok-best.ensures c.in_err-count.ensures _ _ _ (search rules)

pub invariant_of-left : goal.invariant_of-left
invariant_of-left c = record { canonical = canonical_of _ _ _ _ _ c.in_ok-count.ensures.0 c.args.function.canonical.marks c.args.function.canonical.some c.args.function.canonical.few }

pub mark_of-requires-clause-marks : goal.mark_of-requires-clause-marks
mark_of-requires-clause-marks c = rw c.support-s.ensures (support-lt _ _)

pub returns-in_err-least : goal.returns-in_err-least
returns-in_err-least c = over_mark _ _ _ _ _ c.in_ok-best.ensures _ _ c.in_ok-count.ensures _ c.support-s.ensures c.in_err-least.ensures _ _ _ (search rules)

pub returns : goal.returns
returns c = divided_into _ _ _ _ _ c.in_ok-best.ensures _ _ c.in_ok-count.ensures _ c.support-s.ensures _ c.in_ok-least.ensures
