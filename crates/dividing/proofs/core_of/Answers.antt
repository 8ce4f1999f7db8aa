use Rattle.std.proofs.Common.{rules, arith, ap, ◌∙◌}
use Rattle.valuation.specs.Marks.{marks_left}
use Rattle.dividing.proofs.FitLaws.{support_left}
use Rattle.dividing.proofs.CoreLaws.{false_made, core_start, core_again, core_over, core_end}
use Rattle.dividing.proofs.core_of.Goals as goal

pub loop-m-init : goal.loop-m-init
loop-m-init c =
    core_start _ _ _ c.args.function.canonical.marks c.args.function.canonical.some c.args.function.canonical.few _
    (rw c.put_node.ensures (false_made _ _ _ (omega (arith, c.args.function.canonical.some)) (omega (arith, c.args.function.canonical.some, c.requires.core_place)))) _
    (support_left _ _ c.args.function.canonical.marks _ c.requires.support _ (ap marks_left c.into_iter-m-iterator.ensures.into_iter_gives ∙ c.marks_of-m-items.ensures))

pub returns-in_err-best : goal.returns-in_err-best
returns-in_err-best c = core_over _ _ _ c.args.function.canonical.marks c.args.function.canonical.some c.args.function.canonical.few _ _ _ c.loop-m.invariant _ _ c.in-Some.ensures.steps c.in_err-best.ensures _ _ (search rules)

pub loop-m-preserved : goal.loop-m-preserved
loop-m-preserved c = core_again _ _ _ c.args.function.canonical.marks c.args.function.canonical.some c.args.function.canonical.few _ _ _ c.loop-m.invariant _ _ c.in-Some.ensures.steps _ _ c.in_ok-best.ensures

pub returns : goal.returns
returns c = core_end _ _ _ c.args.function.canonical.marks c.args.function.canonical.some c.args.function.canonical.few _ _ _ c.in-None.ensures.steps.0 c.loop-m.invariant
