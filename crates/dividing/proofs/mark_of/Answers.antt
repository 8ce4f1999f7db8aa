use Rattle.std.proofs.Common.{rules, ap, ◌∙◌}
use Rattle.valuation.specs.Marks.{marks_left}
use Rattle.dividing.proofs.MarkLaws.{mark_start, mark_again, mark_over, mark_end}
use Rattle.dividing.proofs.mark_of.Goals as goal

pub loop-m-init : goal.loop-m-init
loop-m-init c = mark_start _ _ _ _ c.args.rest.canonical.marks c.requires.marks _ (ap marks_left c.into_iter-m-iterator.ensures.into_iter_gives ∙ c.marks_of-m-items.ensures)

pub returns-in_err-best : goal.returns-in_err-best
returns-in_err-best c = mark_over _ _ _ _ _ _ c.loop-m.invariant _ _ c.in-Some.ensures.steps c.in_err-best.ensures _ (search rules)

pub loop-m-preserved : goal.loop-m-preserved
loop-m-preserved c = mark_again _ _ _ _ _ _ c.loop-m.invariant _ _ c.in-Some.ensures.steps _ c.in_ok-best.ensures

pub returns : goal.returns
returns c = mark_end _ _ _ _ _ _ c.loop-m.invariant c.in-None.ensures.steps.0
