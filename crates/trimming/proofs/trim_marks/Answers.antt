use Rattle.std.proofs.Common.{ap, ◌∙◌}
use Rattle.valuation.specs.Marks.{marks_left}
use Rattle.dividing.proofs.FitLaws.{support_left}
use Rattle.trimming.proofs.TrimLaws.{trim_start, trim_mark-lt, trim_next, trim_end}
use Rattle.trimming.proofs.trim_marks.Goals as goal

pub loop-m-init : goal.loop-m-init
loop-m-init c =
    trim_start _ _ _ _ _
    (support_left _ _ c.args.function.canonical.marks _ c.support.ensures _ (ap marks_left c.into_iter-m-iterator.ensures.into_iter_gives ∙ c.marks_of-m-items.ensures))

pub trim_mark-requires-clause-mark : goal.trim_mark-requires-clause-mark
trim_mark-requires-clause-mark c = trim_mark-lt _ _ _ _ _ _ c.loop-m.invariant _ _ c.in-Some.ensures.steps

pub loop-m-preserved : goal.loop-m-preserved
loop-m-preserved c = trim_next _ _ _ _ _ _ c.loop-m.invariant _ _ c.in-Some.ensures.steps _ c.trim_mark.ensures

pub returns : goal.returns
returns c = trim_end _ _ _ _ _ _ c.in-None.ensures.steps.0 c.loop-m.invariant
