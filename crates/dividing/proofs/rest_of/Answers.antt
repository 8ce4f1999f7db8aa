use Rattle.std.proofs.Common.{rules, ◌≡◌, subst, ap, ◌∙◌}
use Rattle.theory.specs.Tree.{support_of}
use Rattle.held.specs.Trees.{tree_of}
use Rattle.held.proofs.HeldLaws.{tree-deep}
use Rattle.valuation.specs.Marks.{marks_left}
use Rattle.dividing.proofs.FitLaws.{support_left}
use Rattle.dividing.proofs.RestLaws.{none_left, left_over, rest_start, rest_again, rest_over, rest_end}
use Rattle.dividing.proofs.rest_of.Goals as goal

pub returns-then-cases-eq0 : goal.returns-then-cases-eq0
returns-then-cases-eq0 c =
    none_left c.args.function.n c.args.function.room _ (tree-deep _ _ _ _ c.args.function.canonical) c.requires.coring.inner _ c.requires.coring.count c.if-cases-eq0.true _ _ c.copy_to.ensures

pub returns-in_err-count : goal.returns-in_err-count
returns-in_err-count c =
    left_over c.args.function.n c.args.function.room _ (tree-deep _ _ _ _ c.args.function.canonical) c.requires.coring.inner _ c.requires.coring.count c.if-cases-eq0.false
    _ c.requires.coring.is c.in_err-count.ensures _ _ (search rules)

pub loop-m-init : goal.loop-m-init
loop-m-init c =
    rest_start _ _ _ (tree-deep _ _ _ _ c.args.function.canonical) c.requires.coring.inner _ c.requires.coring.count c.if-cases-eq0.false
    c.args.function.canonical.marks c.args.function.canonical.some c.args.function.canonical.few
    _ c.requires.coring.is _ _ c.in_ok-count.ensures _
    (support_left _ _ c.args.function.canonical.marks _ (subst (λ n. c.support.result ≡ support_of n (tree_of c.args.core)) c.requires.coring.marks c.support.ensures)
    _ (ap marks_left c.into_iter-m-iterator.ensures.into_iter_gives ∙ c.marks_of-m-items.ensures))

pub returns-in_err-count-2 : goal.returns-in_err-count-2
returns-in_err-count-2 c =
    rest_over _ _ _ (tree-deep _ _ _ _ c.args.function.canonical) c.requires.coring.inner _ c.requires.coring.count c.if-cases-eq0.false
    c.args.function.canonical.marks c.args.function.canonical.some c.args.function.canonical.few
    _ _ _ c.loop-m.invariant _ _ c.in-Some.ensures.steps c.in_err-count-2.ensures _ _ (search rules)

pub loop-m-preserved : goal.loop-m-preserved
loop-m-preserved c =
    rest_again _ _ _ (tree-deep _ _ _ _ c.args.function.canonical) c.requires.coring.inner _ c.requires.coring.count c.if-cases-eq0.false
    c.args.function.canonical.marks c.args.function.canonical.some c.args.function.canonical.few
    _ _ _ c.loop-m.invariant _ _ c.in-Some.ensures.steps _ _ c.in_ok-count-2.ensures

pub returns : goal.returns
returns c =
    rest_end _ _ _ (tree-deep _ _ _ _ c.args.function.canonical) c.requires.coring.inner _ c.requires.coring.count c.if-cases-eq0.false
    c.args.function.canonical.marks c.args.function.canonical.some c.args.function.canonical.few _ _ _ c.in-None.ensures.steps.0 c.loop-m.invariant
