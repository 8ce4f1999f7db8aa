use Rattle.std.proofs.lemmas.Bool.{eqb-true}
use Rattle.std.proofs.Common.{sym}
use mathlib.Core.Path.{◌≡◌, sym, subst, ◌∙◌}
use mathlib.Core.Bool.{Bool}
use native.Mathlib.Omega.{arith}
use Rattle.theory.specs.Table.{walk}
use Rattle.theory.specs.Words.{nodes}
use Rattle.put.specs.Put.{tree}
use Rattle.put.proofs.SplitLaws.{a_in, mark-le, mark-is, low-is, high_is, done_off, done_all, done-term, next-lt, skips, owns, done-memo, on-walk, on-parted}
use Rattle.put.proofs.split.Goals as goal

pub returns-then-off : goal.returns-then-off
returns-then-off c = subst (λ (x : Bool). walk (nodes c.args.count c.args.work.now) c.args.level (tree c.args.job (nodes c.args.count c.args.work.now) c.args.level c.args.p.0 x) ≡ (nodes c.args.count c.args.work.now, c.args.p.0)) (sym c.if-off.true) (done_off _ _ _ _ _ c.requires)

pub returns-then-rest-eq0 : goal.returns-then-rest-eq0
returns-then-rest-eq0 c = on-walk c.args.work.now c.args.job c.args.level c.args.count c.args.p.0 _ c.args.off c.if-off.false (done_all _ _ _ _ _ c.requires c.if-rest-eq0.true _ c.term-term.ensures)

pub returns-then-eq : goal.returns-then-eq
returns-then-eq c = on-walk c.args.work.now c.args.job c.args.level c.args.count c.args.p.0 _ c.args.off c.if-off.false (done-term _ _ _ _ _ c.requires (eqb-true _ _ (sym c.eq.ensures ∙ c.if-eq.true) ∙ c.term-term.ensures))

pub var_of-variable-requires : goal.var_of-variable-requires
var_of-variable-requires c = (omega (arith, a_in _ _ _ _ _ c.requires, c.requires.fits, c.requires.long), omega (arith, mark-is _ _ _ _ _ c.requires, mark-le _ _ _ _ _ c.requires, c.requires.marks))

pub left_out-requires : goal.left_out-requires
left_out-requires c = omega (arith, next-lt _ _ _ _ _ c.requires c.if-rest-eq0.false, c.requires.marks)

pub returns-then-next-variable : goal.returns-then-next-variable
returns-then-next-variable c = (
  on-parted _ _ _ _ _ _ _ c.if-off.false
      (skips _ _ _ _ _ c.requires c.if-rest-eq0.false _ (omega (arith, c.if-next-variable.true, c.var_of-variable.ensures, mark-is _ _ _ _ _ c.requires)) c.left_out.ensures.0 c.left_out.ensures.1),
  c.left_out.ensures.2,
)

pub recall-requires : goal.recall-requires
recall-requires c = (omega (arith, a_in _ _ _ _ _ c.requires, c.requires.fits, c.requires.long), c.requires.few)

pub returns-in-Some : goal.returns-in-Some
returns-in-Some c = on-walk c.args.work.now c.args.job c.args.level c.args.count c.args.p.0 _ c.args.off c.if-off.false
    (done-memo _ _ _ _ _ c.requires c.if-rest-eq0.false c.var_of-variable.result.0 c.in-Some.r.0 (c.var_of-variable.ensures ∙ mark-is _ _ _ _ _ c.requires) (λ h. omega (arith, c.if-next-variable.false)) c.in-Some.ensures.0 c.in-Some.ensures.1)

pub left_out-requires-2 : goal.left_out-requires-2
left_out-requires-2 c = omega (arith, next-lt _ _ _ _ _ c.requires c.if-rest-eq0.false, c.requires.marks, c.if-next-variable.false)

pub low_link_of-requires : goal.low_link_of-requires
low_link_of-requires c = omega (arith, a_in _ _ _ _ _ c.requires, c.requires.fits, c.requires.long)

pub high_link_of-requires : goal.high_link_of-requires
high_link_of-requires c = omega (arith, a_in _ _ _ _ _ c.requires, c.requires.fits, c.requires.long)

pub returns : goal.returns
returns c = (
  on-parted _ _ _ _ _ _ _ c.if-off.false
      (owns _ _ _ _ _ c.requires c.if-rest-eq0.false _ _ _ _ (c.var_of-variable.ensures ∙ mark-is _ _ _ _ _ c.requires) (λ h. omega (arith, c.if-next-variable.false)) c.left_out-2.ensures.0 c.left_out-2.ensures.1
      (c.low_link_of.ensures ∙ low-is _ _ _ _ _ c.requires) (c.high_link_of.ensures ∙ high_is _ _ _ _ _ c.requires)),
  c.left_out-2.ensures.2,
)
