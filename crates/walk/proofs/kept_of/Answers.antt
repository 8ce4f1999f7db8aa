use Rattle.std.proofs.Common.{arith, sym, ◌∙◌, ◌-◌}
use Rattle.walk.proofs.PathLaws.{kept-turn, kept-none, kept_pass}
use Rattle.walk.proofs.Holding.{short, reads}
use Rattle.walk.proofs.kept_of.Goals as goal

pub bounds-s-at : goal.bounds-s-at
bounds-s-at c = omega (arith, short _ _ c.requires.0, c.requires.1)

pub bounds-s-at-in-loop-i : goal.bounds-s-at-in-loop-i
bounds-s-at-in-loop-i c = omega (arith, short _ _ c.requires.0, c.requires.1)

pub can_turn-requires : goal.can_turn-requires
can_turn-requires c = reads _ _ c.requires.0 _ (omega (arith, c.requires.1, c.loop-i-test.true))

pub returns-then-can_turn : goal.returns-then-can_turn
returns-then-can_turn c = kept-turn _ _ (c.loop-i.i - 1) _ (omega (arith, c.loop-i-test.true)) (sym c.can_turn.ensures ∙ c.if-can_turn.true) c.loop-i.invariant

pub loop-i-preserved : goal.loop-i-preserved
loop-i-preserved c = kept_pass _ _ (c.loop-i.i - 1) _ (omega (arith, c.loop-i-test.true)) (sym c.can_turn.ensures ∙ c.if-can_turn.false) c.loop-i.invariant

pub returns : goal.returns
returns c = kept-none _ _ (c.loop-i.i - 1) _ (omega (arith, c.loop-i-test.false)) c.loop-i.invariant
