use mathlib.Core.Path.{sym, ◌∙◌}
use native.Mathlib.Omega.{arith}
use borrow.Author.Rules.{rules}
use Rattle.refusal.proofs.Firsts.{first-is, first-none}
use Rattle.reduced.specs.Reduced.{first_unreduced}
use Rattle.reduced.proofs.first_unreduced.Goals as goal

pub returns-then-not-node_reduced : goal.returns-then-not-node_reduced
unfolding first_unreduced
returns-then-not-node_reduced c = sym (first-is _ _ _ (search rules) c.loop-i.invariant (sym c.node_reduced.ensures ∙ c.if-not-node_reduced.true))

pub returns : goal.returns
unfolding first_unreduced
returns c = sym (first-none _ _ (λ j h. c.loop-i.invariant j (omega arith)))
