use mathlib.Core.Path.{sym, ◌∙◌}
use native.Mathlib.Omega.{arith}
use borrow.Author.Rules.{rules}
use Rattle.refusal.proofs.Firsts.{first-is, first-none}
use Rattle.table.specs.Inspection.{first_bad}
use Rattle.table.proofs.first_bad.Goals as goal

pub returns-then-not-node_ok : goal.returns-then-not-node_ok
unfolding first_bad
returns-then-not-node_ok c = sym (first-is _ _ _ (search rules) c.loop-i.invariant (sym c.node_ok.ensures ∙ c.if-not-node_ok.true))

pub returns : goal.returns
unfolding first_bad
returns c = sym (first-none _ _ (λ j h. c.loop-i.invariant j (omega arith)))
