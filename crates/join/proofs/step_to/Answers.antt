use mathlib.Core.Path.{sym, ap, ◌∙◌}
use Rattle.theory.specs.Words.{node_at}
use Rattle.theory.specs.Table.{child_of}
use Rattle.join.proofs.LeafLaws.{step_other, step_child}
use Rattle.join.proofs.step_to.Goals as goal

pub returns-then-mark_word-variable : goal.returns-then-mark_word-variable
returns-then-mark_word-variable c = step_other _ _ _ _ _ c.mark_word.ensures c.if-mark_word-variable.true

pub returns-then-value : goal.returns-then-value
returns-then-value c = step_child _ _ _ _ _ _ c.mark_word.ensures c.if-mark_word-variable.false (c.high_link_of.ensures ∙ ap (λ b. child_of b (node_at c.args.bdd.now c.args.p.0)) (sym c.if-value.true))

pub returns : goal.returns
returns c = step_child _ _ _ _ _ _ c.mark_word.ensures c.if-mark_word-variable.false (c.low_link_of.ensures ∙ ap (λ b. child_of b (node_at c.args.bdd.now c.args.p.0)) (sym c.if-value.false))
