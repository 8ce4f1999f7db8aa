use Rattle.theory.specs.Clause.{clause}
use Rattle.text.specs.Text.{cell_chars}
use Rattle.text.specs.Writing.{Appends}
use Rattle.text.proofs.Text.put_clause.Given as goal

abbrev pub invariant-loop-mark : goal.invariant-loop-mark
invariant-loop-mark l = Appends (cell_chars l.mark (clause l.v.fixed l.v.values)) l.initial.self l.self
