use Rattle.text.specs.Text.{clause_lines}
use Rattle.text.specs.Writing.{Appends}
use Rattle.text.proofs.Text.put_clauses.Given as goal

abbrev pub invariant-loop-i : goal.invariant-loop-i
invariant-loop-i l = Appends (clause_lines l.n l.list l.i) l.initial.self l.self
