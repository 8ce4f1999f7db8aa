use Rattle.reduced.proofs.ReducedLaws.{Marking}
use Rattle.reduced.proofs.mark_reachable.Given as goal

abbrev pub invariant-loop-p : goal.invariant-loop-p
invariant-loop-p l = Marking l.table.n l.table.count l.table.words.now l.p l.marks
