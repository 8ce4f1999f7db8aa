-- `clear_literals`: the clauses so far are cleared.
use Rattle.trimming.proofs.ClearLaws.{Cleared}
use Rattle.trimming.proofs.clear_literals.Given as goal

abbrev pub invariant-loop-i : goal.invariant-loop-i
invariant-loop-i l = Cleared l.fn.out l.out l.k l.m.0 l.value l.i
