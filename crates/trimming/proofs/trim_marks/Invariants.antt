-- `trim_marks`: the clauses so far, and the marks that are left.
use Rattle.valuation.specs.Marks.{marks_left}
use Rattle.held.specs.Trees.{tree_of}
use Rattle.trimming.proofs.TrimLaws.{TrimInv}
use Rattle.trimming.proofs.trim_marks.Given as goal

abbrev pub invariant-loop-m : goal.invariant-loop-m
invariant-loop-m l = TrimInv l.function.n (tree_of l.function) l.initial.out l.out l.k (marks_left l.m-iterator)
