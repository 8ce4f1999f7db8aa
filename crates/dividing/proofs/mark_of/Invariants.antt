-- `mark_of`: the mark so far, and the marks that are left.
use Rattle.valuation.specs.Marks.{marks_left}
use Rattle.held.specs.Trees.{tree_of}
use Rattle.dividing.proofs.MarkLaws.{MarkInv}
use Rattle.dividing.proofs.mark_of.Given as goal

abbrev pub invariant-loop-m : goal.invariant-loop-m
invariant-loop-m l = MarkInv l.rest.n l.rest.room (tree_of l.rest) l.s l.best (marks_left l.m-iterator)
