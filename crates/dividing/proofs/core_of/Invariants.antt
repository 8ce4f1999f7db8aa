-- `core_of`: the core so far, and the marks that are left.
use Rattle.valuation.specs.Marks.{marks_left}
use Rattle.held.specs.Trees.{tree_of}
use Rattle.dividing.proofs.CoreLaws.{CoreInv}
use Rattle.dividing.proofs.core_of.Given as goal

abbrev pub invariant-loop-m : goal.invariant-loop-m
invariant-loop-m l = CoreInv l.function.n l.function.room (tree_of l.function) l.core l.best (marks_left l.m-iterator)
