-- `rest_of`: what is left so far, and the marks of the core that are left.
use Rattle.valuation.specs.Marks.{marks_left}
use Rattle.held.specs.Trees.{tree_of}
use Rattle.dividing.proofs.RestLaws.{RestInv}
use Rattle.dividing.proofs.rest_of.Given as goal

abbrev pub invariant-loop-m : goal.invariant-loop-m
invariant-loop-m l = RestInv l.function.n l.function.room (tree_of l.function) l.rest l.count (marks_left l.m-iterator)
