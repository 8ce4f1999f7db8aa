-- `solve`: the marks on which the function depends.
use Rattle.rule.proofs.Needs.{need}
use Rattle.held.specs.Trees.{tree_of}
use Prim.Native.Nat.{suc}
use Rattle.valuation.specs.Valuation.{clause_of}
use Rattle.solving.proofs.SolveLaws.{Parted}
use Rattle.solving.proofs.+solve.Given as goal

abbrev pub decreases-solve : goal.decreases-solve
decreases-solve l = need l.function.n (tree_of l.function)

abbrev pub invariant-loop-value : goal.invariant-loop-value
invariant-loop-value l = Parted l.function.n l.function.room (tree_of l.function) (clause_of l.y) l.fn.k l.known l.fn.out l.out (suc l.value-index) l.done
