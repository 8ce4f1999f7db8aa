use Rattle.pool.proofs.FindLaws.{Above}
use Rattle.pool.proofs.find_node.Given as goal

abbrev pub invariant-loop-left : goal.invariant-loop-left
invariant-loop-left l = Above l.bdd l.above l.count l.top l.left l.variable.0 l.low.0 l.high.0
