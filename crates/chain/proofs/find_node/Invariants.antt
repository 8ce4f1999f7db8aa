use Rattle.chain.proofs.ChainLaws.{Seeking}
use Rattle.chain.proofs.find_node.Given as goal

abbrev pub invariant-loop-i : goal.invariant-loop-i
invariant-loop-i l = Seeking l.work l.cap l.count l.variable.0 l.low.0 l.high.0 l.i

abbrev pub decreases-loop-i : goal.decreases-loop-i
decreases-loop-i l = l.i
