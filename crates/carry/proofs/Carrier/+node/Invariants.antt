use Rattle.carry.proofs.Carrier.+node.Given as goal

abbrev pub decreases-node : goal.decreases-node
decreases-node l = l.a.0
