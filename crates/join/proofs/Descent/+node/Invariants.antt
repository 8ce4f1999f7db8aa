use Rattle.std.proofs.Common.{◌-◌}
use Rattle.join.proofs.Descent.+node.Given as goal

abbrev pub decreases-node : goal.decreases-node
decreases-node l = l.self.now.job.n - l.level.0
