use Prim.Native.Nat.{◌-◌, ◌+◌, ◌*◌}
use Rattle.put.proofs.+branch_put.Given as goal

abbrev pub decreases-branch : goal.decreases-branch
decreases-branch l = 2 * (l.job.run.n - l.cut.variable.0)

abbrev pub decreases-put : goal.decreases-put
decreases-put l = 2 * (l.job.run.n - l.level) + 1
