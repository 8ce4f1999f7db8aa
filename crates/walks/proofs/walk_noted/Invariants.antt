use Rattle.std.proofs.Common.{◌-◌}
use Rattle.walks.proofs.walk_noted.Given as goal

abbrev pub decreases-loop-i : goal.decreases-loop-i
decreases-loop-i l = l.steps - l._i
