use Rattle.std.proofs.Common.{◌-◌}
use Rattle.implies.proofs.Descent.+says_no.Given as goal

abbrev pub decreases-says_no : goal.decreases-says_no
decreases-says_no l = l.self.now.job.n - l.level.0
