use Prim.Native.Nat.{◌-◌}
use Rattle.cover.proofs.+first_differing.Given as goal

abbrev pub decreases-first_differing : goal.decreases-first_differing
decreases-first_differing l = l.n - l.level
