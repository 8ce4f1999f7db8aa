use Rattle.std.proofs.Common.{◌≡◌, ◌-◌}
use Rattle.walk.specs.Path.{kept}
use Rattle.walk.proofs.kept_of.Given as goal

abbrev pub invariant-loop-i : goal.invariant-loop-i
invariant-loop-i l = kept l.bdd l.s.path (l.i - 1) ≡ kept l.bdd l.s.path (l.s.len - 1)
