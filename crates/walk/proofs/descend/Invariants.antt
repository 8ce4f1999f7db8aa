use mathlib.Core.List.{◌++◌}
use lib.ListN.{take}
use Rattle.refusal.specs.Limits.{max_marks}
use Rattle.walk.specs.Path.{first_from}
use Rattle.walk.proofs.PathLaws.{Descent}
use Rattle.walk.proofs.descend.Given as goal

abbrev pub invariant-loop-q : goal.invariant-loop-q
invariant-loop-q l = ∥ Descent l.bdd (take l.initial.len l.initial.path ++ first_from max_marks l.bdd l.initial.q.0) l.len l.path l.q.0 ∥₁

abbrev pub decreases-loop-q : goal.decreases-loop-q
decreases-loop-q l = l.q.0
