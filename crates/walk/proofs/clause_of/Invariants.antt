use Rattle.std.proofs.Common.{◌-◌}
use Rattle.valuation.specs.Valuation.{clause_of}
use Rattle.walk.specs.Path.{held}
use Rattle.walk.proofs.PathLaws.{Celled}
use Rattle.walk.proofs.clause_of.Given as goal

abbrev pub invariant-loop-i : goal.invariant-loop-i
invariant-loop-i l = Celled l.bdd (held l.s) (clause_of l.v) l.i

abbrev pub decreases-loop-i : goal.decreases-loop-i
decreases-loop-i l = l.i-end - l.i
