use Rattle.build.proofs.+carry.Given as goal

abbrev pub decreases-carry : goal.decreases-carry
decreases-carry l = l.p.0
