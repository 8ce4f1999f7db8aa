-- `first_bad_mark`: the marks that were passed are below 60.
use Rattle.valuation.proofs.Gathering.{Passed}
use Rattle.valuation.proofs.first_bad_mark.Given as goal

abbrev pub invariant-loop-i : goal.invariant-loop-i
invariant-loop-i l = Passed l.values l.i
