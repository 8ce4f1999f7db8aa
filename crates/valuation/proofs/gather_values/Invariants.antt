-- `gather_values`: the fold of the entries that are left, from the valuation now, is the whole fold.
use Rattle.valuation.proofs.Gathering.{Gathered}
use Rattle.valuation.proofs.gather_values.Given as goal

abbrev pub invariant-loop-word : goal.invariant-loop-word
invariant-loop-word l = Gathered l.values l.v l.word-index
