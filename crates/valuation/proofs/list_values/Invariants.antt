-- `list_values`: the words so far, and those of the marks that are left.
use Rattle.valuation.specs.Valuation.{clause_of}
use Rattle.valuation.specs.Marks.{marks_left}
use Rattle.valuation.proofs.Listing.{Listed}
use Rattle.valuation.proofs.list_values.Given as goal

abbrev pub invariant-loop-mark : goal.invariant-loop-mark
invariant-loop-mark l = Listed (clause_of l.v) l.words l.count (marks_left l.mark-iterator)
