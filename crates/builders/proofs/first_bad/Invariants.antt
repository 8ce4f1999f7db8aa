use Rattle.std.proofs.Common.{◌≡◌, ◌<◌, ℕ, true, not}
use Rattle.builders.specs.Builders.{bad_entry}
use Rattle.builders.proofs.first_bad.Given as goal

abbrev pub invariant-loop-i : goal.invariant-loop-i
invariant-loop-i g l = (j : ℕ) → j < l.i → not (bad_entry g.E.Entries.cases l.n l.list j) ≡ true
