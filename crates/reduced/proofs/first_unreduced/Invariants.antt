use Rattle.std.specs.Prelude.{◌≡◌, true, ℕ, ◌<◌}
use Rattle.theory.specs.Words.{nodes}
use Rattle.reduced.specs.Reduced.{node_reduced}
use Rattle.reduced.proofs.first_unreduced.Given as goal

abbrev pub invariant-loop-i : goal.invariant-loop-i
invariant-loop-i l = (j : ℕ) → j < l.i → node_reduced l.table.n (nodes l.table.count l.table.words.now) j ≡ true
