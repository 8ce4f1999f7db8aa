use Rattle.std.specs.Prelude.{◌≡◌, true, ℕ, ◌<◌}
use Rattle.theory.specs.Table.{node_ok}
use Rattle.theory.specs.Words.{nodes}
use Rattle.table.proofs.first_bad.Given as goal

abbrev pub invariant-loop-i : goal.invariant-loop-i
invariant-loop-i l = (j : ℕ) → j < l.i → node_ok l.n (nodes l.count l.bdd) j ≡ true
