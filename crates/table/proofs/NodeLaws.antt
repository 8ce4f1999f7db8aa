-- The tests of a node, read off its words.
use Rattle.std.specs.Prelude.{◌≡◌, List, ℕ, ◌<◌}
use Rattle.theory.specs.Table.{at}
use Rattle.theory.specs.Words.{node_at, nodes}
use Rattle.theory.proofs.Words.{at-nodes}

-- a node of the table, as its words say it
pub node_read : (count : ℕ) (w : List ℕ) (p : ℕ) → p < count → at (nodes count w) p ≡ node_at w p
node_read = at-nodes
