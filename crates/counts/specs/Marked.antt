-- What gathering the marks of a table asks.
use Rattle.std.specs.Prelude.{List, ℕ, ◌*◌, ◌≤◌, length}
use Rattle.theory.specs.Table.{Ordered}
use Rattle.theory.specs.Words.{stride, nodes}
use Rattle.refusal.specs.Limits.{max_marks, max_nodes}

-- an ordered table in the words
pub record Marking (n count : ℕ) (words : List ℕ) : Type 0 where
  pub marks : n ≤ max_marks
  pub few : count ≤ 4 * max_nodes
  pub long : stride * count ≤ length words
  pub ordered : Ordered n (nodes count words)
