-- Functions as their canonical tables at the front of words.
use Rattle.std.specs.Prelude.{◌≡◌, List, ℕ, ◌*◌, ◌≤◌, ◌<◌, length, Option, Some, None}
use Rattle.theory.specs.Tree.{Tree, Deep}
use Rattle.theory.specs.Table.{meaning, canon}
use Rattle.theory.specs.Words.{stride, nodes}
use Rattle.refusal.specs.Limits.{min_room, max_marks, max_nodes}

-- the function that the first k nodes mean
abbrev pub tree_in : ℕ → List ℕ → ℕ → Tree
tree_in n w k = meaning n (nodes k w)

-- the first k nodes are the canonical table of what they mean, within the room
pub record Canonical (n room : ℕ) (w : List ℕ) (k : ℕ) : Type 0 where
  pub marks : n ≤ max_marks
  pub some : min_room ≤ room
  pub few : room ≤ max_nodes
  pub lies : stride * k ≤ length w
  pub fits : k ≤ room
  pub table : nodes k w ≡ canon n (meaning n (nodes k w))

-- the first k nodes are the canonical table of g, within the room
pub record Tab (n room : ℕ) (w : List ℕ) (k : ℕ) (g : Tree) : Type 0 where
  pub deep : Deep n g
  pub lies : stride * k ≤ length w
  pub fits : k ≤ room
  pub table : nodes k w ≡ canon n g

-- what an operation leaves in the words: the canonical table of g, or that is over room
abbrev pub Gives : ℕ → ℕ → List ℕ → Tree → Option ℕ → Type 0
Gives n room w g (Some k) = Tab n room w k g
Gives n room w g None = room < length (canon n g)
