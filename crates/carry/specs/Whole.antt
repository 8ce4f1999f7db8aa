-- A whole table carried: what it asks, and what it leaves.
use Rattle.std.specs.Prelude.{List, ℕ, ◌*◌, ◌≤◌, ltb, length}
use Rattle.theory.specs.Tree.{Tree, mapped, cofactor}
use Rattle.theory.specs.Table.{Table, meaning, canon}
use Rattle.theory.specs.Words.{stride}
use Rattle.refusal.specs.Limits.{min_room, max_nodes}
use Rattle.std.specs.Prelude.{Result}
use Rattle.making.specs.Made.{Leaves}
use Rattle.carry.specs.declared.Way.{Way}
use Rattle.carry.specs.Carry.{flip}

-- room for the result in the output, and a word of memo for each node of the table
pub record Placing (out memo : List ℕ) (count room : ℕ) : Type 0 where
  pub some : min_room ≤ room
  pub few : room ≤ 4 * max_nodes
  pub long : stride * room ≤ length out
  pub wide : count ≤ length memo

-- the table's function after the way
abbrev pub along : Way → Table → Tree
along w s = mapped (flip w.exchange) (cofactor w.variable.0 w.value (meaning w.n s))

-- the canonical table of g in the output, or more nodes than room
abbrev pub CanonLeft : ℕ → ℕ → Tree → List ℕ → Result ℕ ℕ → Type 0
CanonLeft n room g out r = Leaves (ltb room (length (canon n g))) 0 (canon n g) out r
