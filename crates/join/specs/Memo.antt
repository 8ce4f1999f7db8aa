-- The memory of a descent: what was answered for a pair of nodes. Which entry gives way is in no contract.
use Rattle.std.specs.Prelude.{◌≡◌, ◌⊎◌, Option, Some, None, List, ℕ, ◌+◌, ◌*◌, ◌/◌, ◌%◌, ◌<◌, length, get_or}
use Rattle.refusal.specs.Limits.{max_nodes}
use Rattle.table.specs.declared.BddPointer.{BddPointer}

-- the entries that stand at one place
abbrev pub ways : ℕ
ways = 4

-- the place of a pair; the sixteenths keep pairs of one table with itself apart, whatever the number of places. Where there are as many places as right nodes, the left node and the place tell the right node
unfoldable pub slot_of : ℕ → ℕ → ℕ → ℕ
slot_of sets x y = (x * 40111 / 16 + y) % sets

-- an entry: the left node and the result; 0 is none
abbrev pub entry_of : ℕ → ℕ → ℕ
entry_of x r = (x + 1) * max_nodes + r

-- the memory holds r for the pair
pub record Remembers (m : List ℕ) (x y r : ℕ) : Type 0 where
  pub way : ℕ
  pub within : way < ways
  pub small : r < max_nodes
  pub entry : get_or m (ways * slot_of (length m / ways) x y + way) 0 ≡ entry_of x r

abbrev pub Recalls : List ℕ → ℕ → ℕ → Option BddPointer → Type 0
Recalls m x y (Some r) = Remembers m x y r.0
Recalls m x y None = Unit {0}

-- after a store the memory holds no more than before, and the new entry
abbrev pub Stores : List ℕ → List ℕ → ℕ → ℕ → ℕ → Type 0
Stores m m' x y r = (x' y' r' : ℕ) → y < length m / ways → y' < length m / ways → Remembers m' x' y' r' → ((x' ≡ x) × (y' ≡ y) × (r' ≡ r)) ⊎ Remembers m x' y' r'
