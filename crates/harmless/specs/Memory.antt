-- The memory of functions found harmless.
use Rattle.std.specs.Prelude.{◌≡◌, Bool, true, List, ℕ, ◌+◌, ◌*◌, ◌<◌, drop, get_or}
use Rattle.theory.specs.Tree.{Tree}
use Rattle.theory.specs.Words.{stride}
use Rattle.rule.specs.Rule.{called, all_fit}
use Rattle.held.specs.Held.{Tab}

-- n + 2 blocks of four places
abbrev pub known_words : ℕ → ℕ → ℕ
known_words n room = 4 * (stride * room) * (n + 2)

-- harmless: the run of the function calls for nothing that is over room
abbrev pub Harmless : ℕ → ℕ → Tree → Type 0
Harmless n room f = all_fit room n (called (n + 1) n f) ≡ true

abbrev pub Recalls : ℕ → ℕ → Tree → Bool → Type 0
Recalls n room f r = r ≡ true → Harmless n room f

-- slots of a node count and a place for its nodes, three to a block
abbrev pub slot_size : ℕ → ℕ
slot_size room = 1 + stride * room

abbrev pub slots : ℕ → ℕ
slots n = 3 * (n + 2)

abbrev pub slot_at : ℕ → ℕ → ℕ
slot_at room i = slot_size room * i

-- a function whose table is in a slot is harmless
unfoldable pub Remembers : ℕ → ℕ → List ℕ → Type 0
Remembers n room h = (i : ℕ) (f : Tree) → i < slots n → Tab n room (drop (slot_at room i + 1) h) (get_or h (slot_at room i) 0) f → Harmless n room f

-- the slot of a number
pub record Slot (n room r : ℕ) : Type 0 where
  pub index : ℕ
  pub less : index < slots n
  pub is : r ≡ slot_at room index
