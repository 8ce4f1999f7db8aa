-- Chains of the nodes that share a slot, and what their functions ensure.
use Rattle.std.specs.Prelude.{◌≡◌, Option, Some, None, List, ℕ, ◌+◌, ◌*◌, ◌%◌, ◌<◌, ◌≤◌, length, get_or, set}
use Rattle.theory.specs.Table.{mk}
use Rattle.theory.specs.Words.{node_at, nodes}
use Rattle.table.specs.declared.BddPointer.{BddPointer}
use Rattle.pool.specs.Pool.{Holds}

-- the slot of a node with mark v and links p and q
unfoldable pub slot_of : ℕ → ℕ → ℕ → ℕ → ℕ
slot_of cap v p q = (p * 12582917 + q * 4256249 + v) % cap

-- the slot of node i
abbrev pub slot_at : List ℕ → ℕ → ℕ → ℕ
slot_at w cap i = slot_of cap (node_at w i).mark (node_at w i).low (node_at w i).high

-- the chain of slot h begins with this node
abbrev pub head_at : List ℕ → ℕ → ℕ → ℕ
head_at w cap h = get_or w (4 * cap + h) 0

-- after node i comes this node
abbrev pub next_at : List ℕ → ℕ → ℕ → ℕ
next_at w cap i = get_or w (5 * cap + i) 0

-- i is the last node below k that has slot h; no node has where i is a constant
pub record Last (w : List ℕ) (cap h k i : ℕ) : Type 0 where
  pub below : 2 ≤ i → i < k
  pub slot : 2 ≤ i → slot_at w cap i ≡ h
  pub none : (j : ℕ) → 2 ≤ j → i < j → j < k → slot_at w cap j ≡ h → ⊥

-- each chain leads through the nodes of its slot, from the last down
pub record Chained (w : List ℕ) (cap k : ℕ) : Type 0 where
  pub head : (h : ℕ) → h < cap → Last w cap h k (head_at w cap h)
  pub next : (i : ℕ) → 2 ≤ i → i < k → Last w cap (slot_at w cap i) i (next_at w cap i)

-- node i at the front of chain h
abbrev pub hung : List ℕ → ℕ → ℕ → ℕ → List ℕ
hung w cap i h = set (set w (5 * cap + i) (head_at w cap h)) (4 * cap + h) i

-- ---- what the functions leave
pub record Noded (w w' : List ℕ) (cap k v p q r k' : ℕ) : Type 0 where
  pub holds : Holds (mk (nodes k w) v p q) cap w' r k'
  pub memo : (i : ℕ) → 3 * cap ≤ i → i < 4 * cap → get_or w' i 0 ≡ get_or w i 0
  pub chained : Chained w' cap k'

abbrev pub Notes : List ℕ → List ℕ → ℕ → ℕ → ℕ → ℕ → ℕ → Option (BddPointer × ℕ) → Type 0
Notes w w' cap k v p q (Some (r, k')) = Noded w w' cap k v p q r.0 k'
Notes w w' cap k v p q None = cap < length (mk (nodes k w) v p q).0

pub record Zeroed (w w' : List ℕ) (s e : ℕ) : Type 0 where
  pub zero : (i : ℕ) → s ≤ i → i < e → get_or w' i 0 ≡ 0
  pub front : (i : ℕ) → i < s → get_or w' i 0 ≡ get_or w i 0

pub record Indexed (w w' : List ℕ) (cap k : ℕ) : Type 0 where
  pub chained : Chained w' cap k
  pub front : (i : ℕ) → i < 4 * cap → get_or w' i 0 ≡ get_or w i 0
