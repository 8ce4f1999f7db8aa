-- What finding and making a node ask and ensure.
use Rattle.std.specs.Prelude.{◌≡◌, cond, eqb, Option, Some, None, Result, Ok, Err, List, [], ◌∷◌, ◌++◌, ℕ, suc, ◌*◌, ◌<◌, ◌≤◌, length}
use Rattle.theory.specs.Table.{node, Table, Good}
use Rattle.theory.specs.Words.{stride, node_at, nodes}
use Rattle.theory.proofs.Step.{Stands}
use Rattle.refusal.specs.Limits.{max_nodes}
use Rattle.table.specs.declared.BddPointer.{BddPointer}

-- node i is the one that is looked for
pub record Hit (w : List ℕ) (k v p q i : ℕ) : Type 0 where
  pub below : i < k
  pub same : node_at w i ≡ node v p q

-- no node above both links is
abbrev pub Miss : List ℕ → ℕ → ℕ → ℕ → ℕ → Type 0
Miss w k v p q = (i : ℕ) → p < i → q < i → i < k → node_at w i ≡ node v p q → ⊥

abbrev pub Searched : List ℕ → ℕ → ℕ → ℕ → ℕ → Option BddPointer → Type 0
Searched w k v p q (Some i) = Hit w k v p q i.0
Searched w k v p q None = Miss w k v p q

-- a count within its room, which lies in the words. A pool of twice the most nodes fits too
pub record Pushing (w : List ℕ) (room k : ℕ) : Type 0 where
  pub few : room ≤ 4 * max_nodes
  pub long : stride * room ≤ length w
  pub fits : k ≤ room

-- the same, with a good table of k nodes, and two nodes on which a node of mark v can stand
pub record Noding (w : List ℕ) (n room k v p q : ℕ) : Type 0 where
  pub pushing : Pushing w room k
  pub good : Good n (nodes k w)
  pub level : v < n
  pub low : Stands (nodes k w) (suc v) p
  pub high : Stands (nodes k w) (suc v) q

-- the words hold the table and the node z
pub record Holds (z : Table × ℕ) (room : ℕ) (w : List ℕ) (r k : ℕ) : Type 0 where
  pub is : z ≡ (nodes k w, r)
  pub fits : k ≤ room

abbrev pub Answers : Table × ℕ → ℕ → List ℕ → Option (BddPointer × ℕ) → Type 0
Answers z room w (Some (r, k)) = Holds z room w r.0 k
Answers z room w None = room < length z.0

-- one node more
abbrev pub pushed : List ℕ → ℕ → ℕ → ℕ → ℕ → Table × ℕ
pushed w k v p q = (nodes k w ++ (node v p q ∷ []), k)

-- false is one node; any other table ends at its root
unfoldable pub cut_count : ℕ → ℕ → ℕ
cut_count root k = cond (eqb root 0) 1 k

-- a whole table's count, or the place of NODES
abbrev pub whole_table : Option (BddPointer × ℕ) → Result ℕ ℕ
whole_table None = Err 0
whole_table (Some (r, k)) = Ok (cut_count r.0 k)
