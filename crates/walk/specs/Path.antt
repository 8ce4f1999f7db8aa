-- Paths to node 1, as the nodes on the way: the first one, the next one, and a path's clause.
use Rattle.std.specs.Prelude.{◌≡◌, ◌⊎◌, Bool, cond, not, ◌&&◌, List, [], ◌∷◌, ◌++◌, ℕ, zero, suc, ◌-◌, ◌*◌, ◌≤◌, ◌<◌, eqb, ltb, length, get_or, take, replicate}
use Rattle.theory.specs.Table.{Node, Reduced}
use Rattle.theory.specs.Words.{stride, node_at, nodes}
use Rattle.theory.specs.Clause.{Clause, empty_clause, set_cell}
use Rattle.refusal.specs.Limits.{max_marks}
use Rattle.table.specs.declared.BddPointer.{BddPointer}
use Rattle.walk.specs.declared.PathState.{PathState}

-- the nodes of a path, from the root to node 1
abbrev pub Path : Type 0
Path = List BddPointer

abbrev pub pointer : ℕ → BddPointer
pointer p = record { 0 = p }

-- node i of a path
abbrev pub on : Path → ℕ → ℕ
on x i = (get_or x i (pointer 0)).0

-- where the first path goes from a node: low, unless that is node 0
abbrev pub onward : Node → ℕ
onward x = cond (eqb x.low 0) x.high x.low

-- the first path from node p; no path has more than k links
unfoldable pub first_from : ℕ → List ℕ → ℕ → Path
first_from zero w p = pointer p ∷ []
first_from (suc k) w p = cond (ltb p 2) (pointer p ∷ []) (pointer p ∷ first_from k w (onward (node_at w p)))

-- the first path of a table: node 0 has none
unfoldable pub first_path : List ℕ → ℕ → Path
first_path w root = cond (eqb root 0) [] (first_from max_marks w root)

-- from node p the path goes low to q, and high is a way to node 1 too
unfoldable pub can_turn : List ℕ → ℕ → ℕ → Bool
can_turn w p q = eqb (node_at w p).low q && not (eqb (node_at w p).high 0)

-- how many nodes the next path keeps: those up to the last of the first i at which this one can turn
unfoldable pub kept : List ℕ → Path → ℕ → ℕ
kept w x zero = 0
kept w x (suc i) = cond (can_turn w (on x i) (on x (suc i))) (suc i) (kept w x i)

-- the nodes kept, then high, then as the first path goes; none where no node is kept
unfoldable pub turned : List ℕ → Path → ℕ → Path
turned w x zero = []
turned w x (suc i) = take (suc i) x ++ first_from max_marks w (node_at w (on x i)).high

-- the path after this one; none after the last
unfoldable pub path_next : List ℕ → Path → Path
path_next w x = turned w x (kept w x (length x - 1))

-- the cells set on the way from p along x, over those set before: low sets 0, high sets 1
unfoldable pub cells_from : List ℕ → Clause → ℕ → Path → Clause
cells_from w c p [] = c
cells_from w c p (q ∷ x) = cells_from w (set_cell c (node_at w p).mark (eqb (node_at w p).high q.0)) q.0 x

-- a path's clause
unfoldable pub clause_along : List ℕ → Path → Clause
clause_along w [] = empty_clause
clause_along w (p ∷ x) = cells_from w empty_clause p.0 x

-- the places of a path's array: one for each mark, and one for the constant
abbrev pub places : ℕ
places = 61

-- a path in its array, node 0 behind it
unfoldable pub in_array : Path → Path
in_array x = x ++ replicate (places - length x) (pointer 0)

abbrev pub state_of : Path → PathState
state_of x = record { len = length x; path = in_array x }

-- the path that a state holds
abbrev pub held : PathState → Path
held s = take s.len s.path

-- a path to node 1 in a reduced table within the limits
pub record Along (w : List ℕ) (x : Path) : Type 0 where
  pub n : ℕ
  pub count : ℕ
  pub marks : n ≤ max_marks
  pub long : stride * count ≤ length w
  pub reduced : Reduced n (nodes count w)
  pub some : 1 ≤ length x
  pub root : on x 0 < count
  pub inner : (i : ℕ) → suc i < length x → 2 ≤ on x i
  pub linked : (i : ℕ) → suc i < length x → (on x (suc i) ≡ (node_at w (on x i)).low) ⊎ (on x (suc i) ≡ (node_at w (on x i)).high)
  pub last : on x (length x - 1) ≡ 1

-- a state that holds such a path, or none
pub record Held (w : List ℕ) (s : PathState) : Type 0 where
  pub way : Path
  pub is : s ≡ state_of way
  pub right : (way ≡ []) ⊎ Along w way

-- node p, from which the path so far can go on to node 1
pub record Descends (w : List ℕ) (x : Path) (p : ℕ) : Type 0 where
  pub n : ℕ
  pub count : ℕ
  pub marks : n ≤ max_marks
  pub long : stride * count ≤ length w
  pub reduced : Reduced n (nodes count w)
  pub lies : p < count
  pub ends : 1 ≤ p
  pub deep : length x ≤ (node_at w p).mark

pub record Descending (w : List ℕ) (s : PathState) (p : ℕ) : Type 0 where
  pub way : Path
  pub is : s ≡ state_of way
  pub goes : Descends w way p
