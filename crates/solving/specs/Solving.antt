-- The short list's recursion: clauses in the output, and the functions already found harmless.
use Rattle.std.specs.Prelude.{◌≡◌, true, false, List, [], ◌∷◌, ◌++◌, ℕ, zero, suc, ◌+◌, ◌*◌, ◌≤◌, min, length, take, Option, Some, None}
use Rattle.theory.specs.Tree.{Tree, cofactor}
use Rattle.theory.specs.Clause.{Clause, set_cell}
use Rattle.rule.specs.Rule.{core_of, rest_of, mark_of, solved, called, all_fit}
use Rattle.listing.specs.Listed.{clause_stride, clause_words, capacity}
use Rattle.harmless.specs.Memory.{Remembers}

-- ---- the output: clauses are counted up to one more than there is place for, and written while they fit
pub record Out (out : List ℕ) (k : ℕ) (ys : List Clause) : Type 0 where
  pub count : k ≡ min (length ys) (capacity out + 1)
  pub words : length ys ≤ capacity out → take (clause_stride * k) out ≡ clause_words ys

abbrev pub Pushes : List ℕ → List ℕ → ℕ → Clause → ℕ → Type 0
Pushes out out' k y r = (ys : List Clause) → Out out k ys → Out out' r (ys ++ (y ∷ []))

-- ---- the three parts of a function, in the order in which they are solved
abbrev pub part_of : ℕ → Tree → ℕ → Tree
part_of n f zero = core_of n f
part_of n f (suc zero) = cofactor (mark_of n f) true (rest_of n f)
part_of n f (suc (suc i)) = cofactor (mark_of n f) false (rest_of n f)

abbrev pub literals_of : ℕ → Clause → ℕ → Clause
literals_of m y zero = y
literals_of m y (suc zero) = set_cell y m true
literals_of m y (suc (suc i)) = set_cell y m false

-- of the first i parts: the clauses, and what is called for
unfoldable pub solved_to : ℕ → ℕ → Tree → Clause → ℕ → List Clause
solved_to d n f y zero = []
solved_to d n f y (suc i) = solved_to d n f y i ++ solved d n (part_of n f i) (literals_of (mark_of n f) y i)

unfoldable pub called_to : ℕ → ℕ → Tree → ℕ → List Tree
called_to d n f zero = []
called_to d n f (suc i) = called_to d n f i ++ called d n (part_of n f i)

-- ---- the recursion: the clauses are in the output, and what was found harmless on the way is; or a table is over room
pub record Listed (n room : ℕ) (f : Tree) (y : Clause) (k : ℕ) (known out out' : List ℕ) (r : ℕ) : Type 0 where
  pub few : r ≤ capacity out' + 1
  pub remembers : Remembers n room known
  pub fits : all_fit room n (called (n + 1) n f) ≡ true
  pub written : (ys : List Clause) → Out out k ys → Out out' r (ys ++ solved (n + 1) n f y)

abbrev pub Solves : ℕ → ℕ → Tree → Clause → ℕ → List ℕ → List ℕ → List ℕ → Option ℕ → Type 0
Solves n room f y k known out out' (Some r) = Listed n room f y k known out out' r
Solves n room f y k known out out' None = all_fit room n (called (n + 1) n f) ≡ false
