-- Trimming: literals cleared from the clauses in the output, mark by mark; and the whole short list of a function.
use Rattle.std.specs.Prelude.{◌≡◌, Bool, true, false, List, [], ◌∷◌, map, ℕ, zero, suc, ◌*◌, ◌≤◌, ◌<◌, length, take, Result, Ok, Err}
use Rattle.theory.specs.Tree.{Tree}
use Rattle.theory.specs.Clause.{Clause}
use Rattle.rule.specs.Rule.{support_marks, cleared, trimmed_by, trimmed, short_list, short_fits}
use Rattle.listing.specs.Listed.{clause_stride, clause_words, capacity}
use Rattle.trimming.specs.declared.Excess.{Excess}
use Rattle.trimming.specs.declared.Excess.TheVariants.{Nodes, Clauses}

-- the first k clauses are ys
pub record Says (out : List ℕ) (k : ℕ) (ys : List Clause) : Type 0 where
  pub number : length ys ≡ k
  pub words : take (clause_stride * k) out ≡ clause_words ys

-- the first i clauses cleared
unfoldable pub cleared_to : ℕ → Bool → ℕ → List Clause → List Clause
cleared_to x b zero ys = ys
cleared_to x b (suc i) [] = []
cleared_to x b (suc i) (y ∷ ys) = cleared x b y ∷ cleared_to x b i ys

abbrev pub Clears : List ℕ → List ℕ → ℕ → ℕ → Bool → Type 0
Clears out out' k x b = (ys : List Clause) → Says out k ys → Says out' k (map (cleared x b) ys)

abbrev pub TrimsBy : Tree → List ℕ → List ℕ → ℕ → ℕ → Type 0
TrimsBy f out out' x k = (ys : List Clause) → Says out k ys → Says out' k (trimmed_by f x ys)

abbrev pub Trims : ℕ → Tree → List ℕ → List ℕ → ℕ → Type 0
Trims n f out out' k = (ys : List Clause) → Says out k ys → Says out' k (trimmed f (support_marks n f) ys)

-- ---- the whole: the short list, or the first of NODES and CLAUSES that is due
abbrev pub Shortens : ℕ → ℕ → Tree → List ℕ → Result ℕ Excess → Type 0
Shortens n room f out (Ok k) = (short_fits room n f ≡ true) × (clause_stride * k ≤ length out) × Says out k (short_list n f)
Shortens n room f out (Err Nodes) = short_fits room n f ≡ false
Shortens n room f out (Err Clauses) = (short_fits room n f ≡ true) × (capacity out < length (short_list n f))
