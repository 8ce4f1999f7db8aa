-- The path walk: what it is at its start and after each step.
use Rattle.std.specs.Prelude.{◌≡◌, true, cond, List, [], ◌∷◌, ℕ, zero, suc, ◌-◌, eqb, Option, Result, Ok, Err}
use Rattle.theory.specs.Words.{nodes}
use Rattle.theory.specs.Clause.{Clause}
use Rattle.refusal.specs.Verdict.{Reply, gives, Verdict, refused, answered}
use Rattle.paths.specs.Paths.{path_list}
use Rattle.reduced.specs.Reduced.{admits_walk}
use Rattle.walk.specs.Path.{Path, path_next, first_path, clause_along, state_of, held}
use Rattle.walk.specs.declared.PathState.{PathState}
use Rattle.refusal.specs.Number.{number_of}
use Rattle.refusal.specs.declared.Refusal.{Refusal}
use Rattle.refusal.specs.Told.{optional}
use Rattle.valuation.specs.Replies.{both_words}
use Rattle.valuation.specs.declared.BddPartialValuation.{BddPartialValuation}

-- a step's reply: ended, or a clause
abbrev pub path_step_reply : Option BddPartialValuation → Reply
path_step_reply r = gives (optional both_words r)

abbrev pub ended : Verdict
ended = answered (0 ∷ []) []

abbrev pub yields : Clause → Verdict
yields c = answered (1 ∷ c.fixed ∷ c.values ∷ []) []

-- a step says the clause of the path that the walk holds, or that the walk has ended
unfoldable pub step_of : List ℕ → PathState → Verdict
step_of w s = cond (eqb s.len 0) ended (yields (clause_along w (held s)))

-- afterwards it holds the next path
unfoldable pub next_path : List ℕ → PathState → PathState
next_path w s = state_of (path_next w (held s))

-- what a start finds: a refusal and no path, or number 0 and the first path
pub record PathStart : Type 0 where
  pub number : ℕ
  pub place : ℕ
  pub first : PathState

unfoldable pub start_by : Verdict → Path → PathStart
start_by (refused k p) x = record { number = k; place = p; first = state_of [] }
start_by (answered vs outs) x = record { number = 0; place = 0; first = state_of x }

unfoldable pub start_of : ℕ → ℕ → List ℕ → PathStart
start_of n count w = start_by (admits_walk n count w) (first_path w (count - 1))

abbrev pub found : Result PathState Refusal → PathStart
found (Ok s) = record { number = 0; place = 0; first = s }
found (Err r) = record { number = number_of r.kind; place = r.place; first = state_of [] }

-- the words that a walk holds: the whole lent slice, or none where the start is refused
unfoldable pub held_words : ℕ → List ℕ → List ℕ
held_words number w = cond (eqb number 0) w []

abbrev pub words_of : ℕ → ℕ → List ℕ → List ℕ
words_of n count w = held_words (start_of n count w).number w

-- the path that a start has found
abbrev pub path_of : PathStart → PathState
path_of s = s.first

-- the path after k steps
abbrev pub path_after : ℕ → List ℕ → PathState → PathState
path_after zero w s = s
path_after (suc k) w s = next_path w (path_after k w s)

-- what a walk says after k steps
abbrev pub kth_step : ℕ → ℕ → List ℕ → ℕ → Verdict
kth_step n count w k = step_of (words_of n count w) (path_after k (words_of n count w) (path_of (start_of n count w)))

-- what the step after k others says in a walk through these clauses: each step yields the next one, and after the last every step says ended
unfoldable pub tells : List Clause → ℕ → Verdict
tells [] k = ended
tells (c ∷ cs) zero = yields c
tells (c ∷ cs) (suc k) = tells cs k

-- the clauses that a walk has before it: none where the start is refused
unfoldable pub clauses_by : Verdict → List Clause → List Clause
clauses_by (refused k p) cs = []
clauses_by (answered vs outs) cs = cs

-- they are the table's path list
abbrev pub walk_clauses : ℕ → ℕ → List ℕ → List Clause
walk_clauses n count w = clauses_by (admits_walk n count w) (path_list true n (nodes count w))

-- words and a path that a start has found, or some steps after it
abbrev pub Came : List ℕ → PathState → Type 0
Came held s = (n : ℕ) × ((count : ℕ) × ((w : List ℕ) × ((k : ℕ) ×
    ((held ≡ words_of n count w) × (s ≡ path_after k (words_of n count w) (path_of (start_of n count w)))))))
