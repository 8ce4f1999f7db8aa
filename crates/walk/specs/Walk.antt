-- The walk's struct: its parts, and what a step makes of them.
use Rattle.std.specs.Prelude.{◌≡◌, ℕ, Option, Some, None}
use Rattle.refusal.specs.Number.{number_of}
use Rattle.refusal.specs.Verdict.{replied}
use Rattle.refusal.specs.declared.Refusal.{Refusal}
use Rattle.valuation.specs.declared.BddPartialValuation.{BddPartialValuation}
use Rattle.walk.specs.declared.PathState.{PathState}
use Rattle.walk.specs.declared.BddPathIterator.{BddPathIterator}
use Rattle.walk.specs.Step.{path_step_reply, step_of, next_path, PathStart, Came}

-- a refusal's number and place, or 0 and 0 for none
abbrev pub number_in : Option Refusal → ℕ
number_in None = 0
number_in (Some r) = number_of r.kind

abbrev pub place_in : Option Refusal → ℕ
place_in None = 0
place_in (Some r) = r.place

-- a walk's parts: what its start found, its path, and its refusal
abbrev pub start_in : BddPathIterator → PathStart
start_in i = record { number = number_in i.refusal; place = place_in i.refusal; first = i.at }

abbrev pub path_in : BddPathIterator → PathState
path_in i = i.at

abbrev pub refusal_in : BddPathIterator → Option Refusal
refusal_in i = i.refusal

-- a walk that a start has made, after some steps: each walk is one
abbrev pub FromStart : BddPathIterator → Type 0
FromStart i = Came i.bdd.now (path_in i)

-- the walk t is s after a step: the next path over the same words, and the same refusal
pub record Moved (s t : BddPathIterator) : Type 0 where
  pub words : t.bdd ≡ s.bdd
  pub path : path_in t ≡ next_path s.bdd.now (path_in s)
  pub refusal : refusal_in t ≡ refusal_in s

-- what a step of the walk s gives, and the walk t afterwards
pub record Steps (s : BddPathIterator) (r : Option BddPartialValuation) (t : BddPathIterator) : Type 0 where
  pub says : path_step_reply r ≡ replied (step_of s.bdd.now (path_in s))
  pub moves : Moved s t
