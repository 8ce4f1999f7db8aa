-- What a call answers: one verdict for each input, and its reply in the specification's numbers.
use Rattle.std.specs.Prelude.{Bool, cond, ◌&&◌, List, [], ◌∷◌, ℕ, eqb}
use Rattle.refusal.specs.Number.{order, number_of}
use Rattle.refusal.specs.declared.Refusal.{Refusal}

-- a refusal with its number and place; or an answer: its values, and the words that each lent output gets, in the order of the arguments
pub data Verdict : Type 0 where
  refused : ℕ → ℕ → Verdict
  answered : List ℕ → List (List ℕ) → Verdict

-- one thing that may be wrong with a call: its number, whether it is so, and the place then returned
pub record Finding : Type 0 where
  pub number : ℕ
  pub so : Bool
  pub place : ℕ

abbrev pub finding : ℕ → Bool → ℕ → Finding
finding k b p = record { number = k; so = b; place = p }

-- the first finding of number k that is so refuses; else it is as given
unfoldable pub first_of : ℕ → List Finding → Verdict → Verdict
first_of k [] v = v
first_of k (f ∷ fs) v = cond (eqb f.number k && f.so) (refused k f.place) (first_of k fs v)

-- the numbers are tried in turn
unfoldable pub tried : List ℕ → List Finding → Verdict → Verdict
tried [] fs v = v
tried (k ∷ ks) fs v = first_of k fs (tried ks fs v)

-- what a call answers: the refusal that comes first in the order of checking, or, where nothing is wrong, the answer
unfoldable pub judged : List Finding → Verdict → Verdict
judged fs v = tried order fs v

-- number, place and values of an answer; a refusal returns no values, and what is not refused has number 0 and place 0
pub record Reply : Type 0 where
  pub number : ℕ
  pub place : ℕ
  pub values : List ℕ

abbrev pub refused_with : ℕ → ℕ → Reply
refused_with k p = record { number = k; place = p; values = [] }

abbrev pub gives : List ℕ → Reply
gives vs = record { number = 0; place = 0; values = vs }

abbrev pub refusal_reply : Refusal → Reply
refusal_reply r = refused_with (number_of r.kind) r.place

unfoldable pub replied : Verdict → Reply
replied (refused k p) = refused_with k p
replied (answered vs outs) = gives vs
