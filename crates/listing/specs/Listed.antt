-- What an entry that lists clauses answers, and what becomes of its buffers.
use Rattle.std.specs.Prelude.{◌≡◌, true, List, [], ◌∷◌, ℕ, ◌*◌, ◌/◌, ◌≤◌, ltb, length, take, Result, Ok, Err}
use Rattle.theory.specs.Clause.{Clause}
use Rattle.refusal.specs.Number.{CLAUSES}
use Rattle.refusal.specs.Buffers.{padded, zeroing}
use Rattle.refusal.specs.Verdict.{Finding, finding, Verdict, refused, answered, judged}
use Rattle.refusal.specs.Number.{number_of}
use Rattle.refusal.specs.declared.Refusal.{Refusal}

-- two words per clause: fixed marks, then values
abbrev pub clause_stride : ℕ
clause_stride = 2

-- the words of a list of clauses
unfoldable pub clause_words : List Clause → List ℕ
clause_words [] = []
clause_words (x ∷ xs) = x.fixed ∷ x.values ∷ clause_words xs

-- how many clauses the lent output holds: an odd last word holds none
abbrev pub capacity : List ℕ → ℕ
capacity out = length out / clause_stride

-- CLAUSES: k clauses are more than the lent output holds
abbrev pub over_clauses : List ℕ → ℕ → ℕ → Finding
over_clauses out k place = finding CLAUSES (ltb (capacity out) k) place

-- the list is the answer: its number of clauses, and their words in the clause output
unfoldable pub list_answer : List Clause → Verdict
list_answer xs = answered (length xs ∷ []) (clause_words xs ∷ [])

-- after the admission's findings come those of the list itself, NODES and CLAUSES; without them the list is the answer
unfoldable pub lists : List Finding → List Finding → List Clause → Verdict
lists fs overs xs = judged fs (judged overs (list_answer xs))

-- a list of k clauses that is in the output, with nothing found against it
pub record Stands (overs : List Finding) (xs : List Clause) (out : List ℕ) (k : ℕ) : Type 0 where
  pub fits : clause_stride * k ≤ length out
  pub number : k ≡ length xs
  pub words : take (clause_stride * k) out ≡ clause_words xs
  pub clean : (v : Verdict) → judged overs v ≡ v

-- a list that is refused for its room
pub record Overflows (overs : List Finding) (number place : ℕ) : Type 0 where
  pub refuses : (v : Verdict) → judged overs v ≡ refused number place
  pub zeroes : zeroing number ≡ true

-- what a core leaves in the clause output
abbrev pub Leaves : List Finding → List Clause → List ℕ → Result ℕ Refusal → Type 0
Leaves overs xs out (Ok k) = Stands overs xs out k
Leaves overs xs out (Err r) = Overflows overs (number_of r.kind) r.place

-- what settling asks: the clauses lie within the output
abbrev pub Settling : Result ℕ Refusal → List ℕ → Type 0
Settling (Ok k) out = clause_stride * k ≤ length out
Settling (Err r) out = Unit {0}

-- what settling leaves
pub record Settled (answer : Result ℕ Refusal) (words out out' work work' : List ℕ) (r : Result ℕ Refusal) : Type 0 where
  pub is : r ≡ answer
  pub output : out' ≡ padded words (length out)
  pub memory : work' ≡ padded [] (length work)

abbrev pub Settles : Result ℕ Refusal → List ℕ → List ℕ → List ℕ → List ℕ → Result ℕ Refusal → Type 0
Settles (Ok k) out out' work work' r = Settled (Ok k) (take (clause_stride * k) out) out out' work work' r
Settles (Err s) out out' work work' r = Settled (Err s) [] out out' work work' r
