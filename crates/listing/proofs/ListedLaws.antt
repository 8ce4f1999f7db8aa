-- The three equations of an entry that lists clauses, from its admission, its core and the settling.
use mathlib.Core.Path.{◌≡◌, refl, ap, ◌∙◌}
use mathlib.Core.Bool.{true, false}
use mathlib.Core.List.{List, []}
use Prim.Native.Nat.{ℕ}
use lib.ListN.{length}
use Rattle.theory.specs.Clause.{Clause}
use Rattle.refusal.specs.Buffers.{padded, zeroing, buffer_after, output_after, work_after}
use Rattle.refusal.specs.Verdict.{Finding, Verdict, refused, answered, judged, replied}
use Rattle.refusal.specs.declared.Refusal.{Refusal}
use Rattle.refusal.proofs.Judged.{Clean, Quiet, refused_quiet}
use Rattle.refusal.specs.Number.{number_of}
use Rattle.refusal.specs.Told.{number, reply_of}
use Rattle.std.specs.Prelude.{Result, Ok, Err}
use Rattle.listing.specs.Listed.{clause_words, list_answer, lists, Leaves, Settling, Settles}

-- what a core left can be settled
pub settling : (overs : List Finding) (xs : List Clause) (out : List ℕ) (w : Result ℕ Refusal) → Leaves overs xs out w → Settling w out
settling overs xs out (Ok k) left = left.fits
settling overs xs out (Err r) left = tt

-- ---- the whole call

-- what a call leaves, as its verdict says
pub record Outcome (v : Verdict) (r : Result ℕ Refusal) (out out' work work' : List ℕ) : Type 0 where
  pub reply : reply_of number r ≡ replied v
  pub output : out' ≡ output_after 0 v out
  pub memory : work' ≡ work_after v work

answered_outcome : (v : Verdict) (xs : List Clause) (out out' work work' : List ℕ) → v ≡ list_answer xs → out' ≡ padded (clause_words xs) (length out) → work' ≡ padded [] (length work)
    → Outcome v (Ok (length xs)) out out' work work'
unfolding replied list_answer buffer_after
answered_outcome v xs out out' work work' e a b = rw e (record { reply = refl; output = a; memory = b })

cleared_outcome : (v : Verdict) (r : Refusal) (out out' work work' : List ℕ) → v ≡ refused (number_of r.kind) r.place → zeroing (number_of r.kind) ≡ true
    → out' ≡ padded [] (length out) → work' ≡ padded [] (length work) → Outcome v (Err r) out out' work work'
unfolding replied buffer_after
cleared_outcome v r out out' work work' e z a b = rw e (record { reply = refl; output = rw z a; memory = rw z b })

untouched_outcome : (v : Verdict) (r : Refusal) (out work : List ℕ) → v ≡ refused (number_of r.kind) r.place → zeroing (number_of r.kind) ≡ false → Outcome v (Err r) out out work work
unfolding replied buffer_after
untouched_outcome v r out work e q = rw e (record { reply = refl; output = rw q; memory = rw q })

module _ (fs overs : List Finding) (xs : List Clause) where
  -- refused in its admission, the call touches nothing
  pub lists-refused : Quiet fs → (r : Refusal) → ((v : Verdict) → judged fs v ≡ refused (number_of r.kind) r.place) → (out work : List ℕ)
      → Outcome (lists fs overs xs) (Err r) out out work work
  unfolding lists
  lists-refused quiet r stays out work =
      untouched_outcome _ r out work (stays _) (refused_quiet [] [] (number_of r.kind) r.place fs quiet (stays (answered [] [])))

  -- admitted, it leaves what its core wrote, settled
  module _ (clean : Clean (judged fs)) (out₁ out out' work₁ work work' : List ℕ) (same_out : length out₁ ≡ length out) (same-work : length work₁ ≡ length work) where
    pub lists-settled : (w : Result ℕ Refusal) (r : Result ℕ Refusal) → Leaves overs xs out₁ w → Settles w out₁ out' work₁ work' r → Outcome (lists fs overs xs) r out out' work work'
    unfolding lists
    lists-settled (Ok k) r left settled =
        rw (settled.is, left.number)
        (answered_outcome _ xs out out' work work' (clean _ ∙ left.clean _)
        (settled.output ∙ ap (λ w. padded w (length out₁)) left.words ∙ ap (padded (clause_words xs)) same_out)
        (settled.memory ∙ ap (padded []) same-work))
    lists-settled (Err s) r left settled =
        rw settled.is
        (cleared_outcome _ s out out' work work' (clean _ ∙ left.refuses _) left.zeroes
        (settled.output ∙ ap (padded []) same_out)
        (settled.memory ∙ ap (padded []) same-work))

-- the three equations of an entry that lists clauses
abbrev pub Equations : Verdict → Result ℕ Refusal → List ℕ → List ℕ → List ℕ → List ℕ → Type 0
Equations v r out out' work work' = (reply_of number r ≡ replied v) × ((out' ≡ output_after 0 v out) × (work' ≡ work_after v work))

pub equations : (v : Verdict) (r : Result ℕ Refusal) (out out' work work' : List ℕ) → Outcome v r out out' work work' → Equations v r out out' work work'
equations v r out out' work work' o = (o.reply, (o.output, o.memory))
