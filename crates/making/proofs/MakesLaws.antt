-- The three equations of an entry that makes a table, from its admission, its core and the settling.
use mathlib.Core.Path.{◌≡◌, refl, sym, ap, subst, ◌∙◌}
use mathlib.Core.Bool.{Bool, false, cond}
use mathlib.Core.List.{List, [], ◌∷◌}
use Prim.Native.Nat.{ℕ, ◌*◌}
use lib.ListN.{length, take}
use Rattle.theory.specs.Table.{Table}
use Rattle.theory.specs.Words.{stride, words_of}
use Rattle.theory.proofs.Words.{length-nodes, words-nodes}
use Rattle.refusal.specs.Number.{NODES, order, number_of}
use Rattle.refusal.specs.Buffers.{padded, zeroing, buffer_after, output_after, work_after}
use Rattle.refusal.specs.Verdict.{Finding, finding, Verdict, refused, answered, first_of, tried, judged, replied}
use Rattle.refusal.specs.declared.Refusal.{Refusal}
use Rattle.refusal.proofs.Judged.{Clean, Quiet, refused_quiet}
use Rattle.refusal.specs.Told.{number, reply_of}
use Rattle.refusal.specs.declared.RefusalKind.TheVariants.{Nodes}
use Rattle.std.specs.Prelude.{Result, Ok, Err}
use Rattle.making.specs.Made.{table_answer, makes, Leaves, Settling, Settles}

-- what a call leaves, as its verdict says
pub record Outcome (v : Verdict) (r : Result ℕ Refusal) (out out' work work' : List ℕ) : Type 0 where
  pub reply : reply_of number r ≡ replied v
  pub output : out' ≡ output_after 0 v out
  pub memory : work' ≡ work_after v work

-- an answer in the buffers
answered_outcome : (v : Verdict) (t : Table) (out out' work work' : List ℕ) → v ≡ table_answer t → out' ≡ padded (words_of t) (length out) → work' ≡ padded [] (length work)
    → Outcome v (Ok (length t)) out out' work work'
unfolding replied table_answer buffer_after
answered_outcome v t out out' work work' e a b = rw e (record { reply = refl; output = a; memory = b })

-- NODES in the buffers
cleared_outcome : (v : Verdict) (p : ℕ) (out out' work work' : List ℕ) → v ≡ refused NODES p → out' ≡ padded [] (length out) → work' ≡ padded [] (length work)
    → Outcome v (Err (record { kind = Nodes; place = p })) out out' work work'
unfolding replied buffer_after zeroing
cleared_outcome v p out out' work work' e a b = rw e (record { reply = refl; output = a; memory = b })

-- a refusal that touches nothing
untouched_outcome : (v : Verdict) (r : Refusal) (out work : List ℕ) → v ≡ refused (number_of r.kind) r.place → zeroing (number_of r.kind) ≡ false → Outcome v (Err r) out out work work
unfolding replied buffer_after
untouched_outcome v r out work e q = rw e (record { reply = refl; output = rw q; memory = rw q })

module _ (fs : List Finding) (over : Bool) (place : ℕ) (t : Table) where
  -- refused in its admission, the call touches nothing
  pub makes-refused : Quiet fs → (r : Refusal) → ((v : Verdict) → judged fs v ≡ refused (number_of r.kind) r.place) → (out work : List ℕ)
      → Outcome (makes fs over place t) (Err r) out out work work
  unfolding makes
  makes-refused quiet r stays out work =
      untouched_outcome _ r out work (stays _) (refused_quiet [] [] (number_of r.kind) r.place fs quiet (stays (answered [] [])))

  room-decides : judged (finding NODES over place ∷ []) (table_answer t) ≡ cond over (refused NODES place) (table_answer t)
  unfolding judged tried order first_of
  room-decides = refl

  -- admitted, it leaves what its core made, settled
  module _ (clean : Clean (judged fs)) (out₁ out out' work₁ work work' : List ℕ) (same_out : length out₁ ≡ length out) (same-work : length work₁ ≡ length work) where
    verdict_is : makes fs over place t ≡ cond over (refused NODES place) (table_answer t)
    unfolding makes
    verdict_is = clean _ ∙ room-decides

    pub makes-settled : (tabled : Result ℕ ℕ) (r : Result ℕ Refusal) → Leaves over place t out₁ tabled → Settles tabled out₁ out' work₁ work' r → Outcome (makes fs over place t) r out out' work work'
    makes-settled (Ok c) r left kept =
        let is : c ≡ length t = sym (length-nodes c out₁) ∙ ap length left.1 in
        let words : words_of t ≡ take (stride * c) out₁ = ap words_of (sym left.1) ∙ words-nodes c out₁ left.0 in
        rw (kept.answer, is)
        (answered_outcome _ t out out' work work' (verdict_is ∙ ap (λ b. cond b (refused NODES place) (table_answer t)) left.2)
        (kept.output ∙ ap (λ w. padded w (length out₁)) (sym words) ∙ ap (padded (words_of t)) same_out)
        (kept.memory ∙ ap (padded []) same-work))
    makes-settled (Err p) r left cleared =
        rw cleared.answer
        (cleared_outcome _ p out out' work work' (verdict_is ∙ ap (λ b. cond b (refused NODES place) (table_answer t)) left.0 ∙ ap (refused NODES) left.1)
        (cleared.output ∙ ap (padded []) same_out)
        (cleared.memory ∙ ap (padded []) same-work))

-- what a core left can be settled
pub leaves_settling : (over : Bool) (place : ℕ) (t : Table) (out : List ℕ) (tabled : Result ℕ ℕ) → Leaves over place t out tabled → Settling tabled out
leaves_settling over place t out (Ok c) left = left.0
leaves_settling over place t out (Err p) left = tt

-- findings that let every verdict pass
pub clean_outcome : (fs : List Finding) → Clean (judged fs) → (over : Bool) (place : ℕ) (t : Table) (r : Result ℕ Refusal) (out out' work work' : List ℕ)
    → Outcome (makes [] over place t) r out out' work work' → Outcome (makes fs over place t) r out out' work work'
unfolding makes judged tried order first_of
clean_outcome fs clean over place t r out out' work work' o = subst (λ v. Outcome v r out out' work work') (sym (clean _)) o

-- what a call leaves, as its contract says it
abbrev pub Equations : Verdict → Result ℕ Refusal → List ℕ → List ℕ → List ℕ → List ℕ → Type 0
Equations v r out out' work work' = (reply_of number r ≡ replied v) × ((out' ≡ output_after 0 v out) × (work' ≡ work_after v work))

pub equations : (v : Verdict) (r : Result ℕ Refusal) (out out' work work' : List ℕ) → Outcome v r out out' work work' → Equations v r out out' work work'
equations v r out out' work work' o = (o.reply, (o.output, o.memory))
