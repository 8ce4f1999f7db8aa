-- Laws of a list of values: its first mark that is too large, and the fold of its entries.
use mathlib.Core.Path.{◌≡◌, sym, ap, ◌∙◌}
use mathlib.Core.Bool.{true}
use mathlib.Core.List.{List, []}
use Prim.Native.Nat.{ℕ, ◌+◌, ◌/◌, ◌^◌, ◌≤◌, ◌<◌}
use native.Mathlib.Numerals.{add-one}
use native.Mathlib.Omega.{arith}
use native.Mathlib.Decide.{dec_lt}
use lib.Dec.{ltb}
use lib.ListN.{length, get_or, drop, drop_of_length-le}
use lib.Seq.{drop-cons}
use borrow.Author.Tests.{le-ltb, ltb-true, ltb-false}
use Rattle.theory.specs.Mask.{odd}
use Rattle.theory.specs.Clause.{empty_clause, set_cell, gather}
use Rattle.refusal.specs.Limits.{max_marks}
use Rattle.refusal.proofs.Firsts.{first-le, first-is, first-none, first-before}
use Rattle.refusal.specs.Number.{VARIABLE}
use Rattle.refusal.specs.Told.{refuse_if}
use Rattle.refusal.specs.declared.Refusal.{Refusal}
use Rattle.refusal.specs.declared.RefusalKind.TheVariants.{Variable}
use Rattle.refusal.proofs.Judged.{test_passed, test_refused}
use Rattle.std.specs.Prelude.{Ok, Err}
use Rattle.refusal.specs.Verdict.{Reply, replied, refusal_reply, refused_with, gives, answered, judged}
use Rattle.valuation.specs.Valuation.{clause_of, first_bad_mark, of_list, says_clause, gathers_values}
use Rattle.valuation.specs.Replies.{both_words}
use Rattle.valuation.proofs.Checks.{list_bad, list-good}
use Rattle.valuation.specs.declared.BddPartialValuation.{BddPartialValuation}

-- the first i entries' marks are below 60
pub record Passed (ws : List ℕ) (i : ℕ) : Type 0 where
  pub within : i ≤ length ws
  pub good : (j : ℕ) → j < i → ltb (get_or ws j 0 / 2) max_marks ≡ true

pub bad_here : {ws : List ℕ} {i : ℕ} → Passed ws i → i < length ws → max_marks ≤ get_or ws i 0 / 2 → i ≡ first_bad_mark ws
unfolding first_bad_mark
bad_here {ws} {i} p l h = sym (first-is _ (length ws) i l p.good (le-ltb (get_or ws i 0 / 2) max_marks h))

pub bad_none : {ws : List ℕ} {i : ℕ} → Passed ws i → length ws ≤ i → i ≡ first_bad_mark ws
unfolding first_bad_mark
bad_none {ws} {i} p l =
    let e : i ≡ length ws = omega arith in
    e ∙ sym (first-none _ (length ws) (λ j d. p.good j (omega arith)))

bad_le : (ws : List ℕ) → first_bad_mark ws ≤ length ws
unfolding first_bad_mark
bad_le ws = first-le (λ j. ltb (get_or ws j 0 / 2) max_marks) (length ws)

-- where no entry is bad, every mark is below 60
pub all-below : (ws : List ℕ) → first_bad_mark ws ≡ length ws → (i : ℕ) → i < length ws → get_or ws i 0 / 2 < max_marks
unfolding first_bad_mark
all-below ws e i h = ltb-true (get_or ws i 0 / 2) max_marks (first-before (λ j. ltb (get_or ws j 0 / 2) max_marks) (length ws) i (omega arith))

-- a list that is not refused has no bad entry
pub passed-all : (ws : List ℕ) → judged (of_list ws) (answered [] []) ≡ answered [] [] → first_bad_mark ws ≡ length ws
unfolding replied
passed-all ws e = elim (dec_lt (first_bad_mark ws) (length ws)) [
  | yes h ↦ absurd (omega (arith, ap (λ (x : Reply). x.number) (list_bad ws (answered [] []) h ∙ ap replied e)))
  | no h ↦ omega (arith, bad_le ws)
]

-- ---- the fold

-- the fold of the entries from i on, from the valuation now, is the whole fold
pub record Gathered (ws : List ℕ) (v : BddPartialValuation) (i : ℕ) : Type 0 where
  pub within : i ≤ length ws
  pub fold : gather (clause_of v) (drop i ws) ≡ gather empty_clause ws

pub gathered_none : (ws : List ℕ) (v : BddPartialValuation) → (v.fixed ≡ 0) × (v.values ≡ 0) → Gathered ws v 0
unfolding empty_clause
gathered_none ws v (p, q) =
    let e : clause_of v ≡ empty_clause = λ i. record { fixed = p i; values = q i } in
    record { within = omega arith; fold = ap (λ d. gather d ws) e }

pub gathered_next : {ws : List ℕ} {v : BddPartialValuation} {i : ℕ} → Gathered ws v i → i < length ws → (u : BddPartialValuation)
    → clause_of u ≡ set_cell (clause_of v) (get_or ws i 0 / 2) (odd (get_or ws i 0)) → Gathered ws u (i + 1)
gathered_next {ws} {v} {i} g l u e = record { within = omega arith; fold = step ∙ g.fold }
  where
    step : gather (clause_of u) (drop (i + 1) ws) ≡ gather (clause_of v) (drop i ws)
    step = unfold gather in rw (add-one, drop-cons ws i 0 l, e)

-- where no entry is bad, the next one's mark is below 60
pub mark_of : {ws : List ℕ} {v : BddPartialValuation} {i : ℕ} → Gathered ws v i → first_bad_mark ws ≡ length ws → i < length ws → get_or ws i 0 / 2 < max_marks
mark_of {ws} {v} {i} g e h = all-below ws e i h

pub mark_narrow : {ws : List ℕ} {v : BddPartialValuation} {i : ℕ} → Gathered ws v i → first_bad_mark ws ≡ length ws → i < length ws → get_or ws i 0 / 2 < 2 ^ 16
mark_narrow g e h = omega (arith, mark_of g e h)

pub gathered_all : {ws : List ℕ} {v : BddPartialValuation} {i : ℕ} → Gathered ws v i → length ws ≤ i → clause_of v ≡ gather empty_clause ws
gathered_all {ws} {v} {i} g l = sym rest ∙ g.fold
  where
    rest : gather (clause_of v) (drop i ws) ≡ clause_of v
    rest = unfold gather in rw (drop_of_length-le ws l)

-- ---- the answers of from_values

module _ (ws : List ℕ) (p : ℕ) (at : p ≡ first_bad_mark ws) where
  pub bad_refuses : (r : Refusal) → Err r ≡ refuse_if (ltb p (length ws)) Variable p → refusal_reply r ≡ replied (gathers_values ws)
  unfolding gathers_values
  bad_refuses r e =
      let t : (ltb p (length ws) ≡ true) × (r ≡ record { kind = Variable; place = p }) = test_refused _ _ _ r e in
      ap refusal_reply t.1 ∙ ap (refused_with VARIABLE) at ∙ list_bad ws _ (omega (arith, at, ltb-true _ _ t.0))

  module _ (x : Unit {0}) (e : Ok x ≡ refuse_if (ltb p (length ws)) Variable p) where
    past : length ws ≤ p
    past = ltb-false _ _ (test_passed _ _ _ x e)

    pub none_bad : first_bad_mark ws ≡ length ws
    none_bad = omega (arith, at, past, bad_le ws)

    pub gathered_answer : (v : BddPartialValuation) → clause_of v ≡ gather empty_clause ws → gives (both_words v) ≡ replied (gathers_values ws)
    unfolding gathers_values replied
    gathered_answer v q = ap (λ d. replied (says_clause d)) q ∙ ap replied (sym (list-good ws _ (omega (arith, none_bad))))
