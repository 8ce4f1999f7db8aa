-- A walk's start: the first path of an admitted table, or the refusal and no path; and what a step says.
use mathlib.Core.Path.{◌≡◌, refl, sym, ap, ◌∙◌}
use mathlib.Core.Logic.{◌≢◌, inl, inr}
use mathlib.Core.List.{List, [], ◌∷◌, ◌++◌}
use Prim.Native.Nat.{ℕ, ◌-◌}
use native.Mathlib.Omega.{arith}
use lib.ListN.{replicate}
use borrow.Author.Tests.{eq-eqb, ne_eqb}
use Rattle.theory.specs.Table.{Reduced}
use Rattle.theory.specs.Words.{nodes}
use Rattle.theory.specs.Clause.{Clause}
use Rattle.refusal.specs.Verdict.{refused, replied, refused_with, gives}
use Rattle.refusal.specs.Limits.{max_marks}
use Rattle.refusal.specs.declared.Refusal.{Refusal}
use Rattle.refusal.specs.Number.{number_of}
use Rattle.refusal.proofs.Single.{no-values, no_values, one_value, number_positive}
use Rattle.valuation.specs.declared.BddPartialValuation.{BddPartialValuation}
use Rattle.valuation.specs.Valuation.{clause_of}
use Rattle.table.specs.declared.BddPointer.{BddPointer}
use Rattle.table.specs.declared.Inspection.{Inspection}
use Rattle.table.specs.declared.Inspection.TheVariants.{Sound, Refused}
use Rattle.table.specs.Inspection.{inspection_reply, SoundTable}
use Rattle.walk.specs.declared.PathState.{PathState}
use Rattle.std.specs.Prelude.{Some, None, Ok, Err}
use Rattle.reduced.specs.Reduced.{admits_walk}
use Rattle.walk.specs.Path.{pointer, first_from, first_path, clause_along, places, in_array, state_of, held, Descending}
use Rattle.walk.specs.Step.{path_step_reply, step_of, PathStart, found, start_by, start_of, held_words, words_of}
use Rattle.reduced.proofs.CheckLaws.{Admitted, walk-either}

-- no path yet
abbrev none : PathState
none = record { len = 0; path = replicate places (pointer 0) }

none_is : none ≡ state_of []
unfolding in_array
none_is = refl

module _ (n count : ℕ) (w : List ℕ) (root : ℕ) where
  pub first-none : root ≡ 0 → none ≡ state_of (first_path w root)
  unfolding first_path
  first-none e = rw (eq-eqb root 0 e) none_is

  pub first-descends : SoundTable n count w root → Reduced n (nodes count w) → root ≢ 0 → Descending w none root
  first-descends t r e = record {
    way = [];
    is = none_is;
    goes = record {
      n = n;
      count = count;
      marks = t.marks;
      long = t.long;
      reduced = r;
      lies = omega (arith, t.last, t.some);
      ends = omega (arith, e);
      deep = omega arith;
    };
  }

  pub first_goes : root ≢ 0 → (r : PathState) → r ≡ state_of ([] ++ first_from max_marks w root) → r ≡ state_of (first_path w root)
  unfolding first_path
  first_goes e r is = is ∙ rw (ne_eqb root 0 e)

-- what a step says
pub step-ends : (w : List ℕ) (s : PathState) → s.len ≡ 0 → path_step_reply None ≡ replied (step_of w s)
unfolding step_of replied
step-ends w s e = rw (eq-eqb s.len 0 e)

pub step-yields : (w : List ℕ) (s : PathState) (v : BddPartialValuation) → s.len ≢ 0 → clause_of v ≡ clause_along w (held s) → path_step_reply (Some v) ≡ replied (step_of w s)
unfolding step_of replied
step-yields w s v e is = rw (ne_eqb s.len 0 e) (ap (λ (c : Clause). gives (1 ∷ c.fixed ∷ c.values ∷ [])) is)

-- what a start finds, from the answer of its check
module _ (n count : ℕ) (w : List ℕ) (a : Inspection) (e : inspection_reply a ≡ replied (admits_walk n count w)) where
  pub check_stopped : (r : Refusal) → a ≡ Refused r → admits_walk n count w ≡ refused (number_of r.kind) r.place
  unfolding inspection_reply replied
  check_stopped r is = elim (walk-either n count w) [
    | inl m ↦ no-values r (count - 1) [] (sym (ap inspection_reply is) ∙ e ∙ ap replied m.is)
    | inr m ↦
        let q : refused_with (number_of r.kind) r.place ≡ refused_with m.number m.place = sym (ap inspection_reply is) ∙ e ∙ ap replied m.is in
        m.is ∙ sym (λ i. refused (q i).number (q i).place)
  ]

  pub check_admitted : (p : BddPointer) → a ≡ Sound p → (Admitted n count w) × (p.0 ≡ count - 1)
  unfolding inspection_reply replied
  check_admitted p is = elim (walk-either n count w) [
    | inl m ↦ (m, one_value p.0 (count - 1) (sym (ap inspection_reply is) ∙ e ∙ ap replied m.is))
    | inr m ↦ no_values m.number m.place p.0 [] (sym (sym (ap inspection_reply is) ∙ e ∙ ap replied m.is))
  ]

  pub start_stops : (q : Refusal) → a ≡ Refused q → found (Err q) ≡ start_of n count w
  unfolding start_of start_by
  start_stops q is = rw (check_stopped q is)

  module _ (p : BddPointer) (is : a ≡ Sound p) where
    pub start_sound : (SoundTable n count w p.0) × (Reduced n (nodes count w))
    start_sound =
        let m : (Admitted n count w) × (p.0 ≡ count - 1) = check_admitted p is in
        (rw m.1 m.0.sound, m.0.reduced)

    pub start_goes : (s : PathState) → s ≡ state_of (first_path w p.0) → found (Ok s) ≡ start_of n count w
    unfolding start_of start_by
    start_goes s e =
        let m : (Admitted n count w) × (p.0 ≡ count - 1) = check_admitted p is in
        let f : s ≡ state_of (first_path w (count - 1)) = e ∙ ap (λ k. state_of (first_path w k)) m.1 in
        rw m.0.is (λ i. record { number = 0; place = 0; first = f i })

-- the words that a walk holds, by what its start finds
module _ (n count : ℕ) (w : List ℕ) where
  pub words_found : (s : PathState) → found (Ok s) ≡ start_of n count w → w ≡ words_of n count w
  unfolding held_words
  words_found s e = ap (λ (z : PathStart). held_words z.number w) e

  pub words_refused : (r : Refusal) → found (Err r) ≡ start_of n count w → [] ≡ words_of n count w
  unfolding held_words
  words_refused r e = sym (ap (λ (z : PathStart). held_words z.number w) (sym e) ∙ rw (ne_eqb (number_of r.kind) 0 (λ z. omega (arith, z, number_positive r.kind))) refl)
