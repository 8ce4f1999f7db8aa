-- The check of a walk's start: inspection, then REDUCED exactly for a sound table that is not reduced.
use mathlib.Core.Path.{◌≡◌, refl, sym, ap, ◌∙◌}
use mathlib.Core.Logic.{◌≢◌, ◌⊎◌, inl, inr}
use mathlib.Core.Bool.{Bool, true, false, cond}
use mathlib.Core.List.{List, [], ◌∷◌}
use Prim.Native.Nat.{ℕ, ◌-◌, ◌≤◌, ◌<◌}
use native.Mathlib.Omega.{arith}
use native.Mathlib.Decide.{dec_lt}
use lib.Dec.{ltb}
use borrow.Author.Tests.{lt-ltb, le-ltb, ltb-true, ltb-false}
use Rattle.theory.specs.Table.{Reduced}
use Rattle.theory.specs.Words.{nodes}
use Rattle.refusal.specs.Number.{order, LIMIT, SHORT, TABLE, REDUCED}
use Rattle.refusal.specs.Verdict.{Verdict, refused, answered, first_of, tried, judged, replied, refused_with, refusal_reply, gives}
use Rattle.std.specs.Prelude.{Ok, Err}
use Rattle.refusal.specs.Told.{refuse_if}
use Rattle.refusal.specs.declared.RefusalKind.TheVariants as kind
use Rattle.refusal.specs.declared.Refusal.{Refusal}
use Rattle.refusal.proofs.Firsts.{first-before, first_fails}
use Rattle.refusal.proofs.Judged.{Clean, judged-either, refusal_stays, test_passed, test_refused}
use Rattle.table.specs.declared.BddPointer.{BddPointer}
use Rattle.table.specs.declared.Inspection.TheVariants.{Sound}
use Rattle.table.specs.Inspection.{pointer, inspection_reply, over_limit, too_short, first_bad, table_findings, root_of, inspects, SoundTable}
use Rattle.table.proofs.AdmissionLaws.{admission_clean}
use Rattle.table.proofs.Inspected.{inspects-sound, sound-inspects}
use Rattle.reduced.specs.Reduced.{node_reduced, first_unreduced, admits_walk}
use Rattle.reduced.proofs.ReducedLaws.{none_unreduced, unreduced_none}

module _ (n count : ℕ) (w : List ℕ) where
  -- the verdict of a sound table
  abbrev reduced_or : Verdict
  reduced_or = cond (ltb (first_unreduced n count w) count) (refused REDUCED (first_unreduced n count w)) (root_of count)

  walk_is : admits_walk n count w ≡ judged (table_findings n count w) reduced_or
  unfolding admits_walk judged tried order first_of
  walk_is = refl

  offends : first_unreduced n count w < count → reduced_or ≡ refused REDUCED (first_unreduced n count w)
  offends h = rw (lt-ltb _ _ h)

  passes : count ≤ first_unreduced n count w → reduced_or ≡ root_of count
  passes h = rw (le-ltb _ _ h)

  -- refused in inspection, a walk's start is refused
  pub check_refused : (r : Refusal) → refusal_reply r ≡ replied (inspects n count w) → refusal_reply r ≡ replied (admits_walk n count w)
  unfolding inspects replied
  check_refused r e = sym (ap replied (walk_is ∙ refusal_stays (table_findings n count w) r (count - 1) [] [] e reduced_or))

  module _ (p : BddPointer) (e : gives (pointer p) ≡ replied (inspects n count w)) where
    clean : Clean (judged (table_findings n count w)) × (p.0 ≡ count - 1)
    unfolding inspects inspection_reply
    clean = admission_clean (table_findings n count w) count (Sound p) e p refl

    pub check_sound : SoundTable n count w p.0
    unfolding inspects
    check_sound = rw clean.1 (inspects-sound n count w (clean.0 (root_of count)))

    module _ (bad : ℕ) (at : bad ≡ first_unreduced n count w) where
      pub check_unreduced : (r : Refusal) → Err r ≡ refuse_if (ltb bad count) kind.Reduced bad → refusal_reply r ≡ replied (admits_walk n count w)
      unfolding replied
      check_unreduced r t =
          let h : (ltb bad count ≡ true) × (r ≡ record { kind = kind.Reduced; place = bad }) = test_refused _ _ _ r t in
          ap refusal_reply h.1 ∙ ap (refused_with REDUCED) at
          ∙ sym (ap replied (walk_is ∙ clean.0 reduced_or ∙ offends (omega (arith, at, ltb-true _ _ h.0))))

      pub check_reduced : (x : Unit {0}) → Ok x ≡ refuse_if (ltb bad count) kind.Reduced bad → gives (pointer p) ≡ replied (admits_walk n count w)
      unfolding replied
      check_reduced x t =
          ap (λ k. gives (k ∷ [])) clean.1
          ∙ sym (ap replied (walk_is ∙ clean.0 reduced_or ∙ passes (omega (arith, at, ltb-false _ _ (test_passed _ _ _ x t)))))

  -- what inspection lets pass
  sound-passes : SoundTable n count w (count - 1) → (v : Verdict) → judged (table_findings n count w) v ≡ v
  unfolding inspects
  sound-passes t = elim (judged-either (table_findings n count w)) [
    | inl c ↦ c
    | inr c ↦ absurd (let z : ◌≡◌ {A = ℕ} 0 1 = cc (sym (sound-inspects n count w t) ∙ c.always (root_of count)) in omega arith)
  ]

  -- a sound table that is reduced is admitted, and no other is
  pub reduced_admits : SoundTable n count w (count - 1) → Reduced n (nodes count w) → admits_walk n count w ≡ root_of count
  reduced_admits t r = walk_is ∙ sound-passes t reduced_or ∙ passes (omega (arith, unreduced_none n count w r))

  -- a sound table that is not reduced is refused REDUCED: its place is the lowest node that offends
  pub unreduced_refused : SoundTable n count w (count - 1) → (Reduced n (nodes count w) → ⊥) → (first_unreduced n count w < count) × (admits_walk n count w ≡ refused REDUCED (first_unreduced n count w))
  unreduced_refused t r = elim (dec_lt (first_unreduced n count w) count) [
    | yes h ↦ (h, walk_is ∙ sound-passes t reduced_or ∙ offends h)
    | no h ↦ absurd (r (none_unreduced n count w t.ordered (omega arith)))
  ]

  pub unreduced_lowest : first_unreduced n count w < count
      → (node_reduced n (nodes count w) (first_unreduced n count w) ≡ false) × ((i : ℕ) → i < first_unreduced n count w → node_reduced n (nodes count w) i ≡ true)
  unfolding first_unreduced
  unreduced_lowest h = (first_fails (node_reduced n (nodes count w)) count h, first-before (node_reduced n (nodes count w)) count)

  -- no refusal has the number 0
  number_of : Verdict → ℕ
  number_of (refused k p) = k
  number_of (answered vs outs) = 1

  some_number : (a b c d : Bool) (f g k p : ℕ) (vs : List ℕ) (outs : List (List ℕ))
      → cond a (refused LIMIT 0) (cond b (refused SHORT 0) (cond c (refused TABLE f) (cond d (refused REDUCED g) (answered vs outs)))) ≡ refused k p → k ≢ 0
  unfolding number_of
  some_number true b c d f g k p vs outs e z = omega (arith, ap number_of e)
  some_number false true c d f g k p vs outs e z = omega (arith, ap number_of e)
  some_number false false true d f g k p vs outs e z = omega (arith, ap number_of e)
  some_number false false false true f g k p vs outs e z = omega (arith, ap number_of e)
  some_number false false false false f g k p vs outs e z = omega (arith, ap number_of e)

  pub refused-number : (number place : ℕ) → admits_walk n count w ≡ refused number place → number ≢ 0
  unfolding admits_walk judged tried order first_of
  refused-number number place e = some_number (over_limit n count) (too_short count w) (ltb (first_bad n count w) count) (ltb (first_unreduced n count w) count) (first_bad n count w) (first_unreduced n count w) number place _ _ e

  -- admitted as sound and reduced, or refused with a number and a place
  pub record Stopped : Type 0 where
    pub number : ℕ
    pub place : ℕ
    pub is : admits_walk n count w ≡ refused number place

  pub record Admitted : Type 0 where
    pub sound : SoundTable n count w (count - 1)
    pub reduced : Reduced n (nodes count w)
    pub is : admits_walk n count w ≡ root_of count

  pub walk-either : Admitted ⊎ Stopped
  unfolding inspects
  walk-either = elim (judged-either (table_findings n count w)) [
    | inl c ↦
        let t : SoundTable n count w (count - 1) = inspects-sound n count w (c (root_of count)) in
        elim (dec_lt (first_unreduced n count w) count) [
          | yes h ↦ inr (record { number = REDUCED; place = first_unreduced n count w; is = walk_is ∙ c reduced_or ∙ offends h })
          | no h ↦ inl (record { sound = t; reduced = none_unreduced n count w t.ordered (omega arith); is = walk_is ∙ c reduced_or ∙ passes (omega arith) })
        ]
    | inr c ↦ inr (record { number = c.number; place = c.place; is = walk_is ∙ c.always reduced_or })
  ]
