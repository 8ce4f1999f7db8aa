-- What inspection's verdict says of the table.
use mathlib.Core.Path.{◌≡◌, refl, sym, ap, ◌∙◌}
use mathlib.Core.Bool.{Bool, true, false, cond}
use mathlib.Core.List.{List, [], ◌∷◌}
use Prim.Native.Nat.{ℕ, ◌-◌, ◌<◌}
use native.Mathlib.Omega.{arith}
use lib.Dec.{ltb}
use borrow.Author.Tests.{le-ltb, ltb-true}
use Rattle.theory.specs.Table.{node_ok}
use Rattle.theory.specs.Words.{nodes}
use Rattle.refusal.specs.Number.{order, TABLE}
use Rattle.refusal.specs.Verdict.{Verdict, refused, answered, first_of, tried, judged, replied, gives}
use Rattle.refusal.proofs.Firsts.{first-before, first_fails}
use Rattle.refusal.proofs.Judged.{passes}
use Rattle.table.specs.Inspection.{over_limit, too_short, first_bad, root_of, inspects, SoundTable}
use Rattle.table.proofs.InspectLaws.{bad_none}
use Rattle.table.proofs.AdmissionLaws.{sound-table}

module _ (n count : ℕ) (w : List ℕ) where
  -- the three tests in turn
  inspects-is : inspects n count w
      ≡ cond (over_limit n count) (refused 1 0) (cond (too_short count w) (refused 2 0) (cond (ltb (first_bad n count w) count) (refused TABLE (first_bad n count w)) (root_of count)))
  unfolding inspects judged tried order first_of
  inspects-is = refl

  pub inspects-sound : inspects n count w ≡ root_of count → SoundTable n count w (count - 1)
  unfolding inspects judged tried order first_of
  inspects-sound e =
      let v : gives ((count - 1) ∷ []) ≡ replied (inspects n count w) = unfold replied in sym (ap replied e) in
      let p₁ : (over_limit n count ≡ false) × (gives ((count - 1) ∷ []) ≡ replied _) = passes _ _ _ _ _ _ v in
      let p₂ : (too_short count w ≡ false) × (gives ((count - 1) ∷ []) ≡ replied _) = passes _ _ _ _ _ _ p₁.1 in
      sound-table n count w (count - 1) (sym p₁.0) (sym p₂.0) (passes _ _ _ _ _ _ p₂.1).0 refl

  pub sound-inspects : SoundTable n count w (count - 1) → inspects n count w ≡ root_of count
  unfolding over_limit too_short
  sound-inspects t =
      inspects-is
      ∙ rw (le-ltb _ _ t.marks, le-ltb _ _ t.some, le-ltb _ _ t.few, le-ltb _ _ t.long, bad_none n count w t.ordered, le-ltb count count (omega arith))

  -- a number tells which test refused
  number_of : Verdict → ℕ
  number_of (refused k p) = k
  number_of (answered vs outs) = 0

  place_of : Verdict → ℕ
  place_of (refused k p) = p
  place_of (answered vs outs) = 0

  only-table : (a b c : Bool) (f p : ℕ) (v : Verdict) → number_of v ≡ 0 → cond a (refused 1 0) (cond b (refused 2 0) (cond c (refused TABLE f) v)) ≡ refused TABLE p → (c ≡ true) × (f ≡ p)
  unfolding number_of place_of
  only-table true b c f p v z e = absurd (omega (arith, ap number_of e))
  only-table false true c f p v z e = absurd (omega (arith, ap number_of e))
  only-table false false true f p v z e = (refl, ap place_of e)
  only-table false false false f p v z e = absurd (omega (arith, ap number_of e))

  pub table-place : (place : ℕ) → inspects n count w ≡ refused TABLE place
      → (place < count) × (node_ok n (nodes count w) place ≡ false) × ((i : ℕ) → i < place → node_ok n (nodes count w) i ≡ true)
  unfolding first_bad number_of
  table-place place e =
      let h : (ltb (first_bad n count w) count ≡ true) × (first_bad n count w ≡ place) = only-table (over_limit n count) (too_short count w) _ _ _ (root_of count) refl (sym inspects-is ∙ e) in
      let below : first_bad n count w < count = ltb-true _ _ h.0 in
      rw (← h.1) (below, first_fails (node_ok n (nodes count w)) count below, first-before (node_ok n (nodes count w)) count)
