-- The order of checking: some finding refuses whatever the answer would be, or none does; and what an admission's answer says of the whole call.
use mathlib.Core.Path.{◌≡◌, refl, sym, ap, ap₂, ◌∙◌}
use mathlib.Core.Logic.{◌≢◌, ◌⊎◌, inl, inr}
use mathlib.Core.Bool.{Bool, true, false, cond, ◌&&◌}
use mathlib.Core.List.{List, [], ◌∷◌}
use Prim.Native.Nat.{ℕ}
use native.Mathlib.Omega.{arith}
use native.Mathlib.Decide.{ℕ_discrete}
use lib.Dec.{eqb}
use borrow.Author.Tests.{eq-eqb, ne_eqb, eqb-true}
use Rattle.refusal.specs.Number.{order, number_of}
use Rattle.refusal.specs.Buffers.{zeroing, buffer_after, work_after}
use Rattle.refusal.specs.Verdict.{Verdict, refused, answered, Finding, first_of, tried, judged, Reply, replied, refused_with, gives, refusal_reply}
use Rattle.refusal.specs.Told.{refuse_if}
use Rattle.refusal.specs.declared.Refusal.{Refusal}
use Rattle.refusal.specs.declared.RefusalKind.{RefusalKind}
use Rattle.std.specs.Prelude.{Ok, Err}
use Rattle.refusal.proofs.Single.{no_values, no-values, number_positive}

-- a refusal is no answer
pub not-answered : (k p : ℕ) (vs : List ℕ) (outs : List (List ℕ)) → refused k p ≡ answered vs outs → ⊥
not-answered k p vs outs e = let z : ◌≡◌ {A = ℕ} 0 1 = cc in omega arith

-- what findings do to every answer: they refuse with one number and place, or leave it
data Fate (f : Verdict → Verdict) : Type 0 where
  stopped : (k p : ℕ) → k ≢ 0 → ((v : Verdict) → f v ≡ refused k p) → Fate f
  left : ((v : Verdict) → f v ≡ v) → Fate f

first_fate : (k : ℕ) → k ≢ 0 → (fs : List Finding) → Fate (first_of k fs)
unfolding first_of
first_fate k h [] = left (λ v. refl)
first_fate k h (f ∷ fs) = elim (eqb f.number k && f.so) as (λ b. Fate (λ v. cond b (refused k f.place) (first_of k fs v))) [
  | true ↦ stopped k f.place h (λ v. refl)
  | false ↦ first_fate k h fs
]

joined : (f g : Verdict → Verdict) → Fate f → Fate g → Fate (λ v. f (g v))
joined f g (stopped k p h e) r = stopped k p h (λ v. e (g v))
joined f g (left e) (stopped k p h d) = stopped k p h (λ v. e (g v) ∙ d v)
joined f g (left e) (left d) = left (λ v. e (g v) ∙ d v)

-- a number of checking is not 0: that is an answer's
abbrev positive : List ℕ → Bool
positive [] = true
positive (k ∷ ks) = cond (eqb k 0) false (positive ks)

tried_fate : (ks : List ℕ) → positive ks ≡ true → (fs : List Finding) → Fate (tried ks fs)
unfolding tried
tried_fate [] h fs = left (λ v. refl)
tried_fate (k ∷ ks) h fs = elim (ℕ_discrete k 0) [
  | yes e ↦ absurd (no_truth (sym (ap (λ t. cond t false (positive ks)) (eq-eqb k 0 e)) ∙ h))
  | no e ↦
      joined (first_of k fs) (tried ks fs) (first_fate k e fs)
      (tried_fate ks (sym (ap (λ t. cond t false (positive ks)) (ne_eqb k 0 e)) ∙ h) fs)
]
  where
    no_truth : false ≡ true → ⊥
    no_truth e = let z : ◌≡◌ {A = ℕ} 0 1 = ap (λ t. cond t 1 0) e in omega arith

judged_fate : (fs : List Finding) → Fate (judged fs)
unfolding judged order
judged_fate fs = tried_fate order refl fs

-- a check answers nothing by itself; where it refuses, so does every call with the same findings, and else the call answers
pub judged_refuses : (fs : List Finding) (v : Verdict) (r : Refusal) → refusal_reply r ≡ replied (judged fs (answered [] [])) → judged fs v ≡ refused (number_of r.kind) r.place
unfolding replied
judged_refuses fs v r e = elim (judged_fate fs) [
  | stopped k p d s ↦
      let q : refusal_reply r ≡ replied (refused k p) = e ∙ ap replied (s (answered [] [])) in
      s v ∙ sym (ap₂ refused (ap (λ (x : Reply). x.number) q) (ap (λ (x : Reply). x.place) q))
  | left s ↦ absurd (omega (arith, number_positive r.kind, ap (λ (x : Reply). x.number) (e ∙ ap replied (s (answered [] [])))))
]

pub judged_stops : (fs : List Finding) (v : Verdict) (r : Refusal) → refusal_reply r ≡ replied (judged fs (answered [] [])) → refusal_reply r ≡ replied (judged fs v)
unfolding replied
judged_stops fs v r e = ap replied (sym (judged_refuses fs v r e))

pub judged_goes : (fs : List Finding) (v : Verdict) → gives [] ≡ replied (judged fs (answered [] [])) → judged fs v ≡ v
unfolding replied
judged_goes fs v e = elim (judged_fate fs) [
  | stopped k p d s ↦ absurd (d (sym (ap (λ (x : Reply). x.number) (e ∙ ap replied (s (answered [] []))))))
  | left s ↦ s v
]

pub judged_answers : (fs : List Finding) (v : Verdict) → gives [] ≡ replied (judged fs (answered [] [])) → (x : Reply) → x ≡ replied v → x ≡ replied (judged fs v)
judged_answers fs v e x a = a ∙ ap replied (sym (judged_goes fs v e))

-- a call that answers was not refused: it answers what it would without the findings, and so does every call with the same findings
pub judged-answer : (fs : List Finding) (v : Verdict) (vs : List ℕ) (outs : List (List ℕ)) → judged fs v ≡ answered vs outs → (u : Verdict) → judged fs u ≡ u
judged-answer fs v vs outs e = elim (judged_fate fs) [
  | stopped k p d s ↦ absurd (not-answered k p vs outs (sym (s v) ∙ e))
  | left s ↦ s
]

-- one test: it let the call pass, or refused it
pub test_passed : (b : Bool) (k : RefusalKind) (p : ℕ) (x : Unit {0}) → Ok x ≡ refuse_if b k p → b ≡ false
test_passed true k p x e = cc
test_passed false k p x e = refl

pub test_refused : (b : Bool) (k : RefusalKind) (p : ℕ) (r : Refusal) → Err r ≡ refuse_if b k p → (b ≡ true) × (r ≡ record { kind = k; place = p })
test_refused true k p r e = (refl, cc)
test_refused false k p r e = cc

-- a rule that puts a refusal before a verdict: it lets every verdict pass, or refuses whatever comes
pub record Caught (rule : Verdict → Verdict) : Type 0 where
  pub number : ℕ
  pub place : ℕ
  pub always : (v : Verdict) → rule v ≡ refused number place

abbrev pub Clean : (Verdict → Verdict) → Type 0
Clean rule = (v : Verdict) → rule v ≡ v

-- what is found wrong does not depend on the answer that it keeps back
pub judged-either : (fs : List Finding) → Clean (judged fs) ⊎ Caught (judged fs)
judged-either fs = elim (judged_fate fs) [
  | stopped k p d s ↦ inr (record { number = k; place = p; always = s })
  | left s ↦ inl s
]

-- a call that was refused in its admission is refused in the same way whatever it would have answered
pub refusal_stays : (fs : List Finding) (r : Refusal) (a : ℕ) (more : List ℕ) (outs : List (List ℕ))
    → refusal_reply r ≡ replied (judged fs (answered (a ∷ more) outs)) → (v : Verdict) → judged fs v ≡ refused (number_of r.kind) r.place
unfolding replied
refusal_stays fs r a more outs e v = elim (judged-either fs) [
  | inl clean ↦ no-values r a more (e ∙ ap replied (clean (answered (a ∷ more) outs)))
  | inr c ↦
      let q : refusal_reply r ≡ refused_with c.number c.place = e ∙ ap replied (c.always (answered (a ∷ more) outs)) in
      c.always v ∙ sym (λ i. refused (q i).number (q i).place)
]

-- an answer with a value passed each test on its way
pub passes : (b : Bool) (k p a : ℕ) (more : List ℕ) (v : Verdict) → gives (a ∷ more) ≡ replied (cond b (refused k p) v) → (b ≡ false) × (gives (a ∷ more) ≡ replied v)
unfolding replied
passes true k p a more v e = no_values k p a more (sym e)
passes false k p a more v e = (refl, e)

-- refused with a number that zeroes nothing, a call leaves its work as it was
pub work_untouched : (r : Refusal) (v : Verdict) (work : List ℕ) → v ≡ refused (number_of r.kind) r.place → zeroing (number_of r.kind) ≡ false → (refusal_reply r ≡ replied v) × (work ≡ work_after v work)
unfolding replied buffer_after
work_untouched r v work is quiet = rw is (refl, rw quiet)

-- no finding has a number that zeroes buffers: those of an admission
unfoldable pub Quiet : List Finding → Type 0
Quiet [] = Unit {0}
Quiet (f ∷ fs) = (zeroing f.number ≡ false) × Quiet fs

module _ (vs : List ℕ) (outs : List (List ℕ)) (k p : ℕ) where
  -- a verdict that is refused as said only with a number that zeroes nothing
  abbrev Calm : Verdict → Type 0
  Calm v = v ≡ refused k p → zeroing k ≡ false

  number_is : (a b q : ℕ) → refused a q ≡ refused b p → a ≡ b
  number_is a b q e = cc

  first_calm : (m : ℕ) (fs : List Finding) → Quiet fs → (v : Verdict) → Calm v → Calm (first_of m fs v)
  unfolding first_of Quiet
  first_calm m [] q v c = c
  first_calm m (f ∷ fs) q v c =
      (elim (eqb f.number m && f.so) as (λ b. eqb f.number m && f.so ≡ b → Calm (cond b (refused m f.place) (first_of m fs v))) [
        | true ↦ λ t e. rw (← (number_is m k f.place e), ← (eqb-true f.number m (and_left _ _ t))) q.0
        | false ↦ λ t. first_calm m fs q.1 v c
      ]) refl
    where
      and_left : (a b : Bool) → a && b ≡ true → a ≡ true
      and_left true b e = refl
      and_left false b e = e

  tried_calm : (ks : List ℕ) (fs : List Finding) → Quiet fs → Calm (tried ks fs (answered vs outs))
  unfolding tried
  tried_calm [] fs q = λ e. absurd (not-answered k p vs outs (sym e))
  tried_calm (m ∷ ks) fs q = first_calm m fs q (tried ks fs (answered vs outs)) (tried_calm ks fs q)

  -- an admission refuses only with numbers that touch nothing
  pub refused_quiet : (fs : List Finding) → Quiet fs → judged fs (answered vs outs) ≡ refused k p → zeroing k ≡ false
  unfolding judged
  refused_quiet fs q = tried_calm order fs q
