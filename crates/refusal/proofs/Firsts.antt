-- Laws of the first that fails.
use mathlib.Core.Path.{◌≡◌, refl, sym, ap, ◌∙◌}
use mathlib.Core.Logic.{◌⊎◌, inl, inr}
use mathlib.Core.Bool.{Bool, true, false, cond}
use Prim.Native.Nat.{ℕ, zero, suc, ◌≤◌, ◌<◌}
use native.Mathlib.Omega.{arith}
use native.Mathlib.Decide.{ℕ_discrete, dec_lt}
use borrow.Author.Tests.{lt-ltb, le-ltb}
use Rattle.refusal.specs.First.{first_failing}

clash : (b : Bool) → b ≡ true → b ≡ false → ⊥
clash b p q = let z : ◌≡◌ {A = ℕ} 0 1 = ap (λ v. cond v 0 1) (sym p ∙ q) in omega arith

module _ (ok : ℕ → Bool) where
  -- one step more, where a failure stands before it, where there is none, and where the failure is here
  stays : (k : ℕ) → first_failing ok k < k → first_failing ok (suc k) ≡ first_failing ok k
  unfolding first_failing
  stays k h = rw (lt-ltb (first_failing ok k) k h)

  pub first_passes : (k : ℕ) → first_failing ok k ≡ k → ok k ≡ true → first_failing ok (suc k) ≡ suc k
  unfolding first_failing
  first_passes k e t = rw (le-ltb (first_failing ok k) k (omega arith), t)

  pub first_stops : (k : ℕ) → first_failing ok k ≡ k → ok k ≡ false → first_failing ok (suc k) ≡ k
  unfolding first_failing
  first_stops k e t = rw (le-ltb (first_failing ok k) k (omega arith), t)

  -- the three cases of one step more
  pub first-cases : (k : ℕ) → first_failing ok k ≤ k
      → ((first_failing ok k < k) × (first_failing ok (suc k) ≡ first_failing ok k))
      ⊎ (((first_failing ok k ≡ k) × (ok k ≡ true) × (first_failing ok (suc k) ≡ suc k))
      ⊎ ((first_failing ok k ≡ k) × (ok k ≡ false) × (first_failing ok (suc k) ≡ k)))
  first-cases k h = elim (dec_lt (first_failing ok k) k) [
    | yes a ↦ inl (a, stays k a)
    | no a ↦
        let e : first_failing ok k ≡ k = omega arith in
        (elim (ok k) as (λ v. ok k ≡ v
        → ((first_failing ok k < k) × (first_failing ok (suc k) ≡ first_failing ok k))
        ⊎ (((first_failing ok k ≡ k) × (ok k ≡ true) × (first_failing ok (suc k) ≡ suc k))
        ⊎ ((first_failing ok k ≡ k) × (ok k ≡ false) × (first_failing ok (suc k) ≡ k)))) [
          | true ↦ λ t. inr (inl (e, t, first_passes k e t))
          | false ↦ λ t. inr (inr (e, t, first_stops k e t))
        ]) refl
  ]

  pub first-le : (k : ℕ) → first_failing ok k ≤ k
  first-le zero = unfold first_failing in omega arith
  first-le (suc k) = elim (first-cases k (first-le k)) [
    | inl a ↦ omega arith
    | inr b ↦ elim b [ inl a ↦ omega arith | inr a ↦ omega arith ]
  ]

  -- whatever stands before it passes, and it fails
  pub first-before : (k i : ℕ) → i < first_failing ok k → ok i ≡ true
  first-before zero i h = absurd (omega (arith, first-le zero))
  first-before (suc k) i h = elim (first-cases k (first-le k)) [
    | inl a ↦ first-before k i (omega arith)
    | inr b ↦ elim b [
      | inl a ↦ elim (ℕ_discrete i k) [ yes e ↦ rw e a.1 | no e ↦ first-before k i (omega arith) ]
      | inr a ↦ first-before k i (omega arith)
    ]
  ]

  pub first_fails : (k : ℕ) → first_failing ok k < k → ok (first_failing ok k) ≡ false
  first_fails zero h = absurd (omega arith)
  first_fails (suc k) h = elim (first-cases k (first-le k)) [
    | inl a ↦ rw a.1 (first_fails k a.0)
    | inr b ↦ elim b [ inl a ↦ absurd (omega arith) | inr a ↦ rw a.2 a.1 ]
  ]

  -- it is the only such place
  pub first-is : (k i : ℕ) → i < k → ((j : ℕ) → j < i → ok j ≡ true) → ok i ≡ false → first_failing ok k ≡ i
  first-is k i h before fails = elim (dec_lt (first_failing ok k) i) [
    | yes a ↦ absurd (clash _ (before _ a) (first_fails k (omega arith)))
    | no a ↦ elim (dec_lt i (first_failing ok k)) [
      | yes b ↦ absurd (clash _ (first-before k i b) fails)
      | no b ↦ omega arith
    ]
  ]

  pub first-none : (k : ℕ) → ((j : ℕ) → j < k → ok j ≡ true) → first_failing ok k ≡ k
  first-none k all = elim (dec_lt (first_failing ok k) k) [
    | yes a ↦ absurd (clash _ (all _ a) (first_fails k a))
    | no a ↦ omega (arith, first-le k)
  ]
