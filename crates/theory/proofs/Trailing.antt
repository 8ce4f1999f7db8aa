-- The lowest bit of a mask, by its trailing zeros.
use mathlib.Core.Path.{◌≡◌, refl, sym, ap, ◌∙◌}
use mathlib.Core.Bool.{true, false}
use Prim.Native.Nat.{ℕ, zero, suc, ◌+◌, ◌*◌, ◌/◌, ◌%◌, ◌^◌, ◌<◌}
use native.Mathlib.Omega.{arith}
use native.Mathlib.Nat.{zero-add, suc-add, div-one, div-div-eq-div-mul}
use lib.Count.{count_trailing_zeros, under}
use borrow.Author.Tests.{eq-eqb, ne_eqb}
use Rattle.theory.specs.Mask.{bit}

-- below the trailing zeros' number no bit is set, and there one is
pub tz_below : (w x i : ℕ) → i < count_trailing_zeros w x → bit i x ≡ false
unfolding count_trailing_zeros
tz_below zero x i h = absurd (let z : ⊥ = omega arith in z)
tz_below (suc w) x i h = go (x % 2) refl i h (λ j d. tz_below w (x / 2) j d)
  where
    go : (r : ℕ) → x % 2 ≡ r → (i : ℕ) → i < under r (count_trailing_zeros w (x / 2)) → ((j : ℕ) → j < count_trailing_zeros w (x / 2) → bit j (x / 2) ≡ false) → bit i x ≡ false
    go zero e zero h ih = unfold bit in ne_eqb (x % 2) 1 (omega arith)
    go zero e (suc j) h ih = unfold bit in ih j (omega arith)
    go (suc r) e i h ih = absurd (let z : ⊥ = omega arith in z)

pub tz_at : (w x : ℕ) → 0 < x → x < 2 ^ w → bit (count_trailing_zeros w x) x ≡ true
unfolding count_trailing_zeros
tz_at zero x p h = absurd (let z : ⊥ = omega arith in z)
tz_at (suc w) x p h = go (x % 2) refl (λ e. tz_at w (x / 2) (omega arith) (omega arith))
  where
    go : (r : ℕ) → x % 2 ≡ r → (x % 2 ≡ 0 → bit (count_trailing_zeros w (x / 2)) (x / 2) ≡ true) → bit (under r (count_trailing_zeros w (x / 2))) x ≡ true
    go zero e ih = unfold bit in ih e
    go (suc r) e ih = unfold bit in eq-eqb (x % 2) 1 (omega arith)

-- the bits from n up are those of the mask shifted down
pub bit-add : (n i c : ℕ) → bit (n + i) c ≡ bit i (c / 2 ^ n)
unfolding bit
bit-add zero i c = rw (zero-add i) (ap (bit i) (sym (div-one c)))
bit-add (suc n) i c =
    let e : 2 * 2 ^ n ≡ 2 ^ suc n = omega arith in
    rw (suc-add n i) (bit-add n i (c / 2) ∙ ap (bit i) (div-div-eq-div-mul c 2 (2 ^ n) ∙ ap (λ d. c / d) e))
