-- Masks, level by level.
use mathlib.Core.Path.{◌≡◌, refl, sym, ap, subst, ◌∙◌}
use mathlib.Core.Bool.{false}
use Prim.Native.Nat.{ℕ, zero, suc, ◌+◌, ◌*◌, ◌/◌, ◌%◌, ◌^◌, ◌-◌, ◌<◌, ◌≤◌}
use native.Mathlib.Omega.{arith}
use native.Mathlib.Nat.{zero-div, div-one, div-div-eq-div-mul}
use lib.Count.{count_trailing_zeros, under}
use lib.Pow.{pow-add, shr_lt}
use borrow.Author.Tests.{ne_eqb}
use Rattle.theory.specs.Mask.{odd}

pub half_pow : (f l : ℕ) → f / 2 ^ l / 2 ≡ f / 2 ^ suc l
half_pow f l = let e : 2 ^ l * 2 ≡ 2 ^ suc l = omega arith in div-div-eq-div-mul f (2 ^ l) 2 ∙ ap (λ d. f / d) e

pub pow_half : (f l : ℕ) → f / 2 / 2 ^ l ≡ f / 2 ^ suc l
pow_half f l = let e : 2 * 2 ^ l ≡ 2 ^ suc l = omega arith in div-div-eq-div-mul f 2 (2 ^ l) ∙ ap (λ d. f / d) e

pub shr_add : (f l j : ℕ) → f / 2 ^ l / 2 ^ j ≡ f / 2 ^ (l + j)
shr_add f l j = div-div-eq-div-mul f (2 ^ l) (2 ^ j) ∙ ap (λ d. f / d) (sym (pow-add 2 l j))

pub even : (x : ℕ) → x % 2 ≡ 0 → odd x ≡ false
even x e = ne_eqb (x % 2) 1 (λ d. omega arith)

-- below the lowest digit that is set, all are zero
pub tz_even : (w x i : ℕ) → i < count_trailing_zeros w x → x / 2 ^ i % 2 ≡ 0
unfolding count_trailing_zeros
tz_even zero x i h = absurd (let z : ⊥ = omega arith in z)
tz_even (suc w) x i h = go (x % 2) refl i h (λ j d. tz_even w (x / 2) j d)
  where
    go : (r : ℕ) → x % 2 ≡ r → (i : ℕ) → i < under r (count_trailing_zeros w (x / 2)) → ((j : ℕ) → j < count_trailing_zeros w (x / 2) → x / 2 / 2 ^ j % 2 ≡ 0) → x / 2 ^ i % 2 ≡ 0
    go zero e zero h ih = ap (λ d. d % 2) (div-one x) ∙ e
    go zero e (suc j) h ih = ap (λ d. d % 2) (sym (pow_half x j)) ∙ ih j (omega arith)
    go (suc r) e i h ih = absurd (let z : ⊥ = omega arith in z)

pub tz_odd : (w x : ℕ) → 0 < x → x < 2 ^ w → x / 2 ^ count_trailing_zeros w x % 2 ≡ 1
unfolding count_trailing_zeros
tz_odd zero x h k = absurd (let z : ⊥ = omega arith in z)
tz_odd (suc w) x h k = go (x % 2) refl (λ e. tz_odd w (x / 2) (omega arith) (omega arith))
  where
    go : (r : ℕ) → x % 2 ≡ r → (x % 2 ≡ 0 → x / 2 / 2 ^ count_trailing_zeros w (x / 2) % 2 ≡ 1) → x / 2 ^ under r (count_trailing_zeros w (x / 2)) % 2 ≡ 1
    go zero e ih = ap (λ d. d % 2) (sym (pow_half x (count_trailing_zeros w (x / 2)))) ∙ ih e
    go (suc r) e ih = ap (λ d. d % 2) (div-one x) ∙ (let z : x % 2 ≡ 1 = omega arith in z)

-- a mask of n marks has nothing at level l ≥ n
pub none_left : (f n l : ℕ) → f < 2 ^ n → n ≤ l → f / 2 ^ l ≡ 0
none_left f n l h k =
    let e : l ≡ (l - n) + n = omega arith in
    let z : f / 2 ^ n ≡ 0 = let y : f / 2 ^ n < 2 ^ 0 = shr_lt 0 n (subst (λ x. f < 2 ^ x) (let q : n ≡ 0 + n = omega arith in q) h) in omega arith in
    let q : n + (l - n) ≡ l = omega arith in
    ap (λ x. f / 2 ^ x) (sym q) ∙ sym (shr_add f n (l - n)) ∙ ap (λ x. x / 2 ^ (l - n)) z ∙ zero-div (2 ^ (l - n))
