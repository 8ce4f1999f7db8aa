-- Masks by their bits: what valuations and clauses rest on.
use mathlib.Core.Path.{◌≡◌, refl, sym, ap, ◌∙◌}
use mathlib.Core.Bool.{Bool, true, false, cond, not, ◌||◌, ◌&&◌}
use Prim.Native.Nat.{ℕ, zero, suc, ◌+◌, ◌*◌, ◌/◌, ◌%◌, ◌-◌, ◌^◌, ◌≤◌, ◌<◌, min, max}
use native.Mathlib.Omega.{arith}
use native.Mathlib.Decide.{ℕ_discrete}
use lib.Dec.{eqb, eqb-suc-suc, eqb-zero-suc, eqb-suc-zero}
use lib.Bits.{bit_and, bit_or, and_step, or_step, or_lt, and_lt}
use lib.Pow.{pow-lt, shl_exact, shr-shr}
use borrow.Author.Tests.{eq-eqb, ne_eqb, eqb-true, eqb-false}
use Rattle.theory.specs.Mask.{odd, bit, set_bit}

and_low : (x y : ℕ) → x < 2 → y < 2 → eqb (min x y) 1 ≡ eqb x 1 && eqb y 1
and_low zero zero h k = refl
and_low zero (suc zero) h k = refl
and_low (suc zero) zero h k = refl
and_low (suc zero) (suc zero) h k = refl
and_low zero (suc (suc y)) h k = absurd (omega arith)
and_low (suc zero) (suc (suc y)) h k = absurd (omega arith)
and_low (suc (suc x)) y h k = absurd (omega arith)

or-low : (x y : ℕ) → x < 2 → y < 2 → eqb (max x y) 1 ≡ eqb x 1 || eqb y 1
or-low zero zero h k = refl
or-low zero (suc zero) h k = refl
or-low (suc zero) zero h k = refl
or-low (suc zero) (suc zero) h k = refl
or-low zero (suc (suc y)) h k = absurd (omega arith)
or-low (suc zero) (suc (suc y)) h k = absurd (omega arith)
or-low (suc (suc x)) y h k = absurd (omega arith)

pub bit-and : (i a b : ℕ) → bit i (bit_and a b) ≡ bit i a && bit i b
unfolding bit
bit-and zero a b =
    let e : bit_and a b % 2 ≡ min (a % 2) (b % 2) = omega (arith, and_step a b) in
    ap (λ x. eqb x 1) e ∙ and_low (a % 2) (b % 2) (omega arith) (omega arith)
bit-and (suc i) a b =
    let e : bit_and a b / 2 ≡ bit_and (a / 2) (b / 2) = omega (arith, and_step a b) in
    ap (bit i) e ∙ bit-and i (a / 2) (b / 2)

pub bit-or : (i a b : ℕ) → bit i (bit_or a b) ≡ bit i a || bit i b
unfolding bit
bit-or zero a b =
    let e : bit_or a b % 2 ≡ max (a % 2) (b % 2) = omega (arith, or_step a b) in
    ap (λ x. eqb x 1) e ∙ or-low (a % 2) (b % 2) (omega arith) (omega arith)
bit-or (suc i) a b =
    let e : bit_or a b / 2 ≡ bit_or (a / 2) (b / 2) = omega (arith, or_step a b) in
    ap (bit i) e ∙ bit-or i (a / 2) (b / 2)

pub bit-zero : (i : ℕ) → bit i 0 ≡ false
unfolding bit
bit-zero zero = refl
bit-zero (suc i) = bit-zero i

pub bit_pow : (i x : ℕ) → bit i (2 ^ x) ≡ eqb i x
unfolding bit
bit_pow zero zero = refl
bit_pow zero (suc x) = ne_eqb (2 ^ suc x % 2) 1 (omega arith) ∙ sym (eqb-zero-suc x)
bit_pow (suc i) zero = bit-zero i ∙ sym (eqb-suc-zero i)
bit_pow (suc i) (suc x) = let e : 2 ^ suc x / 2 ≡ 2 ^ x = omega arith in ap (bit i) e ∙ bit_pow i x ∙ sym (eqb-suc-suc i x)

odd-eq : (a b : ℕ) → odd a ≡ odd b → a % 2 ≡ b % 2
odd-eq a b e = elim (ℕ_discrete (b % 2) 1) [
  | yes h ↦ omega (arith, eqb-true (a % 2) 1 (e ∙ eq-eqb (b % 2) 1 h))
  | no h ↦ omega (arith, eqb-false (a % 2) 1 (e ∙ ne_eqb (b % 2) 1 h))
]

pub bit_ext : (k a b : ℕ) → a < 2 ^ k → b < 2 ^ k → ((i : ℕ) → i < k → bit i a ≡ bit i b) → a ≡ b
unfolding bit
bit_ext zero a b h h' e = omega arith
bit_ext (suc k) a b h h' e =
    let low : a % 2 ≡ b % 2 = odd-eq a b (e 0 (omega arith)) in
    let high : a / 2 ≡ b / 2 = bit_ext k (a / 2) (b / 2) (omega arith) (omega arith) (λ i d. e (suc i) (omega arith)) in
    omega arith

pub bit_past : (k i c : ℕ) → c < 2 ^ k → k ≤ i → bit i c ≡ false
unfolding bit
bit_past zero i c h l = let e : c ≡ 0 = omega arith in rw e (bit-zero i)
bit_past (suc k) zero c h l = absurd (omega arith)
bit_past (suc k) (suc i) c h l = bit_past k i (c / 2) (omega arith) (omega arith)

pub bit-set_bit : (j i : ℕ) (b : Bool) (c : ℕ) → bit j (set_bit i b c) ≡ cond (eqb j i) b (bit j c)
unfolding bit set_bit
bit-set_bit zero zero true c = eq-eqb ((2 * (c / 2) + 1) % 2) 1 (omega arith)
bit-set_bit zero zero false c = ne_eqb ((2 * (c / 2) + 0) % 2) 1 (omega arith)
bit-set_bit (suc j) zero true c = let e : (2 * (c / 2) + 1) / 2 ≡ c / 2 = omega arith in rw (eqb-suc-zero j, e)
bit-set_bit (suc j) zero false c = let e : (2 * (c / 2) + 0) / 2 ≡ c / 2 = omega arith in rw (eqb-suc-zero j, e)
bit-set_bit zero (suc i) b c = let e : (2 * set_bit i b (c / 2) + c % 2) % 2 ≡ c % 2 = omega arith in rw (eqb-zero-suc i, e)
bit-set_bit (suc j) (suc i) b c = let e : (2 * set_bit i b (c / 2) + c % 2) / 2 ≡ set_bit i b (c / 2) = omega arith in rw (eqb-suc-suc j i, e) (bit-set_bit j i b (c / 2))

pub set_bit-lt : (k i : ℕ) (b : Bool) (c : ℕ) → i < k → c < 2 ^ k → set_bit i b c < 2 ^ k
unfolding set_bit
set_bit-lt zero i b c h l = absurd (omega arith)
set_bit-lt (suc k) zero true c h l = omega arith
set_bit-lt (suc k) zero false c h l = omega arith
set_bit-lt (suc k) (suc i) b c h l = omega (arith, set_bit-lt k i b (c / 2) (omega arith) (omega arith))

-- a bit by a shift
pub bit_shift : (i c : ℕ) → bit i c ≡ odd (c / 2 ^ i)
unfolding bit
bit_shift zero c = let e : c / 2 ^ 0 ≡ c = omega arith in rw e
bit_shift (suc i) c =
    let e : suc i ≡ 1 + i = omega arith in
    bit_shift i (c / 2) ∙ ap odd (shr-shr c 1 i ∙ ap (λ x. c / 2 ^ x) (sym e))

-- the bits of the other marks below k
pub bit_not : (k i c : ℕ) → i < k → c < 2 ^ k → bit i (2 ^ k - 1 - c) ≡ not (bit i c)
unfolding bit
bit_not zero i c h l = absurd (let z : ⊥ = omega arith in z)
bit_not (suc k) zero c h l = elim (ℕ_discrete (c % 2) 1) [
  | yes e ↦ rw (eq-eqb (c % 2) 1 e) (ne_eqb ((2 ^ suc k - 1 - c) % 2) 1 (omega arith))
  | no e ↦ rw (ne_eqb (c % 2) 1 e) (eq-eqb ((2 ^ suc k - 1 - c) % 2) 1 (omega arith))
]
bit_not (suc k) (suc i) c h l =
    let e : (2 ^ suc k - 1 - c) / 2 ≡ 2 ^ k - 1 - c / 2 = omega arith in
    ap (bit i) e ∙ bit_not k i (c / 2) (omega arith) (omega arith)

or-cond : (x t : Bool) → x || t ≡ cond t true x
or-cond true true = refl
or-cond true false = refl
or-cond false true = refl
or-cond false false = refl

and-cond : (x t : Bool) → x && not t ≡ cond t false x
and-cond true true = refl
and-cond true false = refl
and-cond false true = refl
and-cond false false = refl

-- a one shifted up by less than the width
shifted_one : (k m : ℕ) → m < k → 1 * 2 ^ m % 2 ^ k ≡ 2 ^ m
shifted_one k m h = shl_exact 1 m k (omega arith) (omega arith) ∙ (let e : 1 * 2 ^ m ≡ 2 ^ m = omega arith in e)

-- in k bits: a bit is set by an or with a one shifted to it, and cleared by an and with its complement
pub or-set_bit : (k m c : ℕ) {b : Bool} → b ≡ true → m < k → c < 2 ^ k → bit_or c (1 * 2 ^ m % 2 ^ k) ≡ set_bit m b c
or-set_bit k m c e h l =
    rw e
    (ap (bit_or c) (shifted_one k m h)
    ∙ bit_ext k (bit_or c (2 ^ m)) (set_bit m true c) (or_lt k c (2 ^ m) l (pow-lt h)) (set_bit-lt k m true c h l)
    (λ i d. bit-or i c (2 ^ m) ∙ ap (λ t. bit i c || t) (bit_pow i m) ∙ or-cond (bit i c) (eqb i m) ∙ sym (bit-set_bit i m true c)))

pub and-set_bit : (k m c : ℕ) {b : Bool} → b ≡ false → m < k → c < 2 ^ k → bit_and c (2 ^ k - 1 - 1 * 2 ^ m % 2 ^ k) ≡ set_bit m b c
and-set_bit k m c e h l =
    let p : 2 ^ m < 2 ^ k = pow-lt h in
    rw e
    (ap (λ x. bit_and c (2 ^ k - 1 - x)) (shifted_one k m h)
    ∙ bit_ext k (bit_and c (2 ^ k - 1 - 2 ^ m)) (set_bit m false c) (and_lt k c (2 ^ k - 1 - 2 ^ m) l (omega arith)) (set_bit-lt k m false c h l)
    (λ i d. bit-and i c (2 ^ k - 1 - 2 ^ m) ∙ ap (λ t. bit i c && t) (bit_not k i (2 ^ m) d p ∙ ap not (bit_pow i m))
    ∙ and-cond (bit i c) (eqb i m)
    ∙ sym (bit-set_bit i m false c)))
