-- Counts of a mask's bits: the number of its marks, the last of them, and the first, by which a mask is read upwards.
use mathlib.Core.Path.{◌≡◌, refl, sym, ap, ◌∙◌}
use mathlib.Core.Logic.{◌≢◌}
use mathlib.Core.Bool.{Bool, true, false, cond}
use mathlib.Core.List.{List, [], ◌∷◌, ◌++◌}
use mathlib.Core.Option.{none, some}
use Prim.Native.Nat.{ℕ, zero, suc, ◌+◌, ◌/◌, ◌%◌, ◌-◌, ◌^◌, ◌≤◌, ◌<◌}
use native.Mathlib.Omega.{arith}
use native.Mathlib.Decide.{ℕ_discrete, dec_lt}
use lib.ListN.{length, length-append}
use lib.Count.{ones, count_leading_zeros, count_trailing_zeros, ones_step, leading_top}
use lib.Pow.{pow_mono}
use borrow.Author.Tests.{eq-eqb, ne_eqb}
use Rattle.theory.specs.Mask.{odd, bit, set_bit}
use Rattle.theory.specs.Clause.{marks_of, last_mark}
use Rattle.theory.proofs.Trailing.{tz_below, tz_at}
use Rattle.theory.proofs.Masks.{bit-zero, bit_past, bit-set_bit}

-- the mark that stands in a mask, or none
abbrev one : Bool → ℕ → List ℕ
one b m = cond b (m ∷ []) []

length-one : (b : Bool) (m : ℕ) → length (one b m) ≡ cond b 1 0
length-one true m = refl
length-one false m = refl

odd-digit : (x : ℕ) → cond (odd x) 1 0 ≡ x % 2
odd-digit x = elim (ℕ_discrete (x % 2) 1) [
  | yes e ↦ rw (eq-eqb (x % 2) 1 e) (omega arith)
  | no e ↦ rw (ne_eqb (x % 2) 1 e) (omega arith)
]

-- the number of marks, bit 0 apart
pub number-low : (n x : ℕ) → length (marks_of (suc n) x) ≡ x % 2 + length (marks_of n (x / 2))
unfolding marks_of bit
number-low zero x = length-one (odd x) 0 ∙ odd-digit x ∙ (let e : x % 2 ≡ x % 2 + 0 = omega arith in e)
number-low (suc n) x =
    omega (
      arith,
      number-low n x,
      length-append (marks_of (suc n) x) (one (bit n (x / 2)) (suc n)),
      length-append (marks_of n (x / 2)) (one (bit n (x / 2)) n),
      length-one (bit n (x / 2)) n,
      length-one (bit n (x / 2)) (suc n),
    )

-- the count of ones is the number of marks
pub ones_marks : (n x : ℕ) → x < 2 ^ n → ones x ≡ length (marks_of n x)
ones_marks zero x h = let e : x ≡ 0 = omega arith in rw e (unfold ones marks_of in refl)
ones_marks (suc n) x h = omega (arith, ones_step x, ones_marks n (x / 2) (omega arith), number-low n x)

pub marks-le : (n x : ℕ) → length (marks_of n x) ≤ n
unfolding marks_of
marks-le zero x = omega arith
marks-le (suc n) x = (elim (bit n x) as (λ b. length (marks_of n x ++ one b n) ≤ suc n) [
  | true ↦ omega (arith, length-append (marks_of n x) (n ∷ []), marks-le n x)
  | false ↦ omega (arith, length-append (marks_of n x) [], marks-le n x)
])

-- a mark whose bit is set, with none above it, is the last
pub last-is : (n m x : ℕ) → m < n → bit m x ≡ true → ((i : ℕ) → m < i → bit i x ≡ false) → last_mark n x ≡ some m
unfolding last_mark
last-is zero m x h t above = absurd (let z : ⊥ = omega arith in z)
last-is (suc n) m x h t above = elim (ℕ_discrete m n) [
  | yes e ↦ rw (ap (λ i. bit i x) (sym e) ∙ t, e)
  | no e ↦ rw (above n (omega arith)) (last-is n m x (omega arith) t above)
]

pub last_none : (n : ℕ) → last_mark n 0 ≡ none
unfolding last_mark
last_none zero = refl
last_none (suc n) = rw (bit-zero n) (last_none n)

bit-top : (j x : ℕ) → 2 ^ j ≤ x → x < 2 ^ suc j → bit j x ≡ true
unfolding bit
bit-top zero x l h = eq-eqb (x % 2) 1 (omega arith)
bit-top (suc j) x l h = bit-top j (x / 2) (omega arith) (omega arith)

below : (n x j : ℕ) → x < 2 ^ n → 2 ^ j ≤ x → j < n
below n x j h low = elim (dec_lt j n) [
  | yes d ↦ d
  | no d ↦ let p : n ≤ j = omega arith in absurd (omega (arith, pow_mono p))
]

-- the leading zeros of a mask that is not empty give the last mark
pub leading_last : (w n x : ℕ) → 0 < x → x < 2 ^ n → n ≤ w → last_mark n x ≡ some (w - 1 - count_leading_zeros w x)
leading_last w n x p h l =
    let (j, e, low, high) = leading_top w x p (omega (arith, pow_mono l)) in
    let s : w - 1 - count_leading_zeros w x ≡ j = omega arith in
    rw s
    (last-is n j x (below n x j h low) (bit-top j x low high) (λ i d. bit_past (suc j) i x high (omega arith)))

marks-none : (n x : ℕ) → ((i : ℕ) → i < n → bit i x ≡ false) → marks_of n x ≡ []
unfolding marks_of
marks-none zero x unset = refl
marks-none (suc n) x unset = rw (marks-none n x (λ i d. unset i (omega arith)), unset n (omega arith))

pub marks_of-zero : (n : ℕ) → marks_of n 0 ≡ []
marks_of-zero n = marks-none n 0 (λ i d. bit-zero i)

marks-above : (n m x : ℕ) → m ≢ n → marks_of n x ≡ m ∷ marks_of n (set_bit m false x) → marks_of (suc n) x ≡ m ∷ marks_of (suc n) (set_bit m false x)
unfolding marks_of
marks-above n m x e ih =
    let s : bit n (set_bit m false x) ≡ bit n x = bit-set_bit n m false x ∙ rw (ne_eqb n m (omega arith)) in
    rw (ih, s)

-- a mark whose bit is set, with none below it, is the first
marks-first : (n m x : ℕ) → m < n → bit m x ≡ true → ((i : ℕ) → i < m → bit i x ≡ false) → marks_of n x ≡ m ∷ marks_of n (set_bit m false x)
marks-first zero m x h t unset = absurd (let z : ⊥ = omega arith in z)
marks-first (suc n) m x h t unset = elim (ℕ_discrete m n) [
  | yes e ↦ ends e
  | no e ↦ marks-above n m x e (marks-first n m x (omega arith) t unset)
]
  where
    clear : (i : ℕ) → i < suc m → bit i (set_bit m false x) ≡ false
    clear i d = bit-set_bit i m false x ∙ elim (ℕ_discrete i m) [
      | yes e ↦ rw (eq-eqb i m e)
      | no e ↦ rw (ne_eqb i m e) (unset i (omega arith))
    ]

    ends : m ≡ n → marks_of (suc n) x ≡ m ∷ marks_of (suc n) (set_bit m false x)
    ends e =
        rw (marks-none (suc n) (set_bit m false x) (λ i d. clear i (omega arith)))
        (unfold marks_of in rw (marks-none n x (λ i d. unset i (omega arith)), ap (λ i. bit i x) (sym e) ∙ t, e))

-- the trailing zeros of a mask that is not empty give its first mark
pub trailing_lt : (w n x : ℕ) → 0 < x → x < 2 ^ n → n ≤ w → count_trailing_zeros w x < n
trailing_lt w n x p h l = elim (dec_lt (count_trailing_zeros w x) n) [
  | yes d ↦ d
  | no d ↦
      let z : ◌≡◌ {A = ℕ} 1 0 = ap (λ b. cond b 1 0) (sym (tz_at w x p (omega (arith, pow_mono l))) ∙ bit_past n (count_trailing_zeros w x) x h (omega arith)) in
      absurd (omega arith)
]

pub trailing_first : (w n x : ℕ) → 0 < x → x < 2 ^ n → n ≤ w → marks_of n x ≡ count_trailing_zeros w x ∷ marks_of n (set_bit (count_trailing_zeros w x) false x)
trailing_first w n x p h l =
    marks-first n (count_trailing_zeros w x) x (trailing_lt w n x p h l) (tz_at w x p (omega (arith, pow_mono l))) (λ i d. tz_below w x i d)
