-- Decimal numbers, clause lines, and how long they are.
use mathlib.Core.Path.{◌≡◌, refl, ap, ◌∙◌}
use mathlib.Core.Bool.{true, false}
use mathlib.Core.List.{List, [], ◌∷◌, ◌++◌}
use Prim.Native.Nat.{ℕ, zero, suc, ◌+◌, ◌*◌, ◌/◌, ◌%◌, ◌^◌, ◌≤◌, ◌<◌}
use native.Mathlib.Omega.{arith}
use native.Mathlib.Nat.{mul-le-mul_right}
use native.Mathlib.Decide.{dec_lt}
use lib.ListN.{length, length-append}
use borrow.Author.Tests.{lt-ltb, le-ltb}
use Rattle.theory.specs.Mask.{bit}
use Rattle.theory.specs.Clause.{Clause, clause, cell}
use Rattle.cube.specs.Cube.{clause_at}
use Rattle.text.specs.Text.{digit, digits, decimal, cell_char, cell_chars, clause_line, clause_lines, count_line, list_text}

-- enough digits are enough
digits-enough : (k j w : ℕ) → w < k → w < j → digits k w ≡ digits j w
unfolding digits
digits-enough zero j w h g = absurd (omega arith)
digits-enough (suc k) zero w h g = absurd (omega arith)
digits-enough (suc k) (suc j) w h g = elim (dec_lt w 10) [
  | yes a ↦ rw (lt-ltb w 10 a)
  | no a ↦ rw (le-ltb w 10 (omega arith)) (ap (λ (r : List ℕ). r ++ (digit (w % 10) ∷ [])) (digits-enough k j (w / 10) (omega arith) (omega arith)))
]

pub decimal-one : (w : ℕ) → w < 10 → decimal w ≡ (48 + w) ∷ []
unfolding decimal digits
decimal-one w h = rw (lt-ltb w 10 h)

pub decimal-more : (w : ℕ) → 10 ≤ w → decimal w ≡ decimal (w / 10) ++ ((48 + w % 10) ∷ [])
unfolding decimal digits
decimal-more w h = rw (le-ltb w 10 h) (ap (λ (r : List ℕ). r ++ (digit (w % 10) ∷ [])) (digits-enough w (suc (w / 10)) (w / 10) (omega arith) (omega arith)))

pub decimal-longer : (w : ℕ) → 10 ≤ w → length (decimal w) ≡ length (decimal (w / 10)) + 1
decimal-longer w h = ap length (decimal-more w h) ∙ length-append (decimal (w / 10)) ((48 + w % 10) ∷ [])

digits-few : (d k w : ℕ) → w < 10 ^ suc d → w < k → length (digits k w) ≤ suc d
unfolding digits
digits-few d zero w h g = absurd (omega arith)
digits-few d (suc k) w h g = elim (dec_lt w 10) [
  | yes a ↦ rw (lt-ltb w 10 a) (omega arith)
  | no a ↦ rw (le-ltb w 10 (omega arith)) (fewer d k w h g a (λ e f. digits-few e k (w / 10) f (omega arith)))
]
  where
    fewer : (d k w : ℕ) → w < 10 ^ suc d → w < suc k → (w < 10 → ⊥) → ((e : ℕ) → w / 10 < 10 ^ suc e → length (digits k (w / 10)) ≤ suc e)
        → length (digits k (w / 10) ++ (digit (w % 10) ∷ [])) ≤ suc d
    fewer zero k w h g a rest = absurd (a (omega arith))
    fewer (suc d) k w h g a rest =
        let p : 10 ^ suc (suc d) ≡ 10 * 10 ^ suc d = omega arith in
        omega (arith, rest d (omega arith), length-append (digits k (w / 10)) (digit (w % 10) ∷ []))

pub decimal-short : (w : ℕ) → w < 2 ^ 64 → length (decimal w) ≤ 20
unfolding decimal
decimal-short w h = digits-few 19 (suc w) w (omega arith) (omega arith)

-- ---- clause lines
pub length-cells : (n : ℕ) (c : Clause) → length (cell_chars n c) ≡ n
unfolding cell_chars
length-cells zero c = refl
length-cells (suc n) c = omega (arith, length-append (cell_chars n c) (cell_char (cell c n) ∷ []), length-cells n c)

pub cells-step : (c : Clause) (i : ℕ) → cell_chars (suc i) c ≡ cell_chars i c ++ (cell_char (cell c i) ∷ [])
unfolding cell_chars
cells-step c i = refl

pub lines_step : (n : ℕ) (words : List ℕ) (i : ℕ) → clause_lines n words (suc i) ≡ clause_lines n words i ++ clause_line n (clause_at words i)
unfolding clause_lines
lines_step n words i = refl

-- a mark's character, by its two bits
module _ (f v m : ℕ) where
  pub unset_char : false ≡ bit m f → 45 ≡ cell_char (cell (clause f v) m)
  unfolding cell cell_char
  unset_char e = rw (← e)

  pub one_char : true ≡ bit m f → true ≡ bit m v → 49 ≡ cell_char (cell (clause f v) m)
  unfolding cell cell_char
  one_char e g = rw (← e, ← g)

  pub zero_char : true ≡ bit m f → false ≡ bit m v → 48 ≡ cell_char (cell (clause f v) m)
  unfolding cell cell_char
  zero_char e g = rw (← e, ← g)

-- ---- how long the texts are
pub length-line : (n : ℕ) (c : Clause) → length (clause_line n c) ≡ suc n
length-line n c = omega (arith, length-append (cell_chars n c) (10 ∷ []), length-cells n c)

pub length_lines : (n : ℕ) (words : List ℕ) (k : ℕ) → length (clause_lines n words k) ≡ k * suc n
unfolding clause_lines
length_lines n words zero = omega arith
length_lines n words (suc k) =
    let m : suc k * suc n ≡ k * suc n + suc n = omega arith in
    omega (arith, m, length-append (clause_lines n words k) (clause_line n (clause_at words k)), length-line n (clause_at words k), length_lines n words k)

-- the first i lines and one more are among all
pub lines-within : (n : ℕ) (words : List ℕ) (k i : ℕ) → i < k → length (clause_lines n words i) + suc n ≤ length (clause_lines n words k)
lines-within n words k i h =
    let m : suc i * suc n ≤ k * suc n = mul-le-mul_right (suc n) h in
    let s : suc i * suc n ≡ i * suc n + suc n = omega arith in
    omega (arith, m, s, length_lines n words i, length_lines n words k)

pub count-long : (word : List ℕ) (w : ℕ) → length (count_line word w) ≡ length word + length (decimal w) + 1
count-long word w = omega (arith, length-append word (decimal w ++ (10 ∷ [])), length-append (decimal w) (10 ∷ []))

pub count-short : (word : List ℕ) (w : ℕ) → w < 2 ^ 64 → length (count_line word w) ≤ length word + 21
count-short word w h = omega (arith, count-long word w, decimal-short w h)

pub list-short : (word : List ℕ) (n k : ℕ) (words : List ℕ) → n ≤ 60 → k ≤ 1024 → length (list_text word n k words) ≤ length word + 62485
list-short word n k words m h =
    let p : k * suc n ≤ 1024 * suc n = mul-le-mul_right (suc n) h in
    omega (arith, p, length-append (count_line word k) (clause_lines n words k), count-short word k (omega arith), length_lines n words k)
