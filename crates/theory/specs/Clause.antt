-- Clauses: the marks that one fixes, and their values.
use Rattle.std.specs.Prelude.{◌≡◌, Bool, true, false, cond, not, ◌||◌, ◌&&◌, List, [], ◌∷◌, ◌++◌, map, ℕ, zero, suc, ◌+◌, ◌*◌, ◌/◌, ◌^◌, ◌<◌, eqb, leb}
use Rattle.std.specs.Bool.{beq}
use Rattle.std.proofs.Math.Option.{Option, none, some}
use Rattle.std.specs.Int.Bits.{bit_or}
use Rattle.theory.specs.Mask.{odd, bit, set_bit}

-- a mask of the fixed marks, and one of their values
pub record Clause : Type 0 where
  pub fixed : ℕ
  pub values : ℕ

abbrev pub clause : ℕ → ℕ → Clause
clause f v = record { fixed = f; values = v }

-- over n marks: fixed has a bit from n up, or values has a bit that fixed has not
unfoldable pub malformed : ℕ → ℕ → ℕ → Bool
malformed n fixed values = leb (2 ^ n) fixed || not (eqb (bit_or fixed values) fixed)

-- not malformed, bit by bit: no bit from n up, no value bit outside fixed
pub record WellFormed (n : ℕ) (c : Clause) : Type 0 where
  pub small : c.fixed < 2 ^ n
  pub small-values : c.values < 2 ^ n
  pub inside : (i : ℕ) → bit i c.fixed ≡ false → bit i c.values ≡ false

-- a clause's cell at a mark: unset, or a value
unfoldable pub cell : Clause → ℕ → Option Bool
cell c m = cond (bit m c.fixed) (some (bit m c.values)) none

unfoldable pub empty_clause : Clause
empty_clause = record { fixed = 0; values = 0 }

-- the clause with the mark fixed at a value
unfoldable pub set_cell : Clause → ℕ → Bool → Clause
set_cell c m b = record { fixed = set_bit m true c.fixed; values = set_bit m b c.values }

-- the clause with the mark unset
unfoldable pub unset_cell : Clause → ℕ → Clause
unset_cell c m = record { fixed = set_bit m false c.fixed; values = set_bit m false c.values }

-- the marks below n in a mask, rising
unfoldable pub marks_of : ℕ → ℕ → List ℕ
marks_of zero f = []
marks_of (suc n) f = marks_of n f ++ cond (bit n f) (n ∷ []) []

-- the greatest mark below n in a mask
unfoldable pub last_mark : ℕ → ℕ → Option ℕ
last_mark zero f = none
last_mark (suc n) f = cond (bit n f) (some n) (last_mark n f)

-- at a mark that d fixes, c has the same cell
unfoldable pub agreeing : Clause → Clause → ℕ → Bool
agreeing c d m = not (bit m d.fixed) || (bit m c.fixed && beq (bit m c.values) (bit m d.values))

-- every cell below n that is fixed in d is fixed in c with the same value
unfoldable pub extending : ℕ → Clause → Clause → Bool
extending zero c d = true
extending (suc n) c d = extending n c d && agreeing c d n

-- a mark and its value as one word: 2·mark + value
abbrev pub entry_of : ℕ → Bool → ℕ
entry_of m b = 2 * m + cond b 1 0

-- the words of the marks below n that a clause fixes, rising
unfoldable pub entries_of : ℕ → Clause → List ℕ
entries_of n c = map (λ m. entry_of m (bit m c.values)) (marks_of n c.fixed)

-- one word after another sets its mark: the last wins
unfoldable pub gather : Clause → List ℕ → Clause
gather c [] = c
gather c (w ∷ ws) = gather (set_cell c (w / 2) (odd w)) ws
