-- Masks: natural numbers read by their bits. A case, the fixed marks of a clause and its values are masks; bit i is mark i.
use Rattle.std.specs.Prelude.{Bool, cond, ℕ, zero, suc, ◌+◌, ◌*◌, ◌/◌, ◌%◌, eqb}

-- bit 0 of a mask
abbrev pub odd : ℕ → Bool
odd c = eqb (c % 2) 1

-- bit i of a mask
unfoldable pub bit : ℕ → ℕ → Bool
bit zero c = odd c
bit (suc i) c = bit i (c / 2)

-- the mask with bit i set to b
unfoldable pub set_bit : ℕ → Bool → ℕ → ℕ
set_bit zero b c = 2 * (c / 2) + cond b 1 0
set_bit (suc i) b c = 2 * set_bit i b (c / 2) + c % 2
