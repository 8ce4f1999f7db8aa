-- The first thing in a row that fails a test: the first malformed clause, the first bad node.
use Rattle.std.specs.Prelude.{Bool, cond, ℕ, zero, suc, ltb}

-- the least i below k that fails the test, or k where none does
unfoldable pub first_failing : (ℕ → Bool) → ℕ → ℕ
first_failing ok zero = zero
first_failing ok (suc k) = cond (ltb (first_failing ok k) k) (first_failing ok k) (cond (ok k) (suc k) k)
