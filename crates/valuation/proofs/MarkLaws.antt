-- Laws of the marks of a mask: the first of them, and that a small mask has as many below its own bound.
use mathlib.Core.Path.{◌≡◌, ◌∙◌}
use mathlib.Core.Logic.{◌≢◌}
use mathlib.Core.Bool.{true, false, cond}
use mathlib.Core.List.{[], ◌∷◌, append-nil}
use Prim.Native.Nat.{ℕ, zero, suc, ◌^◌, ◌≤◌, ◌<◌}
use native.Mathlib.Omega.{arith}
use native.Mathlib.Decide.{ℕ_discrete}
use lib.Count.{count_trailing_zeros}
use Rattle.theory.specs.Mask.{bit, set_bit}
use Rattle.theory.specs.Clause.{marks_of}
use Rattle.theory.proofs.Masks.{bit_past}
use Rattle.theory.proofs.Marks.{trailing_first}
use Rattle.std.specs.List.{All}
use Rattle.std.proofs.lemmas.List.Elements.{All-nil, All-cons, All-append}
use Rattle.valuation.specs.Marks.{mask_bits}

-- the first mark, and those that are left then
pub left_first : (rest : ℕ) → rest < 2 ^ mask_bits → rest ≢ 0 → (next : ℕ) → next ≡ set_bit (count_trailing_zeros 64 rest) false rest
    → marks_of mask_bits rest ≡ count_trailing_zeros 64 rest ∷ marks_of mask_bits next
left_first rest h p next e = rw e (trailing_first 64 mask_bits rest (omega arith) h (omega arith))

-- no mark stands above a mask's bound
pub within : (m n s : ℕ) → n ≤ m → s < 2 ^ n → marks_of m s ≡ marks_of n s
unfolding marks_of
within zero n s l h = let e : n ≡ 0 = omega arith in rw e
within (suc m) n s l h = elim (ℕ_discrete n (suc m)) [
  | yes e ↦ rw e
  | no e ↦ rw (bit_past n m s h (omega arith)) (append-nil (marks_of m s) ∙ within m n s (omega arith) h)
]

-- whatever is in the list of the marks below n is below n
below : (n m s : ℕ) → m ≤ n → All (λ i. i < n) (marks_of m s)
unfolding marks_of
below n zero s l = All-nil (λ i. i < n)
below n (suc m) s l =
    All-append (λ i. i < n) (marks_of m s) _ (below n m s (omega arith))
    (elim (bit m s) as (λ b. All (λ i. i < n) (cond b (m ∷ []) [])) [
      | true ↦ All-cons (λ i. i < n) m [] (omega arith) (All-nil (λ i. i < n))
      | false ↦ All-nil (λ i. i < n)
    ])

pub marks_below : (n s : ℕ) → All (λ i. i < n) (marks_of n s)
marks_below n s = below n n s (omega arith)
