-- The small functions of the join.
use mathlib.Core.Path.{◌≡◌, sym, ◌∙◌}
use mathlib.Core.Bool.{Bool}
use mathlib.Core.List.{List}
use Prim.Native.Nat.{ℕ, ◌+◌, ◌*◌, ◌/◌, ◌%◌, ◌^◌, ◌<◌}
use native.Mathlib.Omega.{arith}
use native.Mathlib.Decide.{ℕ_discrete}
use lib.Dec.{eqb}
use borrow.Author.Tests.{eq-eqb, ne_eqb}
use Rattle.theory.specs.Table.{child_of, truth, num, step}
use Rattle.theory.specs.Words.{node_at, nodes}
use Rattle.theory.proofs.Words.{at-nodes}
use Rattle.theory.proofs.Masks.{bit_shift}
use Rattle.theory.proofs.Walk.{num-truth}
use Rattle.join.specs.Task.{op_of, step_in}

-- ---- a step
pub step_other : (w : List ℕ) (v : ℕ) (b : Bool) (p mark : ℕ) → mark ≡ (node_at w p).mark → (mark ≡ v → ⊥) → p ≡ step_in w v b p
unfolding step_in
step_other w v b p mark is ne = rw (ne_eqb (node_at w p).mark v (λ e. ne (is ∙ e)))

pub step_child : (w : List ℕ) (v : ℕ) (b : Bool) (p mark r : ℕ) → mark ≡ (node_at w p).mark → mark ≡ v → r ≡ child_of b (node_at w p) → r ≡ step_in w v b p
unfolding step_in
step_child w v b p mark r is e to = rw (eq-eqb (node_at w p).mark v (sym is ∙ e)) to

pub step_in_lem : (count : ℕ) (w : List ℕ) (v : ℕ) (b : Bool) (p : ℕ) → p < count → step_in w v b p ≡ step (nodes count w) v b p
unfolding step_in step
step_in_lem count w v b p h = rw (at-nodes count w p h)

-- ---- the truth table
num-odd : (c : ℕ) → num (eqb (c % 2) 1) ≡ c % 2
num-odd c = elim (ℕ_discrete (c % 2) 1) [ yes e ↦ rw (eq-eqb (c % 2) 1 e) (sym e) | no e ↦ rw (ne_eqb (c % 2) 1 e) (omega arith) ]

pub op-is : (op x y : ℕ) → x < 2 → y < 2 → op / 2 ^ (2 * x + y) % 2 ≡ num (op_of op (truth x) (truth y))
unfolding op_of
op-is op x y hx hy =
    sym (rw (num-truth x hx, num-truth y hy, bit_shift (2 * x + y) op) (num-odd (op / 2 ^ (2 * x + y))))
