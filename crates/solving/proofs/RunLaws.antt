-- The run of a function from its three parts.
use mathlib.Core.Path.{◌≡◌, refl, sym, ap, ap₂, ◌∙◌}
use mathlib.Core.Bool.{true, false, cond, ◌&&◌}
use mathlib.Core.List.{List, [], ◌++◌}
use Prim.Native.Nat.{ℕ, zero, suc, ◌+◌, ◌<◌}
use native.Mathlib.Omega.{arith}
use Rattle.std.proofs.Common.{append_assoc}
use Rattle.theory.specs.Tree.{Tree, Deep, cofactor, konst}
use Rattle.theory.specs.Clause.{Clause, set_cell}
use Rattle.theory.proofs.Cases.{cofactor-deep}
use Rattle.theory.proofs.Support.{same_refl}
use Rattle.rule.specs.Rule.{core_of, has_core, rest_of, mark_of, solved, step_calls, called, all_fit}
use Rattle.rule.proofs.Needs.{need, need-le}
use Rattle.rule.proofs.Parts.{Step, step, core-none, core-less, side_less}
use Rattle.rule.proofs.Fuel.{called-fuel, solved-fuel}
use Rattle.rule.proofs.Means.{solved-core}
use Rattle.dividing.specs.Dividing.{Inner}
use Rattle.dividing.proofs.FitLaws.{all_append}
use Rattle.solving.specs.Solving.{part_of, literals_of, solved_to, called_to}

-- without a core nothing more is called for
called_false : (u n : ℕ) → called u n (konst n false) ≡ []
unfolding called
called_false zero n = refl
called_false (suc u) n = rw (same_refl (konst n false))

called-core : (u n : ℕ) (f : Tree) → Deep n (core_of n f) → cond (has_core n f) (called u n (core_of n f)) [] ≡ called u n (core_of n f)
called-core u n f h =
    (elim (has_core n f) as (λ v. has_core n f ≡ v → cond v (called u n (core_of n f)) [] ≡ called u n (core_of n f)) [
      | true ↦ λ e. refl
      | false ↦ λ e. rw (core-none n f h e) (sym (called_false u n))
    ]) refl

-- one part more
pub called-next : (room u n : ℕ) (f : Tree) (i : ℕ) → all_fit room n (called_to u n f (suc i)) ≡ all_fit room n (called_to u n f i) && all_fit room n (called u n (part_of n f i))
unfolding called_to
called-next room u n f i = all_append room n (called_to u n f i) (called u n (part_of n f i))

-- what is over in the first parts is over in all
pub over_stays : (room u n : ℕ) (f : Tree) (i k : ℕ) → all_fit room n (called_to u n f i) ≡ false → all_fit room n (called_to u n f (k + i)) ≡ false
over_stays room u n f i zero e = let z : 0 + i ≡ i = omega arith in ap (λ j. all_fit room n (called_to u n f j)) z ∙ e
over_stays room u n f i (suc k) e =
    let z : suc k + i ≡ suc (k + i) = omega arith in
    ap (λ j. all_fit room n (called_to u n f j)) z ∙ called-next room u n f (k + i) ∙ ap (λ v. v && all_fit room n (called u n (part_of n f (k + i)))) (over_stays room u n f i k e)

module _ (n : ℕ) (f : Tree) (deep : Deep n f) (inner : Inner n f) where
  pub whole : Step n f
  whole = step n f deep inner.some inner.part

  pub part_deep : (i : ℕ) → Deep n (part_of n f i)
  part_deep zero = whole.core.deep
  part_deep (suc zero) = cofactor-deep n (mark_of n f) true (rest_of n f) whole.rest.deep
  part_deep (suc (suc i)) = cofactor-deep n (mark_of n f) false (rest_of n f) whole.rest.deep

  pub part_less : (i : ℕ) → need n (part_of n f i) < need n f
  part_less zero = core-less n f whole
  part_less (suc zero) = side_less n f whole true
  part_less (suc (suc i)) = side_less n f whole false

  -- a part's run may take as many steps as the function's
  solved_same : (y : Clause) (i : ℕ) → solved_to n n f y i ≡ solved_to (n + 1) n f y i
  unfolding solved_to
  solved_same y zero = refl
  solved_same y (suc i) =
      ap₂ (λ (a b : List Clause). a ++ b) (solved_same y i)
      (solved-fuel n (n + 1) n (part_of n f i) (literals_of (mark_of n f) y i) (part_deep i) (omega (arith, part_less i, need-le n f)) (omega (arith, part_less i, need-le n f)))

  called_same : (i : ℕ) → called_to n n f i ≡ called_to (n + 1) n f i
  unfolding called_to
  called_same zero = refl
  called_same (suc i) =
      ap₂ (λ (a b : List Tree). a ++ b) (called_same i)
      (called-fuel n (n + 1) n (part_of n f i) (part_deep i) (omega (arith, part_less i, need-le n f)) (omega (arith, part_less i, need-le n f)))

  solved_by : (y : Clause) → solved (suc n) n f y ≡ solved_to n n f y 3
  unfolding solved solved_to
  solved_by y =
      rw (inner.some, inner.part, solved-core n n f y whole.core.deep)
      (sym (append_assoc (solved n n (core_of n f) y) (solved n n (cofactor (mark_of n f) true (rest_of n f)) (set_cell y (mark_of n f) true)) (solved n n (cofactor (mark_of n f) false (rest_of n f)) (set_cell y (mark_of n f) false))))

  pub solved-parts : (y : Clause) → solved (n + 1) n f y ≡ solved_to (n + 1) n f y 3
  solved-parts y = let e : n + 1 ≡ suc n = omega arith in ap (λ u. solved u n f y) e ∙ solved_by y ∙ solved_same y 3

  called_by : (room : ℕ) → all_fit room n (called (suc n) n f) ≡ all_fit room n (step_calls n f) && all_fit room n (called_to n n f 3)
  unfolding called called_to
  called_by room =
      rw (inner.some, inner.part, called-core n n f whole.core.deep)
      (all_append room n (step_calls n f) _
      ∙ ap (λ ts. all_fit room n (step_calls n f) && all_fit room n ts)
      (sym (append_assoc (called n n (core_of n f)) (called n n (cofactor (mark_of n f) true (rest_of n f))) (called n n (cofactor (mark_of n f) false (rest_of n f))))))

  pub called-parts : (room : ℕ) → all_fit room n (called (n + 1) n f) ≡ all_fit room n (step_calls n f) && all_fit room n (called_to (n + 1) n f 3)
  called-parts room =
      let e : n + 1 ≡ suc n = omega arith in
      ap (λ u. all_fit room n (called u n f)) e ∙ called_by room ∙ ap (λ ts. all_fit room n (step_calls n f) && all_fit room n ts) (called_same 3)
