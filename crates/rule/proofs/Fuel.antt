-- Any depth above the number of marks is enough, so that a run is one thing at whatever depth it is asked.
use mathlib.Core.Path.{◌≡◌}
use mathlib.Core.Logic.{inl, inr}
use mathlib.Core.Bool.{true, false}
use Prim.Native.Nat.{ℕ, zero, suc, ◌<◌}
use native.Mathlib.Omega.{arith}
use Rattle.theory.specs.Tree.{Tree, Deep, cofactor, konst, same_tree}
use Rattle.theory.specs.Clause.{Clause, set_cell}
use Rattle.theory.proofs.Cases.{cofactor-deep}
use Rattle.theory.proofs.Truths.{bool_cases}
use Rattle.rule.specs.Rule.{core_of, rest_of, mark_of, solved, called}
use Rattle.rule.proofs.Needs.{need}
use Rattle.rule.proofs.Parts.{Step, step, core-less, side_less}

pub called-fuel : (u v n : ℕ) (f : Tree) → Deep n f → need n f < u → need n f < v → called u n f ≡ called v n f
unfolding called
called-fuel zero v n f d a b = absurd (let z : ⊥ = omega arith in z)
called-fuel (suc u) zero n f d a b = absurd (let z : ⊥ = omega arith in z)
called-fuel (suc u) (suc v) n f d a b = elim (bool_cases (same_tree f (konst n false))) [
  | inl e ↦ rw e
  | inr e ↦ elim (bool_cases (same_tree f (konst n true))) [
    | inl e' ↦ rw (e, e')
    | inr e' ↦
        let s : Step n f = step n f d e e' in
        rw (
          e,
          e',
          called-fuel u v n (core_of n f) s.core.deep (omega (arith, core-less n f s)) (omega (arith, core-less n f s)),
          called-fuel u v n (cofactor (mark_of n f) true (rest_of n f)) (cofactor-deep n _ true _ s.rest.deep) (omega (arith, side_less n f s true)) (omega (arith, side_less n f s true)),
          called-fuel u v n (cofactor (mark_of n f) false (rest_of n f)) (cofactor-deep n _ false _ s.rest.deep) (omega (arith, side_less n f s false)) (omega (arith, side_less n f s false)),
        )
  ]
]

pub solved-fuel : (u v n : ℕ) (f : Tree) (y : Clause) → Deep n f → need n f < u → need n f < v → solved u n f y ≡ solved v n f y
unfolding solved
solved-fuel zero v n f y d a b = absurd (let z : ⊥ = omega arith in z)
solved-fuel (suc u) zero n f y d a b = absurd (let z : ⊥ = omega arith in z)
solved-fuel (suc u) (suc v) n f y d a b = elim (bool_cases (same_tree f (konst n false))) [
  | inl e ↦ rw e
  | inr e ↦ elim (bool_cases (same_tree f (konst n true))) [
    | inl e' ↦ rw (e, e')
    | inr e' ↦
        let s : Step n f = step n f d e e' in
        rw (
          e,
          e',
          solved-fuel u v n (core_of n f) y s.core.deep (omega (arith, core-less n f s)) (omega (arith, core-less n f s)),
          solved-fuel u v n (cofactor (mark_of n f) true (rest_of n f)) (set_cell y (mark_of n f) true) (cofactor-deep n _ true _ s.rest.deep) (omega (arith, side_less n f s true)) (omega (arith, side_less n f s true)),
          solved-fuel u v n (cofactor (mark_of n f) false (rest_of n f)) (set_cell y (mark_of n f) false) (cofactor-deep n _ false _ s.rest.deep) (omega (arith, side_less n f s false)) (omega (arith, side_less n f s false)),
        )
  ]
]
