-- The clauses that the rule lists hold exactly where the function says yes.
use mathlib.Core.Path.{◌≡◌, refl, sym, ap, ◌∙◌}
use mathlib.Core.Logic.{inl, inr}
use mathlib.Core.Bool.{Bool, true, false, cond, ◌||◌, ◌&&◌, beq}
use mathlib.Core.List.{[]}
use Prim.Native.Nat.{ℕ, zero, suc, ◌+◌, ◌<◌}
use native.Mathlib.Omega.{arith}
use native.Mathlib.Decide.{ℕ_discrete}
use Rattle.theory.specs.Mask.{bit}
use Rattle.theory.specs.Tree.{Tree, Deep, look, konst, cofactor, Free, same_tree, depends_on}
use Rattle.theory.specs.Clause.{Clause, empty_clause, set_cell}
use Rattle.theory.proofs.Masks.{bit-zero}
use Rattle.theory.proofs.Cases.{cofactor-deep, pointwise-look, konst-look}
use Rattle.theory.proofs.Support.{free_of, of_free, same_equal, same_refl}
use Rattle.theory.proofs.Truths.{clash, bool_cases}
use Rattle.cube.specs.Cube.{all_hold, dnf}
use Rattle.rule.specs.Rule.{core_of, has_core, rest_of, mark_of, solved}
use Rattle.rule.proofs.Holding.{bit-other, set_holds, empty_holds, dnf-append}
use Rattle.rule.proofs.Setting.{look_own, free_own, free_set}
use Rattle.rule.proofs.Needs.{need, need-le}
use Rattle.rule.proofs.Parts.{Step, step, core-none, core-less, side_less}

-- the literals chosen so far are on other marks
abbrev pub Apart : Tree → Clause → Type 0
Apart f y = (i : ℕ) → depends_on i f ≡ true → bit i y.fixed ≡ false

bound : (n : ℕ) (f g : Tree) (i : ℕ) → (Free i f → Free i g) → depends_on i g ≡ true → depends_on i f ≡ true
bound n f g i h e = elim (bool_cases (depends_on i f)) [ inl a ↦ a | inr a ↦ absurd (clash e (of_free n i g (h (free_of n i f a)))) ]

apart-core : (n : ℕ) (f : Tree) (y : Clause) → Step n f → Apart f y → Apart (core_of n f) y
apart-core n f y s h i e = h i (bound n f (core_of n f) i (s.core.frees i) e)

apart_side : (n : ℕ) (f : Tree) (y : Clause) (b : Bool) → Step n f → Apart f y → Apart (cofactor (mark_of n f) b (rest_of n f)) (set_cell y (mark_of n f) b)
unfolding set_cell
apart_side n f y b s h i e =
    let x : ℕ = mark_of n f in
    let g : Tree = rest_of n f in
    elim (ℕ_discrete i x) [
      | yes d ↦ absurd (clash e (of_free n i (cofactor x b g) (rw d (free_own x b g))))
      | no d ↦ bit-other i x true y.fixed d ∙ h i (bound n f (cofactor x b g) i (λ z. free_set i x b g (s.rest.frees i z)) e)
    ]

-- without a core nothing is added
pub solved_false : (d n : ℕ) (y : Clause) → solved d n (konst n false) y ≡ []
unfolding solved
solved_false zero n y = refl
solved_false (suc d) n y = rw (same_refl (konst n false))

pub solved-core : (d n : ℕ) (f : Tree) (y : Clause) → Deep n (core_of n f) → cond (has_core n f) (solved d n (core_of n f) y) [] ≡ solved d n (core_of n f) y
solved-core d n f y h =
    (elim (has_core n f) as (λ v. has_core n f ≡ v → cond v (solved d n (core_of n f) y) [] ≡ solved d n (core_of n f) y) [
      | true ↦ λ e. refl
      | false ↦ λ e. rw (core-none n f h e) (sym (solved_false d n y))
    ]) refl

-- the core, or g with the mark true, or with the mark false: x is the case's bit, h the literals, a the core, g what is left, m the function
combined : (x h a g m s t : Bool) → (x ≡ true → s ≡ g) → (x ≡ false → t ≡ g) → g || a ≡ m
    → (h && a) || (((beq x true && h) && s) || ((beq x false && h) && t)) ≡ h && m
combined true true a g m s t p q r = rw (p refl) (swap a g ∙ r)
  where
    swap : (a g : Bool) → a || (g || false) ≡ g || a
    swap true true = refl
    swap true false = refl
    swap false true = refl
    swap false false = refl
combined true false a g m s t p q r = refl
combined false true a g m s t p q r = rw (q refl) (swap a g ∙ r)
  where
    swap : (a g : Bool) → a || g ≡ g || a
    swap true true = refl
    swap true false = refl
    swap false true = refl
    swap false false = refl
combined false false a g m s t p q r = refl

-- the list means the function, under the literals chosen so far
pub solved-means : (u n : ℕ) (f : Tree) (y : Clause) → Deep n f → need n f < u → Apart f y → (c : ℕ) → dnf n (solved u n f y) c ≡ all_hold n y c && look f c
unfolding solved dnf
solved-means zero n f y d h p c = absurd (omega arith)
solved-means (suc u) n f y d h p c =
    elim (bool_cases (same_tree f (konst n false))) [
      | inl e ↦ rw (e, same_equal f (konst n false) e, konst-look n false c) (elim (all_hold n y c) as (λ v. false ≡ v && false) [ true ↦ refl | false ↦ refl ])
      | inr e ↦ elim (bool_cases (same_tree f (konst n true))) [
        | inl e' ↦ rw (e, e', same_equal f (konst n true) e', konst-look n true c) (elim (all_hold n y c) as (λ v. v || false ≡ v && true) [ true ↦ refl | false ↦ refl ])
        | inr e' ↦
            let s : Step n f = step n f d e e' in
            let x : ℕ = mark_of n f in
            let g : Tree = rest_of n f in
            rw (
              e,
              e',
              solved-core u n f y s.core.deep,
              dnf-append n (solved u n (core_of n f) y) _ c,
              dnf-append n (solved u n (cofactor x true g) (set_cell y x true)) _ c,
              solved-means u n (core_of n f) y s.core.deep (omega (arith, core-less n f s)) (apart-core n f y s p) c,
              solved-means u n (cofactor x true g) (set_cell y x true) (cofactor-deep n x true g s.rest.deep) (omega (arith, side_less n f s true)) (apart_side n f y true s p) c,
              solved-means u n (cofactor x false g) (set_cell y x false) (cofactor-deep n x false g s.rest.deep) (omega (arith, side_less n f s false)) (apart_side n f y false s p) c,
              set_holds n x true c y s.mark.0 (p x s.mark.1),
              set_holds n x false c y s.mark.0 (p x s.mark.1),
            )
            (combined (bit x c) (all_hold n y c) (look (core_of n f) c) (look g c) (look f c) _ _
            (look_own x true g c) (look_own x false g c)
            (sym (pointwise-look ◌||◌ n g (core_of n f) s.rest.deep s.core.deep c) ∙ ap (λ t. look t c) s.rest.joins))
      ]
    ]

-- before trimming
pub solved-list : (n : ℕ) (f : Tree) → Deep n f → (c : ℕ) → dnf n (solved (n + 1) n f empty_clause) c ≡ look f c
solved-list n f d c =
    solved-means (n + 1) n f empty_clause d (omega (arith, need-le n f)) (λ i e. unfold empty_clause in bit-zero i) c
    ∙ ap (λ v. v && look f c) (empty_holds n c)
