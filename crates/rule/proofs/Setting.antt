-- A function with a mark set: its cases, and the marks that it still depends on.
use mathlib.Core.Path.{◌≡◌, refl, sym, ap, ap₂, ◌∙◌}
use mathlib.Core.Logic.{◌≢◌, ◌⊎◌, inl, inr, ⊎_elim}
use mathlib.Core.Bool.{Bool, true, false}
use Prim.Native.Nat.{ℕ, zero, suc, ◌/◌, ◌%◌, ◌<◌}
use native.Mathlib.Omega.{arith}
use native.Mathlib.Decide.{ℕ_discrete}
use borrow.Author.Tests.{eqb-true, eqb-false}
use Rattle.theory.specs.Mask.{bit, set_bit}
use Rattle.theory.specs.Tree.{Tree, leaf, fork, Deep, look, konst, pointwise, cofactor, Free}
use Rattle.theory.proofs.Cases.{cofactor-deep, cofactor-look, pointwise-deep}

-- the bit that is set is what was there
pub set_own : (i : ℕ) (b : Bool) (c : ℕ) → bit i c ≡ b → set_bit i b c ≡ c
unfolding bit set_bit
set_own zero true c e = omega (arith, eqb-true (c % 2) 1 e)
set_own zero false c e = omega (arith, eqb-false (c % 2) 1 e)
set_own (suc i) b c e = omega (arith, set_own i b (c / 2) e)

pub look_own : (i : ℕ) (b : Bool) (t : Tree) (c : ℕ) → bit i c ≡ b → look (cofactor i b t) c ≡ look t c
look_own i b t c e = cofactor-look i b t c ∙ ap (look t) (set_own i b c e)

-- a mark set in two functions joined, another mark set, the same mark set
set-pointwise : (i : ℕ) (b : Bool) (f : Bool → Bool → Bool) (k : ℕ) (t u : Tree) → Deep k t → Deep k u → cofactor i b (pointwise f t u) ≡ pointwise f (cofactor i b t) (cofactor i b u)
unfolding cofactor pointwise
set-pointwise i b f zero (leaf x) (leaf y) d d' = refl
set-pointwise i b f zero (leaf x) (fork lo hi) d d' = absurd d'
set-pointwise i b f zero (fork lo hi) u d d' = absurd d
set-pointwise i b f (suc k) (leaf x) u d d' = absurd d
set-pointwise i b f (suc k) (fork lo hi) (leaf y) d d' = absurd d'
set-pointwise zero true f (suc k) (fork lo hi) (fork lo' hi') d d' = refl
set-pointwise zero false f (suc k) (fork lo hi) (fork lo' hi') d d' = refl
set-pointwise (suc i) b f (suc k) (fork lo hi) (fork lo' hi') d d' = ap₂ fork (set-pointwise i b f k lo lo' d.0 d'.0) (set-pointwise i b f k hi hi' d.1 d'.1)

set_other : (i j : ℕ) (b v : Bool) (t : Tree) → i ≢ j → cofactor i b (cofactor j v t) ≡ cofactor j v (cofactor i b t)
unfolding cofactor
set_other i j b v (leaf x) h = refl
set_other zero zero b v (fork lo hi) h = absurd (h refl)
set_other zero (suc j) true v (fork lo hi) h = refl
set_other zero (suc j) false v (fork lo hi) h = refl
set_other (suc i) zero b true (fork lo hi) h = refl
set_other (suc i) zero b false (fork lo hi) h = refl
set_other (suc i) (suc j) b v (fork lo hi) h = ap₂ fork (set_other i j b v lo (λ e. h (ap suc e))) (set_other i j b v hi (λ e. h (ap suc e)))

set_again : (i : ℕ) (b v : Bool) (t : Tree) → cofactor i b (cofactor i v t) ≡ cofactor i v t
unfolding cofactor
set_again i b v (leaf x) = refl
set_again zero true true (fork lo hi) = refl
set_again zero true false (fork lo hi) = refl
set_again zero false true (fork lo hi) = refl
set_again zero false false (fork lo hi) = refl
set_again (suc i) b v (fork lo hi) = ap₂ fork (set_again i b v lo) (set_again i b v hi)

-- what stays free
pub free_pointwise : (i : ℕ) (f : Bool → Bool → Bool) (k : ℕ) (t u : Tree) → Deep k t → Deep k u → Free i t → Free i u → Free i (pointwise f t u)
free_pointwise i f k t u d d' a b = set-pointwise i false f k t u d d' ∙ ap₂ (pointwise f) a b ∙ sym (set-pointwise i true f k t u d d')

pub free_own : (i : ℕ) (v : Bool) (t : Tree) → Free i (cofactor i v t)
free_own i v t = set_again i false v t ∙ sym (set_again i true v t)

pub free_set : (i j : ℕ) (v : Bool) (t : Tree) → Free i t → Free i (cofactor j v t)
free_set i j v t a =
    elim (ℕ_discrete i j) [
      | yes e ↦ rw e (free_own j v t)
      | no e ↦ set_other i j false v t e ∙ ap (cofactor j v) a ∙ sym (set_other i j true v t e)
    ]

pub free_konst : (i k : ℕ) (b : Bool) → Free i (konst k b)
unfolding cofactor konst
free_konst i zero b = refl
free_konst zero (suc k) b = refl
free_konst (suc i) (suc k) b = ap₂ fork (free_konst i k b) (free_konst i k b)

-- the two settings of a mark, joined
abbrev pub folded : (Bool → Bool → Bool) → ℕ → Tree → Tree
folded f x t = pointwise f (cofactor x false t) (cofactor x true t)

pub folded-deep : (f : Bool → Bool → Bool) (n x : ℕ) (t : Tree) → Deep n t → Deep n (folded f x t)
folded-deep f n x t d = pointwise-deep f n _ _ (cofactor-deep n x false t d) (cofactor-deep n x true t d)

pub folded_own : (f : Bool → Bool → Bool) (n x : ℕ) (t : Tree) → Deep n t → Free x (folded f x t)
folded_own f n x t d = free_pointwise x f n _ _ (cofactor-deep n x false t d) (cofactor-deep n x true t d) (free_own x false t) (free_own x true t)

pub folded_free : (f : Bool → Bool → Bool) (n i x : ℕ) (t : Tree) → Deep n t → Free i t → Free i (folded f x t)
folded_free f n i x t d a = free_pointwise i f n _ _ (cofactor-deep n x false t d) (cofactor-deep n x true t d) (free_set i x false t a) (free_set i x true t a)

-- a function that depends on nothing is a constant
pub free_all : (n : ℕ) (f : Tree) → Deep n f → ((i : ℕ) → i < n → Free i f) → (f ≡ konst n false) ⊎ (f ≡ konst n true)
unfolding konst cofactor
free_all zero (leaf true) d h = inr refl
free_all zero (leaf false) d h = inl refl
free_all zero (fork lo hi) d h = absurd d
free_all (suc n) (leaf b) d h = absurd d
free_all (suc n) (fork lo hi) d h =
    let e : fork lo lo ≡ fork hi hi = h 0 (omega arith) in
    let e' : lo ≡ hi = cc in
    ⊎_elim (λ a. inl (ap₂ fork a (sym e' ∙ a))) (λ a. inr (ap₂ fork a (sym e' ∙ a)))
    (free_all n lo d.0 (λ i k. low i (h (suc i) (omega arith))))
  where
    low : (i : ℕ) → fork (cofactor i false lo) (cofactor i false hi) ≡ fork (cofactor i true lo) (cofactor i true hi) → cofactor i false lo ≡ cofactor i true lo
    low i e = cc
