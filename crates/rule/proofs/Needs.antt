-- How many marks a function depends on: it falls at each step of the rule.
use mathlib.Core.Path.{◌≡◌, refl, sym, ap, ◌∙◌}
use mathlib.Core.Logic.{◌≢◌, ◌⊎◌, inl, inr, ⊎_elim}
use mathlib.Core.Bool.{Bool, true, false, cond}
use mathlib.Core.List.{List, [], ◌∷◌, ◌++◌}
use Prim.Native.Nat.{ℕ, zero, suc, ◌+◌, ◌≤◌, ◌<◌}
use native.Mathlib.Omega.{arith}
use native.Mathlib.Decide.{ℕ_discrete}
use lib.ListN.{length, length-append}
use Rattle.theory.specs.Mask.{bit}
use Rattle.theory.specs.Tree.{Tree, Deep, konst, tally, Free, depends_on, support_of}
use Rattle.theory.specs.Clause.{marks_of}
use Rattle.theory.proofs.Support.{free_of, of_free, support-bit}
use Rattle.theory.proofs.Truths.{bool_cases}
use Rattle.rule.specs.Rule.{support_marks}
use Rattle.rule.proofs.Setting.{free_all}

-- every entry of a list
unfoldable pub All : (ℕ → Type 0) → List ℕ → Type 0
All P [] = Unit {0}
All P (x ∷ xs) = P x × All P xs

all_append : (P : ℕ → Type 0) (xs ys : List ℕ) → All P xs → All P ys → All P (xs ++ ys)
unfolding All
all_append P [] ys a b = b
all_append P (x ∷ xs) ys a b = (a.0, all_append P xs ys a.1 b)

pub all_map : (P Q : ℕ → Type 0) → ((x : ℕ) → P x → Q x) → (xs : List ℕ) → All P xs → All Q xs
unfolding All
all_map P Q h [] a = tt
all_map P Q h (x ∷ xs) a = (h x a.0, all_map P Q h xs a.1)

-- a mark on which the function depends
abbrev pub Dep : ℕ → Tree → ℕ → Type 0
Dep n f x = (x < n) × (depends_on x f ≡ true)

abbrev pub InMask : ℕ → ℕ → ℕ → Type 0
InMask n s x = (x < n) × (bit x s ≡ true)

pub marks-all : (n s m : ℕ) → m ≤ n → All (InMask n s) (marks_of m s)
unfolding marks_of All
marks-all n s zero h = tt
marks-all n s (suc m) h =
    all_append (InMask n s) (marks_of m s) _ (marks-all n s m (omega arith))
    ((elim (bit m s) as (λ v. bit m s ≡ v → All (InMask n s) (cond v (m ∷ []) [])) [
      | true ↦ λ e. ((omega arith, e), tt)
      | false ↦ λ e. tt
    ]) refl)

marks_nil : (n s : ℕ) → marks_of n s ≡ [] → (i : ℕ) → i < n → bit i s ≡ false
unfolding marks_of
marks_nil zero s e i h = absurd (let z : ⊥ = omega arith in z)
marks_nil (suc n) s e i h = elim (ℕ_discrete i n) [
  | yes d ↦ rw d (last (bool_cases (bit n s)))
  | no d ↦ marks_nil n s (front (marks_of n s) _ e) i (omega arith)
]
  where
    front : (xs ys : List ℕ) → xs ++ ys ≡ [] → xs ≡ []
    front [] ys e = refl
    front (x ∷ xs) ys e = cc

    last : (bit n s ≡ true) ⊎ (bit n s ≡ false) → bit n s ≡ false
    last (inr b) = b
    last (inl b) = absurd (omega (arith, ap length (sym (ap (λ v. marks_of n s ++ cond v (n ∷ []) []) b) ∙ e), length-append (marks_of n s) (n ∷ [])))

pub support-all : (n : ℕ) (f : Tree) → All (Dep n f) (support_marks n f)
support-all n f = all_map (InMask n (support_of n f)) (Dep n f) (λ x a. (a.0, sym (support-bit n x f a.0) ∙ a.1)) (support_marks n f) (marks-all n (support_of n f) n (omega arith))

-- only a constant has none
pub support-some : (n : ℕ) (f : Tree) → Deep n f → f ≢ konst n false → f ≢ konst n true → support_marks n f ≢ []
support-some n f d a b e = ⊎_elim a b (free_all n f d (λ i h. free_of n i f (sym (support-bit n i f h) ∙ marks_nil n (support_of n f) e i h)))

-- the number of marks on which the function depends
pub need : ℕ → Tree → ℕ
need n t = tally n (λ i. depends_on i t)

tally-le : (n : ℕ) (f g : ℕ → Bool) → ((i : ℕ) → g i ≡ false → f i ≡ false) → tally n f ≤ tally n g
unfolding tally
tally-le zero f g h = omega arith
tally-le (suc n) f g h =
    (elim (g n) as (λ v. g n ≡ v → cond (f n) 1 0 + tally n f ≤ cond v 1 0 + tally n g) [
      | true ↦ λ e. elim (f n) as (λ v. cond v 1 0 + tally n f ≤ 1 + tally n g) [ true ↦ omega (arith, tally-le n f g h) | false ↦ omega (arith, tally-le n f g h) ]
      | false ↦ λ e. rw (h n e) (omega (arith, tally-le n f g h))
    ]) refl

tally-lt : (n : ℕ) (f g : ℕ → Bool) → ((i : ℕ) → g i ≡ false → f i ≡ false) → (x : ℕ) → x < n → f x ≡ false → g x ≡ true → tally n f < tally n g
unfolding tally
tally-lt zero f g h x k a b = absurd (omega arith)
tally-lt (suc n) f g h x k a b =
    elim (ℕ_discrete x n) [
      | yes e ↦ rw (← e, a, b) (omega (arith, tally-le x f g h))
      | no e ↦
          (elim (g n) as (λ v. g n ≡ v → cond (f n) 1 0 + tally n f < cond v 1 0 + tally n g) [
            | true ↦ λ z. elim (f n) as (λ v. cond v 1 0 + tally n f < 1 + tally n g) [ true ↦ omega (arith, tally-lt n f g h x (omega arith) a b) | false ↦ omega (arith, tally-lt n f g h x (omega arith) a b) ]
            | false ↦ λ z. rw (h n z) (omega (arith, tally-lt n f g h x (omega arith) a b))
          ]) refl
    ]

-- a mark less
pub need-lt : (n : ℕ) (f g : Tree) → ((i : ℕ) → Free i f → Free i g) → (x : ℕ) → Dep n f x → Free x g → need n g < need n f
unfolding need
need-lt n f g h x d a = tally-lt n (λ i. depends_on i g) (λ i. depends_on i f) (λ i e. of_free n i g (h i (free_of n i f e))) x d.0 (of_free n x g a) d.1

tally-bound : (m : ℕ) (f : ℕ → Bool) → tally m f ≤ m
unfolding tally
tally-bound zero f = omega arith
tally-bound (suc m) f = elim (f m) as (λ v. cond v 1 0 + tally m f ≤ suc m) [ true ↦ omega (arith, tally-bound m f) | false ↦ omega (arith, tally-bound m f) ]

pub need-le : (n : ℕ) (t : Tree) → need n t ≤ n
unfolding need
need-le n t = tally-bound n (λ i. depends_on i t)
