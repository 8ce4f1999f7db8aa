-- The cases in which a clause or a list of clauses holds.
use mathlib.Core.Path.{◌≡◌, refl, sym, ap, ◌∙◌}
use mathlib.Core.Logic.{◌⊎◌, inl, inr}
use mathlib.Core.Bool.{Bool, true, false, cond, not, ◌||◌, ◌&&◌, beq}
use mathlib.Core.List.{List, [], ◌∷◌, ◌++◌, map}
use Prim.Native.Nat.{ℕ, zero, suc, ◌<◌}
use native.Mathlib.Omega.{arith}
use native.Mathlib.Decide.{ℕ_discrete}
use borrow.Author.Tests.{eq-eqb, ne_eqb}
use Rattle.theory.specs.Mask.{bit, set_bit}
use Rattle.theory.specs.Clause.{Clause, empty_clause, set_cell, unset_cell}
use Rattle.theory.proofs.Masks.{bit-zero, bit-set_bit}
use Rattle.theory.proofs.Truths.{clash, bool_cases, bool_iff, and_true, and_intro, or_left, or_right, or_cases, or_assoc, beq_true, beq_refl}
use Rattle.cube.specs.Cube.{every_mark, all_hold, dnf}
use Rattle.rule.specs.Rule.{cleared}

-- whichever is taken
pub either : {A : Type 0} (P : A → Type 0) (v : Bool) (a b : A) → P a → P b → P (cond v a b)
either P true a b h k = h
either P false a b h k = k

-- ---- a clause holds exactly where each of its literals does
every_at : (n : ℕ) (p : ℕ → Bool) → every_mark n p ≡ true → (i : ℕ) → i < n → p i ≡ true
unfolding every_mark
every_at zero p e i h = absurd (let z : ⊥ = omega arith in z)
every_at (suc n) p e zero h = (and_true (p 0) _ e).0
every_at (suc n) p e (suc i) h = every_at n (λ i. p (suc i)) (and_true (p 0) _ e).1 i (omega arith)

at_every : (n : ℕ) (p : ℕ → Bool) → ((i : ℕ) → i < n → p i ≡ true) → every_mark n p ≡ true
unfolding every_mark
at_every zero p h = refl
at_every (suc n) p h = and_intro _ _ (h 0 (omega arith)) (at_every n (λ i. p (suc i)) (λ i k. h (suc i) (omega arith)))

-- the literal at mark i, if there is one, holds
abbrev pub Literal : Clause → ℕ → ℕ → Type 0
Literal y c i = bit i y.fixed ≡ true → bit i y.values ≡ bit i c

pub hold_at : (n : ℕ) (y : Clause) (c : ℕ) → all_hold n y c ≡ true → (i : ℕ) → i < n → Literal y c i
unfolding all_hold
hold_at n y c e i h f = beq_true _ _ (sym (ap (λ v. not v || beq (bit i y.values) (bit i c)) f) ∙ every_at n _ e i h)

pub at_hold : (n : ℕ) (y : Clause) (c : ℕ) → ((i : ℕ) → i < n → Literal y c i) → all_hold n y c ≡ true
unfolding all_hold
at_hold n y c h = at_every n _ (λ i k. one i (h i k) (bool_cases (bit i y.fixed)))
  where
    one : (i : ℕ) → Literal y c i → (bit i y.fixed ≡ true) ⊎ (bit i y.fixed ≡ false) → not (bit i y.fixed) || beq (bit i y.values) (bit i c) ≡ true
    one i l (inl f) = or_right (not (bit i y.fixed)) _ (ap (beq (bit i y.values)) (sym (l f)) ∙ beq_refl (bit i y.values))
    one i l (inr f) = rw f

pub empty_holds : (n c : ℕ) → all_hold n empty_clause c ≡ true
empty_holds n c = at_hold n empty_clause c (λ i h f. absurd (clash f (unfold empty_clause in bit-zero i)))

-- a bit that is set, or another
pub bit-same : (i x : ℕ) (b : Bool) (c : ℕ) → i ≡ x → bit i (set_bit x b c) ≡ b
bit-same i x b c e = bit-set_bit i x b c ∙ rw (eq-eqb i x e)

pub bit-other : (i x : ℕ) (b : Bool) (c : ℕ) → (i ≡ x → ⊥) → bit i (set_bit x b c) ≡ bit i c
bit-other i x b c e = bit-set_bit i x b c ∙ rw (ne_eqb i x e)

-- one literal more, on a mark that is not fixed yet
pub set_holds : (n x : ℕ) (b : Bool) (c : ℕ) (y : Clause) → x < n → bit x y.fixed ≡ false → all_hold n (set_cell y x b) c ≡ beq (bit x c) b && all_hold n y c
unfolding set_cell
set_holds n x b c y hx free = bool_iff _ _ there back
  where
    there : all_hold n (set_cell y x b) c ≡ true → beq (bit x c) b && all_hold n y c ≡ true
    there e = and_intro _ _ (own (hold_at n (set_cell y x b) c e x hx (bit-same x x true y.fixed refl))) (at_hold n y c others)
      where
        own : bit x (set_bit x b y.values) ≡ bit x c → beq (bit x c) b ≡ true
        own d = ap (λ v. beq v b) (sym d ∙ bit-same x x b y.values refl) ∙ beq_refl b

        others : (i : ℕ) → i < n → Literal y c i
        others i h f = elim (ℕ_discrete i x) [
          | yes d ↦ absurd (clash f (ap (λ j. bit j y.fixed) d ∙ free))
          | no d ↦ sym (bit-other i x b y.values d) ∙ hold_at n (set_cell y x b) c e i h (bit-other i x true y.fixed d ∙ f)
        ]

    back : beq (bit x c) b && all_hold n y c ≡ true → all_hold n (set_cell y x b) c ≡ true
    back e = at_hold n (set_cell y x b) c (λ i h f. elim (ℕ_discrete i x) [
      | yes d ↦ bit-same i x b y.values d ∙ sym (beq_true _ _ (and_true (beq (bit x c) b) _ e).0) ∙ ap (λ j. bit j c) (sym d)
      | no d ↦ bit-other i x b y.values d ∙ hold_at n y c (and_true (beq (bit x c) b) _ e).1 i h (sym (bit-other i x true y.fixed d) ∙ f)
    ])

-- a literal less: the clause holds where it held
pub cleared_more : (n x : ℕ) (b : Bool) (c : ℕ) (y : Clause) → all_hold n y c ≡ true → all_hold n (cleared x b y) c ≡ true
unfolding cleared unset_cell
cleared_more n x b c y h = elim (bool_cases (bit x y.fixed && beq (bit x y.values) b)) [
  | inr e ↦ rw e h
  | inl e ↦ rw e (at_hold n (unset_cell y x) c at)
]
  where
    at : (i : ℕ) → i < n → Literal (unset_cell y x) c i
    at i k f = elim (ℕ_discrete i x) [
      | yes d ↦ absurd (clash f (bit-same i x false y.fixed d))
      | no d ↦ bit-other i x false y.values d ∙ hold_at n y c h i k (sym (bit-other i x false y.fixed d) ∙ f)
    ]

-- and elsewhere only where it would with the mark at that value
pub cleared-less : (n x : ℕ) (b : Bool) (c : ℕ) (y : Clause) → all_hold n (cleared x b y) c ≡ true → (all_hold n y c ≡ true) ⊎ (all_hold n y (set_bit x b c) ≡ true)
unfolding cleared unset_cell
cleared-less n x b c y h = elim (bool_cases (bit x y.fixed && beq (bit x y.values) b)) [
  | inr e ↦ inl (rw e at h)
  | inl e ↦ inr (at_hold n y (set_bit x b c) (at (beq_true _ _ (and_true (bit x y.fixed) _ e).1) (rw e at h)))
]
  where
    at : bit x y.values ≡ b → all_hold n (unset_cell y x) c ≡ true → (i : ℕ) → i < n → Literal y (set_bit x b c) i
    at v g i k f = elim (ℕ_discrete i x) [
      | yes d ↦ ap (λ j. bit j y.values) d ∙ v ∙ sym (bit-same i x b c d)
      | no d ↦ sym (bit-other i x false y.values d) ∙ hold_at n (unset_cell y x) c g i k (bit-other i x false y.fixed d ∙ f) ∙ sym (bit-other i x b c d)
    ]

-- ---- lists
pub dnf-append : (n : ℕ) (xs ys : List Clause) (c : ℕ) → dnf n (xs ++ ys) c ≡ dnf n xs c || dnf n ys c
unfolding dnf
dnf-append n [] ys c = refl
dnf-append n (x ∷ xs) ys c = rw (dnf-append n xs ys c) (or_assoc (all_hold n x c) (dnf n xs c) (dnf n ys c))

pub dnf-more : (n c : ℕ) (s : Clause → Clause) → ((y : Clause) → all_hold n y c ≡ true → all_hold n (s y) c ≡ true) → (ys : List Clause) → dnf n ys c ≡ true → dnf n (map s ys) c ≡ true
unfolding dnf
dnf-more n c s h [] e = e
dnf-more n c s h (y ∷ ys) e = elim (or_cases (all_hold n y c) (dnf n ys c) e) [
  | inl a ↦ or_left _ _ (h y a)
  | inr a ↦ or_right (all_hold n (s y) c) _ (dnf-more n c s h ys a)
]

pub dnf-less : (n c d : ℕ) (s : Clause → Clause) → ((y : Clause) → all_hold n (s y) c ≡ true → (all_hold n y c ≡ true) ⊎ (all_hold n y d ≡ true))
    → (ys : List Clause) → dnf n (map s ys) c ≡ true → (dnf n ys c ≡ true) ⊎ (dnf n ys d ≡ true)
unfolding dnf
dnf-less n c d s h [] e = inl e
dnf-less n c d s h (y ∷ ys) e = elim (or_cases (all_hold n (s y) c) (dnf n (map s ys) c) e) [
  | inl a ↦ elim (h y a) [ inl b ↦ inl (or_left _ _ b) | inr b ↦ inr (or_left _ _ b) ]
  | inr a ↦ elim (dnf-less n c d s h ys a) [ inl b ↦ inl (or_right (all_hold n y c) _ b) | inr b ↦ inr (or_right (all_hold n y d) _ b) ]
]
