-- The rule's tests as inclusions, and the trimming: the short list says yes exactly where the function does.
use mathlib.Core.Path.{◌≡◌, refl, sym, ap, ◌∙◌}
use mathlib.Core.Logic.{◌⊎◌, inl, inr, ◌↔◌}
use mathlib.Core.Bool.{Bool, true, false, cond, not, ◌||◌}
use mathlib.Core.List.{List, [], ◌∷◌, map}
use Prim.Native.Nat.{ℕ, zero, suc, ◌+◌, ◌*◌, ◌/◌}
use Rattle.theory.specs.Mask.{odd, bit, set_bit}
use Rattle.theory.specs.Tree.{Tree, leaf, fork, Deep, look, pointwise, exists_mark, same_tree}
use Rattle.theory.specs.Clause.{Clause, empty_clause}
use Rattle.theory.proofs.Cases.{pointwise-deep, pointwise-look, cofactor-deep, cofactor-look, look_ext, look-even, look-odd}
use Rattle.theory.proofs.Reach.{exists_look}
use Rattle.theory.proofs.Support.{same_equal, same_refl}
use Rattle.theory.proofs.Truths.{clash, bool_cases, bool_iff, and_true, and_intro, or_left, or_right, or_cases}
use Rattle.cube.specs.Cube.{dnf}
use Rattle.rule.specs.Rule.{support_marks, dropped, inside, spare, cleared, trimmed_by, trimmed, solved, short_list}
use Rattle.rule.proofs.Holding.{cleared_more, cleared-less, dnf-more, dnf-less}
use Rattle.rule.proofs.Setting.{set_own, folded-deep}
use Rattle.rule.proofs.Parts.{Core, Rest}
use Rattle.rule.proofs.Means.{solved-list}

-- ---- inside: wherever the one says yes, the other does
pub inside-look : (k : ℕ) (t u : Tree) → Deep k t → Deep k u → inside t u ≡ true → (c : ℕ) → look t c ≡ true → look u c ≡ true
unfolding inside look
inside-look zero (leaf a) (leaf b) d d' e c h = imp a b e h
  where
    imp : (a b : Bool) → not a || b ≡ true → a ≡ true → b ≡ true
    imp true b e h = e
    imp false b e h = absurd (clash h refl)
inside-look zero (leaf a) (fork lo hi) d d' e c h = absurd d'
inside-look zero (fork lo hi) u d d' e c h = absurd d
inside-look (suc k) (leaf a) u d d' e c h = absurd d
inside-look (suc k) (fork lo hi) (leaf b) d d' e c h = absurd d'
inside-look (suc k) (fork lo hi) (fork lo' hi') d d' e c h =
    let p : (inside lo lo' ≡ true) × (inside hi hi' ≡ true) = and_true _ _ e in
    side (odd c) (inside-look k lo lo' d.0 d'.0 p.0 (c / 2)) (inside-look k hi hi' d.1 d'.1 p.1 (c / 2)) h
  where
    side : (v : Bool) → (look lo (c / 2) ≡ true → look lo' (c / 2) ≡ true) → (look hi (c / 2) ≡ true → look hi' (c / 2) ≡ true)
        → cond v (look hi (c / 2)) (look lo (c / 2)) ≡ true → cond v (look hi' (c / 2)) (look lo' (c / 2)) ≡ true
    side true f g h = g h
    side false f g h = f h

pub look-inside : (k : ℕ) (t u : Tree) → Deep k t → Deep k u → ((c : ℕ) → look t c ≡ true → look u c ≡ true) → inside t u ≡ true
unfolding inside look
look-inside zero (leaf a) (leaf b) d d' h = imp a b (h 0)
  where
    imp : (a b : Bool) → (a ≡ true → b ≡ true) → not a || b ≡ true
    imp true b h = h refl
    imp false b h = refl
look-inside zero (leaf a) (fork lo hi) d d' h = absurd d'
look-inside zero (fork lo hi) u d d' h = absurd d
look-inside (suc k) (leaf a) u d d' h = absurd d
look-inside (suc k) (fork lo hi) (leaf b) d d' h = absurd d'
look-inside (suc k) (fork lo hi) (fork lo' hi') d d' h =
    and_intro _ _
    (look-inside k lo lo' d.0 d'.0 (λ c e. sym (look-even lo' hi' c) ∙ h (2 * c) (look-even lo hi c ∙ e)))
    (look-inside k hi hi' d.1 d'.1 (λ c e. sym (look-odd lo' hi' c) ∙ h (2 * c + 1) (look-odd lo hi c ∙ e)))

-- positive (b = false) or negative (b = true) in a mark, case by case
pub spare-is : (n : ℕ) (f : Tree) → Deep n f → (x : ℕ) (b : Bool) → (spare f x b ≡ true) ↔ ((c : ℕ) → look f (set_bit x b c) ≡ true → look f (set_bit x (not b) c) ≡ true)
spare-is n f d x b = (
  (λ e c h. sym (cofactor-look x (not b) f c) ∙ inside-look n _ _ (cofactor-deep n x b f d) (cofactor-deep n x (not b) f d) e c (cofactor-look x b f c ∙ h)),
  (λ h. look-inside n _ _ (cofactor-deep n x b f d) (cofactor-deep n x (not b) f d) (λ c e. cofactor-look x (not b) f c ∙ h c (sym (cofactor-look x b f c) ∙ e))),
)

-- the case itself is one of the two
own_side : (f : Tree) (x : ℕ) (b : Bool) (c : ℕ) → (look f (set_bit x b c) ≡ true → look f (set_bit x (not b) c) ≡ true) → look f (set_bit x b c) ≡ true → look f c ≡ true
own_side f x true c h e = elim (bool_cases (bit x c)) [
  | inl b ↦ ap (look f) (sym (set_own x true c b)) ∙ e
  | inr b ↦ ap (look f) (sym (set_own x false c b)) ∙ h e
]
own_side f x false c h e = elim (bool_cases (bit x c)) [
  | inl b ↦ ap (look f) (sym (set_own x true c b)) ∙ h e
  | inr b ↦ ap (look f) (sym (set_own x false c b)) ∙ e
]

-- ---- trimming
-- a list that means the function
abbrev pub Means : ℕ → Tree → List Clause → Type 0
Means n f ys = (c : ℕ) → dnf n ys c ≡ look f c

clear-means : (n : ℕ) (f : Tree) → Deep n f → (x : ℕ) (b : Bool) → spare f x b ≡ true → (ys : List Clause) → Means n f ys → Means n f (map (cleared x b) ys)
clear-means n f d x b e ys h c =
    bool_iff _ _
    (λ z. elim (dnf-less n c (set_bit x b c) (cleared x b) (cleared-less n x b c) ys z) [
      | inl a ↦ sym (h c) ∙ a
      | inr a ↦ own_side f x b c ((spare-is n f d x b).0 e c) (sym (h (set_bit x b c)) ∙ a)
    ])
    (λ z. dnf-more n c (cleared x b) (cleared_more n x b c) ys (h c ∙ z))

trim_one : (n : ℕ) (f : Tree) → Deep n f → (x : ℕ) (ys : List Clause) → Means n f ys → Means n f (trimmed_by f x ys)
unfolding trimmed_by
trim_one n f d x ys h = elim (bool_cases (spare f x false)) [
  | inl e ↦ rw e (clear-means n f d x false e ys h)
  | inr e ↦ elim (bool_cases (spare f x true)) [
    | inl e' ↦ rw (e, e') (clear-means n f d x true e' ys h)
    | inr e' ↦ rw (e, e') h
  ]
]

pub trim_means : (n : ℕ) (f : Tree) → Deep n f → (xs : List ℕ) (ys : List Clause) → Means n f ys → Means n f (trimmed f xs ys)
unfolding trimmed
trim_means n f d [] ys h = h
trim_means n f d (x ∷ xs) ys h = trim_means n f d xs (trimmed_by f x ys) (trim_one n f d x ys h)

-- the short list says yes exactly where the function does
pub short-means : (n : ℕ) (f : Tree) → Deep n f → (c : ℕ) → dnf n (short_list n f) c ≡ look f c
unfolding short_list
short-means n f d = trim_means n f d (support_marks n f) (solved (n + 1) n f empty_clause) (solved-list n f d)

-- ---- the test of step 2
-- e ∨ core = f exactly if e is inside f: core is inside f, and e holds at least the remainder, which with the core is f
pub accept : (n : ℕ) (f core r : Tree) (x : ℕ) → Deep n f → Core n f core → Rest n f core r → same_tree (pointwise ◌||◌ (exists_mark x r) core) f ≡ inside (exists_mark x r) f
accept n f core r x d k h =
    bool_iff _ _
    (λ e. look-inside n _ f de d (λ c a. ap (λ t. look t c) (sym (same_equal _ f e)) ∙ both c ∙ or_left _ _ a))
    (λ e. rw (equal e) (same_refl f))
  where
    de : Deep n (exists_mark x r)
    de = folded-deep ◌||◌ n x r h.deep

    both : (c : ℕ) → look (pointwise ◌||◌ (exists_mark x r) core) c ≡ look (exists_mark x r) c || look core c
    both c = pointwise-look ◌||◌ n (exists_mark x r) core de k.deep c

    -- a case of the remainder is one of e
    more : (c : ℕ) → look r c ≡ true → look (exists_mark x r) c ≡ true
    more c a = exists_look n x r h.deep c ∙ pick (bool_cases (bit x c))
      where
        pick : (bit x c ≡ true) ⊎ (bit x c ≡ false) → look r (set_bit x false c) || look r (set_bit x true c) ≡ true
        pick (inl b) = or_right (look r (set_bit x false c)) _ (ap (look r) (set_own x true c b) ∙ a)
        pick (inr b) = or_left _ _ (ap (look r) (set_own x false c b) ∙ a)

    whole : (c : ℕ) → look f c ≡ look r c || look core c
    whole c = ap (λ t. look t c) (sym h.joins) ∙ pointwise-look ◌||◌ n r core h.deep k.deep c

    equal : inside (exists_mark x r) f ≡ true → pointwise ◌||◌ (exists_mark x r) core ≡ f
    equal e = look_ext n _ f (pointwise-deep ◌||◌ n _ core de k.deep) d (λ c i. both c ∙ bool_iff _ _
        (λ a. elim (or_cases (look (exists_mark x r) c) (look core c) a) [ inl b ↦ inside-look n _ f de d e c b | inr b ↦ k.under c b ])
        (λ a. elim (or_cases (look r c) (look core c) (sym (whole c) ∙ a)) [ inl b ↦ or_left _ _ (more c b) | inr b ↦ or_right (look (exists_mark x r) c) _ b ]))

pub dropped-inside : (n : ℕ) (f core r : Tree) (x : ℕ) → Deep n f → Core n f core → Rest n f core r → dropped f core x r ≡ cond (inside (exists_mark x r) f) (exists_mark x r) r
unfolding dropped
dropped-inside n f core r x d k h = ap (λ v. cond v (exists_mark x r) r) (accept n f core r x d k h)
