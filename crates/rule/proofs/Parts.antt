-- The core, the remainder and the mark of one step.
use mathlib.Core.Path.{◌≡◌, refl, sym, ap, ap₂, ◌∙◌}
use mathlib.Core.Logic.{◌≢◌}
use mathlib.Core.Bool.{Bool, true, false, cond, not, ◌||◌, ◌&&◌}
use mathlib.Core.List.{List, [], ◌∷◌}
use Prim.Native.Nat.{ℕ, zero, suc, ◌≤◌, ◌<◌}
use native.Mathlib.Omega.{arith}
use native.Mathlib.Decide.{dec_lt}
use lib.Dec.{ltb}
use borrow.Author.Tests.{lt-ltb}
use Rattle.theory.specs.Mask.{bit, set_bit}
use Rattle.theory.specs.Tree.{Tree, leaf, fork, Deep, look, konst, pointwise, cofactor, exists_mark, for_all_mark, Free, same_tree, case_count, and_not}
use Rattle.theory.proofs.Cases.{look_ext, pointwise-deep, pointwise-look, konst-deep, konst-look}
use Rattle.theory.proofs.Reach.{for_all-look}
use Rattle.theory.proofs.Support.{same_equal, same_refl}
use Rattle.theory.proofs.Truths.{clash, and_true}
use Rattle.rule.specs.Rule.{support_marks, more_cases, larger, most_cases, core_of, has_core, remainder, dropped, drop_marks, rest_of, fewer_nodes, smaller, fewest_nodes, chosen, mark_of}
use Rattle.rule.proofs.Holding.{either}
use Rattle.rule.proofs.Setting.{set_own, free_pointwise, free_konst, free_own, free_set, folded-deep, folded_own, folded_free}
use Rattle.rule.proofs.Needs.{All, Dep, support-all, support-some, need, need-lt}

-- ---- the core
pub record Core (n : ℕ) (f core : Tree) : Type 0 where
  pub deep : Deep n core
  pub frees : (i : ℕ) → Free i f → Free i core
  pub under : (c : ℕ) → look core c ≡ true → look f c ≡ true
  pub less : need n core < need n f

core-konst : (n : ℕ) (f : Tree) (x : ℕ) → Dep n f x → Core n f (konst n false)
core-konst n f x d = record {
  deep = konst-deep n false;
  frees = λ i a. free_konst i n false;
  under = λ c e. absurd (clash e (konst-look n false c));
  less = need-lt n f (konst n false) (λ i a. free_konst i n false) x d (free_konst x n false);
}

core_all : (n : ℕ) (f : Tree) → Deep n f → (x : ℕ) → Dep n f x → Core n f (for_all_mark x f)
core_all n f df x d = record {
  deep = folded-deep ◌&&◌ n x f df;
  frees = λ i. folded_free ◌&&◌ n i x f df;
  under = λ c e. pick c (bit x c) refl (and_true _ _ (sym (for_all-look n x f df c) ∙ e));
  less = need-lt n f (for_all_mark x f) (λ i. folded_free ◌&&◌ n i x f df) x d (folded_own ◌&&◌ n x f df);
}
  where
    pick : (c : ℕ) (b : Bool) → bit x c ≡ b → (look f (set_bit x false c) ≡ true) × (look f (set_bit x true c) ≡ true) → look f c ≡ true
    pick c true e h = ap (look f) (sym (set_own x true c e)) ∙ h.1
    pick c false e h = ap (look f) (sym (set_own x false c e)) ∙ h.0

larger-core : (n : ℕ) (f a b : Tree) → Core n f a → Core n f b → Core n f (larger a b)
unfolding larger
larger-core n f a b h k = either (Core n f) (more_cases b a) b a k h

most_core : (n : ℕ) (f : Tree) → Deep n f → (xs : List ℕ) (b : Tree) → All (Dep n f) xs → Core n f b → Core n f (most_cases f xs b)
unfolding most_cases All
most_core n f df [] b a h = h
most_core n f df (x ∷ xs) b a h = most_core n f df xs _ a.1 (larger-core n f b _ h (core_all n f df x a.0))

count-zero : (n : ℕ) (t : Tree) → Deep n t → case_count t ≡ 0 → t ≡ konst n false
unfolding case_count konst
count-zero zero (leaf true) d e = absurd (let z : ⊥ = omega arith in z)
count-zero zero (leaf false) d e = refl
count-zero zero (fork lo hi) d e = absurd d
count-zero (suc n) (leaf b) d e = absurd d
count-zero (suc n) (fork lo hi) d e = ap₂ fork (count-zero n lo d.0 (omega arith)) (count-zero n hi d.1 (omega arith))

ltb_false : (a b : ℕ) → ltb a b ≡ false → b ≤ a
ltb_false a b e = elim (dec_lt a b) [ yes h ↦ absurd (clash (lt-ltb a b h) e) | no h ↦ omega arith ]

-- without a core, the core is false
pub core-none : (n : ℕ) (f : Tree) → Deep n (core_of n f) → has_core n f ≡ false → core_of n f ≡ konst n false
unfolding has_core
core-none n f d e = count-zero n (core_of n f) d (omega (arith, ltb_false 0 (case_count (core_of n f)) e))

-- ---- what is left beside the core
pub record Rest (n : ℕ) (f core g : Tree) : Type 0 where
  pub deep : Deep n g
  pub frees : (i : ℕ) → Free i f → Free i g
  pub joins : pointwise ◌||◌ g core ≡ f

rest_start : (n : ℕ) (f core : Tree) → Deep n f → Core n f core → Rest n f core (pointwise and_not f core)
rest_start n f core df h = record {
  deep = dg;
  frees = λ i a. free_pointwise i and_not n f core df h.deep a (h.frees i a);
  joins = look_ext n _ f (pointwise-deep ◌||◌ n _ core dg h.deep) df
      (λ c k. pointwise-look ◌||◌ n (pointwise and_not f core) core dg h.deep c ∙ ap (λ v. v || look core c) (pointwise-look and_not n f core df h.deep c) ∙ both (look f c) (look core c) (h.under c));
}
  where
    dg : Deep n (pointwise and_not f core)
    dg = pointwise-deep and_not n f core df h.deep

    both : (a b : Bool) → (b ≡ true → a ≡ true) → (a && not b) || b ≡ a
    both true true i = refl
    both true false i = refl
    both false true i = sym (i refl)
    both false false i = refl

pub rest-start_of : (n : ℕ) (f : Tree) → Deep n f → Core n f (core_of n f) → Rest n f (core_of n f) (remainder n f)
unfolding remainder
rest-start_of n f d h = rest_start n f (core_of n f) d h

pub rest-dropped : (n : ℕ) (f core : Tree) (x : ℕ) (r : Tree) → Rest n f core r → Rest n f core (dropped f core x r)
unfolding dropped
rest-dropped n f core x r h =
    (elim (same_tree (pointwise ◌||◌ (exists_mark x r) core) f) as (λ v. same_tree (pointwise ◌||◌ (exists_mark x r) core) f ≡ v → Rest n f core (cond v (exists_mark x r) r)) [
      | true ↦ λ e. record {
        deep = folded-deep ◌||◌ n x r h.deep;
        frees = λ i a. folded_free ◌||◌ n i x r h.deep (h.frees i a);
        joins = same_equal _ _ e;
      }
      | false ↦ λ e. h
    ]) refl

rest-drop : (n : ℕ) (f core : Tree) (xs : List ℕ) (r : Tree) → Rest n f core r → Rest n f core (drop_marks f core xs r)
unfolding drop_marks
rest-drop n f core [] r h = h
rest-drop n f core (x ∷ xs) r h = rest-drop n f core xs _ (rest-dropped n f core x r h)

or-konst : (n : ℕ) (f : Tree) → Deep n f → pointwise ◌||◌ f (konst n false) ≡ f
or-konst n f d =
    look_ext n _ f (pointwise-deep ◌||◌ n f _ d (konst-deep n false)) d
    (λ c k. pointwise-look ◌||◌ n f (konst n false) d (konst-deep n false) c ∙ ap (λ v. look f c || v) (konst-look n false c) ∙ or-none (look f c))
  where
    or-none : (v : Bool) → v || false ≡ v
    or-none true = refl
    or-none false = refl

-- ---- the mark
fewest_one : (P : ℕ → Type 0) (n : ℕ) (g : Tree) (xs : List ℕ) (b : ℕ) → All P xs → P b → P (fewest_nodes n g xs b)
unfolding fewest_nodes smaller All
fewest_one P n g [] b a h = h
fewest_one P n g (x ∷ xs) b a h = fewest_one P n g xs (smaller n g b x) a.1 (either P (fewer_nodes n g x b) x b a.0 h)

pub chosen-one : (P : ℕ → Type 0) (n : ℕ) (g : Tree) (xs : List ℕ) → All P xs → xs ≢ [] → P (chosen n g xs)
unfolding chosen All
chosen-one P n g [] a h = absurd (h refl)
chosen-one P n g (x ∷ xs) a h = fewest_one P n g xs x a.1 a.0

-- ---- one step of the rule, at a function that is no constant
pub record Step (n : ℕ) (f : Tree) : Type 0 where
  pub core : Core n f (core_of n f)
  pub rest : Rest n f (core_of n f) (rest_of n f)
  pub mark : Dep n f (mark_of n f)

pub no-konst : (n : ℕ) (f : Tree) (b : Bool) → same_tree f (konst n b) ≡ false → f ≢ konst n b
no-konst n f b h e = clash (ap (λ t. same_tree t (konst n b)) e ∙ same_refl (konst n b)) h

first_dep : (P : ℕ → Type 0) (xs : List ℕ) → All P xs → xs ≢ [] → (x : ℕ) × P x
unfolding All
first_dep P [] a h = absurd (h refl)
first_dep P (x ∷ xs) a h = (x, a.0)

pub step : (n : ℕ) (f : Tree) → Deep n f → same_tree f (konst n false) ≡ false → same_tree f (konst n true) ≡ false → Step n f
unfolding core_of rest_of mark_of remainder
step n f d a b =
    let s : All (Dep n f) (support_marks n f) = support-all n f in
    let full : support_marks n f ≢ [] = support-some n f d (no-konst n f false a) (no-konst n f true b) in
    let core : Core n f (core_of n f) = most_core n f d (support_marks n f) (konst n false) s (none (first_dep (Dep n f) (support_marks n f) s full)) in
    record { core = core; rest = left core (has_core n f) refl; mark = chosen-one (Dep n f) n _ _ s full }
  where
    none : (x : ℕ) × Dep n f x → Core n f (konst n false)
    none (x, e) = core-konst n f x e

    left : Core n f (core_of n f) → (v : Bool) → has_core n f ≡ v
        → Rest n f (core_of n f) (cond v (drop_marks f (core_of n f) (support_marks n (core_of n f)) (pointwise and_not f (core_of n f))) f)
    left core true e = rest-drop n f _ _ _ (rest_start n f _ d core)
    left core false e = record { deep = d; frees = λ i h. h; joins = ap (pointwise ◌||◌ f) (core-none n f core.deep e) ∙ or-konst n f d }

-- the next functions depend on fewer marks
pub core-less : (n : ℕ) (f : Tree) → Step n f → need n (core_of n f) < need n f
core-less n f s = s.core.less

pub side_less : (n : ℕ) (f : Tree) → Step n f → (b : Bool) → need n (cofactor (mark_of n f) b (rest_of n f)) < need n f
side_less n f s b = need-lt n f (cofactor (mark_of n f) b (rest_of n f)) (λ i a. free_set i (mark_of n f) b (rest_of n f) (s.rest.frees i a)) (mark_of n f) s.mark (free_own (mark_of n f) b (rest_of n f))
