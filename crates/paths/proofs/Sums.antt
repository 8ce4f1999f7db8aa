-- Sums over all cases: what the clauses of a list cover, added up.
use mathlib.Core.Path.{◌≡◌, refl, sym, ap, ap₂, ◌∙◌}
use mathlib.Core.Bool.{Bool, true, false, cond, not, ◌&&◌, ◌||◌, beq}
use mathlib.Core.List.{List, [], ◌∷◌}
use Prim.Native.Nat.{ℕ, zero, suc, ◌+◌, ◌*◌, ◌-◌, ◌/◌, ◌%◌, ◌^◌}
use native.Mathlib.Omega.{arith}
use lib.ListN.{length}
use borrow.Author.Tests.{eqb-true, eqb-false}
use Rattle.theory.specs.Mask.{odd}
use Rattle.theory.specs.Tree.{Tree, leaf, fork, Deep, look, case_count}
use Rattle.theory.specs.Table.{Table, meaning, Ordered}
use Rattle.theory.specs.Clause.{Clause, marks_of}
use Rattle.theory.proofs.Cases.{odd_even, odd-odd, half-even, half-odd, look-even, look-odd}
use Rattle.theory.proofs.Marks.{number-low, marks-le}
use Rattle.theory.proofs.Small.{meaning-deep}
use Rattle.cube.specs.Cube.{all_are}
use Rattle.paths.specs.Paths.{path_list, decides, covered}
use Rattle.paths.proofs.Once.{list-once}

-- a number for each case of k marks, added up
unfoldable pub total : ℕ → (ℕ → ℕ) → ℕ
total zero f = f 0
total (suc k) f = total k (λ c. f (2 * c)) + total k (λ c. f (2 * c + 1))

total-same : (k : ℕ) (f g : ℕ → ℕ) → ((c : ℕ) → f c ≡ g c) → total k f ≡ total k g
unfolding total
total-same zero f g e = e 0
total-same (suc k) f g e = ap₂ ◌+◌ (total-same k _ _ (λ c. e (2 * c))) (total-same k _ _ (λ c. e (2 * c + 1)))

total-add : (k : ℕ) (f g : ℕ → ℕ) → total k (λ c. f c + g c) ≡ total k f + total k g
unfolding total
total-add zero f g = refl
total-add (suc k) f g = omega (arith, total-add k (λ c. f (2 * c)) (λ c. g (2 * c)), total-add k (λ c. f (2 * c + 1)) (λ c. g (2 * c + 1)))

total-zero : (k : ℕ) → total k (λ c. 0) ≡ 0
unfolding total
total-zero zero = refl
total-zero (suc k) = omega (arith, total-zero k)

total-one : (k : ℕ) → total k (λ c. 1) ≡ 2 ^ k
unfolding total
total-one zero = refl
total-one (suc k) = omega (arith, total-one k)

-- ---- a clause with k fixed marks decides 2^(n - k) cases

-- the literal at the first mark, for the case's bit x
abbrev front : Bool → ℕ → ℕ → Bool → Bool
front b f v x = not (odd f) || beq (beq (odd v) x) b

are_even : (b : Bool) (n f v c : ℕ) → all_are b (suc n) f v (2 * c) ≡ front b f v false && all_are b n (f / 2) (v / 2) c
unfolding all_are
are_even b n f v c = rw (odd_even c, half-even c)

are_odd : (b : Bool) (n f v c : ℕ) → all_are b (suc n) f v (2 * c + 1) ≡ front b f v true && all_are b n (f / 2) (v / 2) c
unfolding all_are
are_odd b n f v c = rw (odd-odd c, half-odd c)

kept : (n : ℕ) (t : Bool) (p : ℕ → Bool) → total n (λ c. cond (t && p c) 1 0) ≡ cond t (total n (λ c. cond (p c) 1 0)) 0
kept n true p = refl
kept n false p = total-zero n

-- the first mark's share: both sides where it is unset, one side where it is set
halves : (b f v : Bool) (k : ℕ) → cond (not f || beq (beq v false) b) k 0 + cond (not f || beq (beq v true) b) k 0 ≡ cond f k (2 * k)
halves b false v k = omega arith
halves true true true k = omega arith
halves true true false k = omega arith
halves false true true k = omega arith
halves false true false k = omega arith

decided-cases : (b : Bool) (n f v : ℕ) → total n (λ c. cond (all_are b n f v c) 1 0) ≡ 2 ^ (n - length (marks_of n f))
unfolding total
decided-cases b zero f v = unfold all_are marks_of in refl
decided-cases b (suc n) f v =
    ap₂ ◌+◌
    (total-same n _ (λ c. cond (front b f v false && all_are b n (f / 2) (v / 2) c) 1 0) (λ c. ap (λ t. cond t 1 0) (are_even b n f v c)) ∙ kept n (front b f v false) (all_are b n (f / 2) (v / 2)))
    (total-same n _ (λ c. cond (front b f v true && all_are b n (f / 2) (v / 2) c) 1 0) (λ c. ap (λ t. cond t 1 0) (are_odd b n f v c)) ∙ kept n (front b f v true) (all_are b n (f / 2) (v / 2)))
    ∙ halves b (odd f) (odd v) (total n (λ c. cond (all_are b n (f / 2) (v / 2) c) 1 0))
    ∙ ap (λ k. cond (odd f) k (2 * k)) (decided-cases b n (f / 2) (v / 2))
    ∙ marked (odd f) refl
  where
    marked : (t : Bool) → odd f ≡ t → cond t (2 ^ (n - length (marks_of n (f / 2)))) (2 * 2 ^ (n - length (marks_of n (f / 2)))) ≡ 2 ^ (suc n - length (marks_of (suc n) f))
    marked true e = ap (λ k. 2 ^ k) (omega (arith, number-low n f, eqb-true (f % 2) 1 e))
    marked false e =
        let k : suc n - length (marks_of (suc n) f) ≡ suc (n - length (marks_of n (f / 2))) = omega (arith, number-low n f, eqb-false (f % 2) 1 e, marks-le n (f / 2)) in
        rw k (omega arith)

-- so a list covers as many cases as its clauses decide, added up
pub covered-total : (b : Bool) (n : ℕ) (xs : List Clause) → covered n xs ≡ total n (decides b n xs)
unfolding covered decides
covered-total b n [] = sym (total-zero n)
covered-total b n (x ∷ xs) =
    ap₂ ◌+◌ (sym (decided-cases b n x.fixed x.values)) (covered-total b n xs)
    ∙ sym (total-add n (λ c. cond (all_are b n x.fixed x.values c) 1 0) (decides b n xs))

-- ---- the path lists

look-total : (n : ℕ) (t : Tree) → Deep n t → total n (λ c. cond (beq (look t c) true) 1 0) ≡ case_count t
unfolding total case_count
look-total zero (leaf true) d = unfold look in refl
look-total zero (leaf false) d = unfold look in refl
look-total zero (fork lo hi) d = absurd d
look-total (suc n) (leaf b) d = absurd d
look-total (suc n) (fork lo hi) d =
    ap₂ ◌+◌
    (total-same n _ _ (λ c. ap (λ x. cond (beq x true) 1 0) (look-even lo hi c)) ∙ look-total n lo d.0)
    (total-same n _ _ (λ c. ap (λ x. cond (beq x true) 1 0) (look-odd lo hi c)) ∙ look-total n hi d.1)

list-total : (b : Bool) (n : ℕ) (s : Table) → Ordered n s → covered n (path_list b n s) ≡ total n (λ c. cond (beq (look (meaning n s) c) b) 1 0)
list-total b n s o = covered-total b n (path_list b n s) ∙ total-same n _ _ (list-once b n s o)

-- 2^(n - k) summed over the DNF is the case count
pub dnf_sum : (n : ℕ) (s : Table) → Ordered n s → covered n (path_list true n s) ≡ case_count (meaning n s)
dnf_sum n s o = list-total true n s o ∙ look-total n (meaning n s) (meaning-deep n s)

-- over DNF and CNF together it is 2^n
pub both_sum : (n : ℕ) (s : Table) → Ordered n s → covered n (path_list true n s) + covered n (path_list false n s) ≡ 2 ^ n
both_sum n s o =
    ap₂ ◌+◌ (list-total true n s o) (list-total false n s o)
    ∙ sym (total-add n (λ c. cond (beq (look (meaning n s) c) true) 1 0) (λ c. cond (beq (look (meaning n s) c) false) 1 0))
    ∙ total-same n _ (λ c. 1) (λ c. one (look (meaning n s) c))
    ∙ total-one n
  where
    one : (x : Bool) → cond (beq x true) 1 0 + cond (beq x false) 1 0 ≡ 1
    one true = refl
    one false = refl
