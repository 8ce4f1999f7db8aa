-- Levels that a node's mark skips: what node-by-node code needs of level-by-level definitions.
use mathlib.Core.Path.{◌≡◌, refl, sym, ap, ap₂, ◌∙◌}
use mathlib.Core.Bool.{Bool, true, false, cond}
use Prim.Native.Nat.{ℕ, zero, suc, ◌+◌, ◌*◌, ◌/◌, ◌-◌, ◌^◌, ◌≤◌, ◌<◌}
use native.Mathlib.Omega.{arith}
use native.Mathlib.Nat.{add-zero, zero-add, suc-add, div-one, div-div-eq-div-mul}
use lib.Pow.{pow-add}
use Rattle.theory.specs.Mask.{odd, bit}
use Rattle.theory.specs.Tree.{Tree, Deep, look, case_count, lifted}
use Rattle.theory.specs.Table.{Table, at, step, tree_of, truth, says, walk, Good}
use Rattle.theory.proofs.Masks.{bit_shift}
use Rattle.theory.proofs.Step.{step_here, step_skip}
use Rattle.theory.proofs.Again.{walk_skip}
use Rattle.theory.proofs.Cases.{says-look}

pub tree_of-lifted : (j k : ℕ) (s : Table) (l p : ℕ) → l + j ≤ (at s p).mark → tree_of (j + k) s l p ≡ lifted j (tree_of k s (l + j) p)
unfolding tree_of lifted
tree_of-lifted zero k s l p h = rw (zero-add k, add-zero l)
tree_of-lifted (suc j) k s l p h =
    let x : suc l + j ≡ l + suc j = omega arith in
    let ne : ((at s p).mark ≡ l → ⊥) = λ e. omega arith in
    rw (suc-add j k, ← x)
    (rw (step_skip s l false p ne, step_skip s l true p ne, tree_of-lifted j k s (suc l) p (omega arith)))

pub lifted-deep : (j k : ℕ) (t : Tree) → Deep k t → Deep (j + k) (lifted j t)
unfolding lifted
lifted-deep zero k t d = rw (zero-add k) d
lifted-deep (suc j) k t d = rw (suc-add j k) (lifted-deep j k t d, lifted-deep j k t d)

pub lifted-case_count : (j : ℕ) (t : Tree) → case_count (lifted j t) ≡ 2 ^ j * case_count t
unfolding lifted case_count
lifted-case_count zero t = omega arith
lifted-case_count (suc j) t = let e : 2 ^ suc j ≡ 2 * 2 ^ j = omega arith in rw (lifted-case_count j t, e) (omega arith)

pub lifted-look : (j : ℕ) (t : Tree) (c : ℕ) → look (lifted j t) c ≡ look t (c / 2 ^ j)
unfolding lifted look
lifted-look zero t c = ap (look t) (sym (div-one c))
lifted-look (suc j) t c =
    let e : 2 * 2 ^ j ≡ 2 ^ suc j = omega arith in
    elim (odd c) as (λ v. cond v (look (lifted j t) (c / 2)) (look (lifted j t) (c / 2)) ≡ look t (c / 2 ^ suc j)) [
      | true ↦ lifted-look j t (c / 2) ∙ ap (look t) (div-div-eq-div-mul c 2 (2 ^ j) ∙ ap (λ d. c / d) e)
      | false ↦ lifted-look j t (c / 2) ∙ ap (look t) (div-div-eq-div-mul c 2 (2 ^ j) ∙ ap (λ d. c / d) e)
    ]

pub lifted-walk : (n j k : ℕ) (t : Tree) → Deep k t → (l : ℕ) → l + (j + k) ≡ n → (s : Table) → Good n s → walk s l (lifted j t) ≡ walk s (l + j) t
unfolding lifted
lifted-walk n zero k t d l e s g = ap (λ m. walk s m t) (sym (add-zero l))
lifted-walk n (suc j) k t d l e s g =
    walk_skip n (j + k) (lifted j t) (lifted-deep j k t d) l (omega arith) s g
    ∙ lifted-walk n j k t d (suc l) (omega arith) s g
    ∙ ap (λ m. walk s m t) (omega arith)

-- what a node says of a case, by its own mark: the loop of an evaluation
pub node_says : ℕ → Table → ℕ → ℕ → Bool
node_says n s p c = says (n - (at s p).mark) s (at s p).mark p (c / 2 ^ (at s p).mark)

shift_add : (c l j : ℕ) → c / 2 ^ l / 2 ^ j ≡ c / 2 ^ (l + j)
shift_add c l j = div-div-eq-div-mul c (2 ^ l) (2 ^ j) ∙ ap (λ d. c / d) (sym (pow-add 2 l j))

pub says-lifted : (j k : ℕ) (s : Table) (l p c : ℕ) → l + j ≤ (at s p).mark → says (j + k) s l p c ≡ says k s (l + j) p (c / 2 ^ j)
says-lifted j k s l p c h =
    says-look (j + k) s l p c ∙ ap (λ t. look t c) (tree_of-lifted j k s l p h) ∙ lifted-look j (tree_of k s (l + j) p) c ∙ sym (says-look k s (l + j) p (c / 2 ^ j))

-- from any level above the node's
pub node_says-level : (n : ℕ) (s : Table) (l p c : ℕ) → l ≤ (at s p).mark → (at s p).mark ≤ n → says (n - l) s l p (c / 2 ^ l) ≡ node_says n s p c
unfolding node_says
node_says-level n s l p c h m = go ((at s p).mark - l) (n - (at s p).mark) (omega arith) (omega arith) (omega arith)
  where
    go : (j k : ℕ) → n - l ≡ j + k → l + j ≡ (at s p).mark → k ≡ n - (at s p).mark → says (n - l) s l p (c / 2 ^ l) ≡ says (n - (at s p).mark) s (at s p).mark p (c / 2 ^ (at s p).mark)
    go j k a b d =
        ap (λ x. says x s l p (c / 2 ^ l)) a
        ∙ says-lifted j k s l p (c / 2 ^ l) (omega arith)
        ∙ ap (says k s (l + j) p) (shift_add c l j)
        ∙ ap (λ x. says k s x p (c / 2 ^ x)) b
        ∙ ap (λ x. says x s (at s p).mark p (c / 2 ^ (at s p).mark)) d

pub node_says-step : (n : ℕ) (s : Table) (p c : ℕ) → (at s p).mark < n → (q : ℕ) → q ≡ cond (bit (at s p).mark c) (at s p).high (at s p).low
    → (at s p).mark < (at s q).mark → (at s q).mark ≤ n → node_says n s p c ≡ node_says n s q c
unfolding node_says says
node_says-step n s p c h q e k m =
    go (n - suc (at s p).mark) (omega arith)
    ∙ node_says-level n s (suc (at s p).mark) q c k m
  where
    l : ℕ
    l = (at s p).mark

    to : step s l (odd (c / 2 ^ l)) p ≡ q
    to = step_here s l (odd (c / 2 ^ l)) p refl ∙ ap (λ b. cond b (at s p).high (at s p).low) (sym (bit_shift l c)) ∙ sym e

    go : (x : ℕ) → n - l ≡ suc x → says (n - l) s l p (c / 2 ^ l) ≡ says x s (suc l) q (c / 2 ^ suc l)
    go x a = ap (λ y. says y s l p (c / 2 ^ l)) a ∙ ap₂ (says x s (suc l)) to (shift_add c l 1 ∙ ap (λ y. c / 2 ^ y) (omega arith))

-- at the bottom a node's number decides
pub node_says_bottom : (n : ℕ) (s : Table) (p c : ℕ) → (at s p).mark ≡ n → node_says n s p c ≡ truth p
unfolding node_says says
node_says_bottom n s p c e = let z : n - (at s p).mark ≡ 0 = omega arith in rw z
