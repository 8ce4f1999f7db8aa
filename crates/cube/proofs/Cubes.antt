-- The tree with a cube set, and the walk over it.
use mathlib.Core.Path.{◌≡◌, refl, sym, ap, ap₂, ◌∙◌}
use mathlib.Core.Bool.{Bool, true, false, cond, not, ◌&&◌, ◌||◌, beq}
use mathlib.Core.List.{◌++◌}
use Prim.Native.Nat.{ℕ, zero, suc, ◌+◌, ◌/◌, ◌%◌, ◌^◌, ◌<◌, ◌≤◌}
use native.Mathlib.Omega.{arith}
use native.Mathlib.Nat.{add-zero, zero-add, suc-add}
use Rattle.theory.specs.Tree.{Tree, leaf, fork, Deep, look, konst}
use Rattle.theory.specs.Mask.{odd}
use Rattle.theory.specs.Table.{Node, Table, at, step, tree_of, truth, num, walk, Ordered, Good}
use Rattle.theory.proofs.Step.{Stands, step_skip, tree_of-append, tree_of-konst}
use Rattle.theory.proofs.Walk.{found}
use Rattle.theory.proofs.Small.{tree_of-deep}
use Rattle.theory.proofs.Again.{walk_skip, walk-konst}
use Rattle.cube.specs.Cube.{set_cube, all_are, part}
use Rattle.cube.proofs.Shifts.{half_pow, even}

pub cond-deep : (x : Bool) (k : ℕ) (t u : Tree) → Deep k t → Deep k u → Deep k (cond x t u)
cond-deep true k t u d d' = d
cond-deep false k t u d d' = d'

pub set-deep : (b : Bool) (f v k : ℕ) (t : Tree) → Deep k t → Deep k (set_cube b f v t)
unfolding set_cube
set-deep b f v zero (leaf x) d = tt
set-deep b f v zero (fork lo hi) d = absurd d
set-deep b f v (suc k) (leaf x) d = absurd d
set-deep b f v (suc k) (fork lo hi) d = (
  cond-deep (odd f && beq (odd v) b) k lo _ d.0 (set-deep b (f / 2) (v / 2) k lo d.0),
  cond-deep (odd f && not (beq (odd v) b)) k hi _ d.1 (set-deep b (f / 2) (v / 2) k hi d.1),
)

-- no literal left: all of it
pub set-none : (b : Bool) (v k : ℕ) (t : Tree) → Deep k t → set_cube b 0 v t ≡ konst k b
unfolding set_cube konst
set-none b v zero (leaf x) d = refl
set-none b v zero (fork lo hi) d = absurd d
set-none b v (suc k) (leaf x) d = absurd d
set-none b v (suc k) (fork lo hi) d = ap₂ fork (set-none b (v / 2) k lo d.0) (set-none b (v / 2) k hi d.1)

cond_same : {A : Type 0} (x : Bool) (t : A) → cond x t t ≡ t
cond_same true t = refl
cond_same false t = refl

-- nothing to set
pub set-konst : (b : Bool) (f v k : ℕ) → set_cube b f v (konst k b) ≡ konst k b
unfolding set_cube konst
set-konst b f v zero = refl
set-konst b f v (suc k) =
    ap₂ fork
    (ap (λ u. cond (odd f && beq (odd v) b) (konst k b) u) (set-konst b (f / 2) (v / 2) k) ∙ cond_same (odd f && beq (odd v) b) (konst k b))
    (ap (λ u. cond (odd f && not (beq (odd v) b)) (konst k b) u) (set-konst b (f / 2) (v / 2) k) ∙ cond_same (odd f && not (beq (odd v) b)) (konst k b))

-- ---- on cases
pub set-look : (b : Bool) (k f v : ℕ) (t : Tree) → Deep k t → (c : ℕ) → look (set_cube b f v t) c ≡ cond (all_are b k f v c) b (look t c)
unfolding set_cube look all_are
set-look b zero f v (leaf x) d c = refl
set-look b zero f v (fork lo hi) d c = absurd d
set-look b (suc k) f v (leaf x) d c = absurd d
set-look b (suc k) f v (fork lo hi) d c =
    go (odd c) (odd f) (odd v) b (all_are b k (f / 2) (v / 2) (c / 2)) (set_cube b (f / 2) (v / 2) hi) (set_cube b (f / 2) (v / 2) lo)
    (set-look b k (f / 2) (v / 2) hi d.1 (c / 2)) (set-look b k (f / 2) (v / 2) lo d.0 (c / 2))
  where
    go : (x y z w e : Bool) (hi' lo' : Tree)
        → look hi' (c / 2) ≡ cond e b (look hi (c / 2)) → look lo' (c / 2) ≡ cond e b (look lo (c / 2))
        → cond x (look (cond (y && not (beq z w)) hi hi') (c / 2)) (look (cond (y && beq z w) lo lo') (c / 2))
        ≡ cond ((not y || beq (beq z x) w) && e) b (cond x (look hi (c / 2)) (look lo (c / 2)))
    go true true true true e hi' lo' p q = p
    go true true true false e hi' lo' p q = refl
    go true true false true e hi' lo' p q = refl
    go true true false false e hi' lo' p q = p
    go true false z w e hi' lo' p q = p
    go false true true true e hi' lo' p q = refl
    go false true true false e hi' lo' p q = q
    go false true false true e hi' lo' p q = q
    go false true false false e hi' lo' p q = refl
    go false false z w e hi' lo' p q = q

-- ---- level by level
module _ (b : Bool) (f v : ℕ) where
  -- the cube's side at level l
  abbrev pub up : ℕ → Bool
  up l = beq (odd (v / 2 ^ l)) b

  pub part-deep : (s : Table) (k l a : ℕ) (off : Bool) → Deep k (part b f v s k l a off)
  part-deep s k l a off = cond-deep off k _ _ (tree_of-deep k s l a) (set-deep b _ _ k _ (tree_of-deep k s l a))

  pub part-fork : (s : Table) (k l a : ℕ) → part b f v s (suc k) l a false
      ≡ fork (part b f v s k (suc l) (step s l false a) (odd (f / 2 ^ l) && up l)) (part b f v s k (suc l) (step s l true a) (odd (f / 2 ^ l) && not (up l)))
  unfolding set_cube tree_of
  part-fork s k l a = rw (half_pow f l, half_pow v l)

  -- no literal at level l, and no node: go on at the next
  pub part_skip : (n : ℕ) (s : Table) → Good n s → (k l a : ℕ) → suc l + k ≡ n → l < (at s a).mark → f / 2 ^ l % 2 ≡ 0
      → walk s l (part b f v s (suc k) l a false) ≡ walk s (suc l) (part b f v s k (suc l) a false)
  part_skip n s g k l a e h z =
      rw (part-fork s k l a, even (f / 2 ^ l) z, step_skip s l false a (λ d. omega arith), step_skip s l true a (λ d. omega arith))
      (walk_skip n k (part b f v s k (suc l) a false) (part-deep s k (suc l) a false) l e s g)

  -- so many levels at once
  pub part-jump : (n : ℕ) (s : Table) → Good n s → (j k l a : ℕ) → l + (j + k) ≡ n → l + j ≤ (at s a).mark → ((i : ℕ) → i < j → f / 2 ^ (l + i) % 2 ≡ 0)
      → walk s l (part b f v s (j + k) l a false) ≡ walk s (l + j) (part b f v s k (l + j) a false)
  part-jump n s g zero k l a e h z = rw (zero-add k, add-zero l)
  part-jump n s g (suc j) k l a e h z =
      let x : suc l + j ≡ l + suc j = omega arith in
      rw (suc-add j k)
      (part_skip n s g (j + k) l a (omega arith) (omega arith) (ap (λ y. f / 2 ^ y % 2) (sym (add-zero l)) ∙ z 0 (omega arith))
      ∙ (rw x at (part-jump n s g j k (suc l) a (omega arith) (omega arith) (λ i d. ap (λ y. f / 2 ^ y % 2) (let q : suc l + i ≡ l + suc i = omega arith in q) ∙ z (suc i) (omega arith)))))

  -- what is known at once
  pub part_off : (n : ℕ) (s : Table) → Good n s → (k l a : ℕ) → l + k ≡ n → Stands s l a → walk s l (part b f v s k l a true) ≡ (s, a)
  part_off n s g k l a e h = found n s g k l a e h

  pub part-all : (s : Table) (k l a : ℕ) → f / 2 ^ l ≡ 0 → walk s l (part b f v s k l a false) ≡ (s, num b)
  part-all s k l a z = ap (λ y. walk s l (set_cube b y (v / 2 ^ l) (tree_of k s l a))) z ∙ ap (walk s l) (set-none b (v / 2 ^ l) k _ (tree_of-deep k s l a)) ∙ walk-konst k b s l

  pub part-term : (n : ℕ) (s : Table) → Good n s → (k l a : ℕ) → l + k ≡ n → a ≡ num b → walk s l (part b f v s k l a false) ≡ (s, num b)
  part-term n s g k l a e h =
      ap (λ y. walk s l (set_cube b (f / 2 ^ l) (v / 2 ^ l) y)) (ap (tree_of k s l) h ∙ tree_of-konst n s k l (num b) e (end_mark b) ∙ ap (konst k) (back b))
      ∙ ap (walk s l) (set-konst b (f / 2 ^ l) (v / 2 ^ l) k) ∙ walk-konst k b s l
    where
      back : (x : Bool) → truth (num x) ≡ x
      back true = refl
      back false = refl

      end_mark : (x : Bool) → (at s (num x)).mark ≡ n
      end_mark true = ap (λ (y : Node). y.mark) (g.ordered.second g.both)
      end_mark false = ap (λ (y : Node). y.mark) g.ordered.first

  -- more nodes change nothing
  pub part-append : (n : ℕ) (s : Table) → Ordered n s → (u : Table) (k l a : ℕ) (off : Bool) → l + k ≡ n → Stands s l a → part b f v (s ++ u) k l a off ≡ part b f v s k l a off
  part-append n s o u k l a off e h = ap (λ t. cond off t (set_cube b (f / 2 ^ l) (v / 2 ^ l) t)) (tree_of-append n s o u k l a e h)
