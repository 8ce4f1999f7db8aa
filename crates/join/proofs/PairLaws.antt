-- Two tables descended together: where a pair is split, what is known of it at once, and what a node remembered for it means in a larger table.
use mathlib.Core.Path.{◌≡◌, refl, sym, ap, ap₂, ◌∙◌}
use mathlib.Core.Bool.{Bool, true, false}
use mathlib.Core.List.{◌++◌}
use Prim.Native.Nat.{ℕ, zero, suc, ◌+◌, ◌-◌, ◌≤◌, ◌<◌}
use native.Mathlib.Omega.{arith}
use native.Mathlib.Nat.{add-zero, zero-add, suc-add}
use native.Mathlib.Decide.{ℕ_discrete, dec_lt}
use lib.ListN.{length}
use borrow.Author.Tests.{eq-eqb, ne_eqb}
use Rattle.theory.specs.Tree.{Tree, leaf, fork, Deep, pointwise, konst, lifted}
use Rattle.theory.specs.Table.{Node, Table, at, step, child_of, truth, num, walk, Ordered, Good}
use Rattle.theory.proofs.Step.{step_here, step_skip, tree_of-append}
use Rattle.theory.proofs.Walk.{Walked, sound, found, stands_old}
use Rattle.theory.proofs.Cases.{pointwise-deep}
use Rattle.theory.proofs.Again.{turn, tree_set, walk-konst}
use Rattle.theory.proofs.Levels.{lifted-walk}
use Rattle.join.specs.Task.{Operand, Task, tree_by, pair_of, pair_tree, top, Means}

pub tree_set-deep : (x : ℕ) (v : Bool) (k : ℕ) (s : Table) (l p : ℕ) → Deep k (tree_set x v k s l p)
unfolding tree_set
tree_set-deep x v zero s l p = tt
tree_set-deep x v (suc k) s l p = (tree_set-deep x v k s (suc l) _, tree_set-deep x v k s (suc l) _)

-- a constant node means a constant, whatever is set
tree_set-konst : (x : ℕ) (v : Bool) (n : ℕ) (s : Table) (k l p : ℕ) → l + k ≡ n → (at s p).mark ≡ n → tree_set x v k s l p ≡ konst k (truth p)
unfolding tree_set konst
tree_set-konst x v n s zero l p e h = refl
tree_set-konst x v n s (suc k) l p e h =
    rw (step_skip s l (turn x v l false) p (λ d. omega arith), step_skip s l (turn x v l true) p (λ d. omega arith), tree_set-konst x v n s k (suc l) p (omega arith) h)

-- the mark of a node is at most n
pub mark_most : (n : ℕ) (s : Table) → Ordered n s → (p : ℕ) → p < length s → (at s p).mark ≤ n
mark_most n s o zero h = omega (arith, ap (λ (x : Node). x.mark) o.first)
mark_most n s o (suc zero) h = omega (arith, ap (λ (x : Node). x.mark) (o.second h))
mark_most n s o (suc (suc p)) h = omega (arith, o.marks (suc (suc p)) (omega arith) h)

pub mark_constant : (n : ℕ) (s : Table) → Ordered n s → (p : ℕ) → p < length s → p < 2 → (at s p).mark ≡ n
mark_constant n s o zero h k = ap (λ (x : Node). x.mark) o.first
mark_constant n s o (suc zero) h k = ap (λ (x : Node). x.mark) (o.second h)
mark_constant n s o (suc (suc p)) h k = absurd (let z : ⊥ = omega arith in z)

constant_child : (n : ℕ) (s : Table) → Ordered n s → (p : ℕ) → p < length s → p < 2 → (b : Bool) → child_of b (at s p) ≡ p
constant_child n s o zero h k true = ap (λ (x : Node). x.high) o.first
constant_child n s o zero h k false = ap (λ (x : Node). x.low) o.first
constant_child n s o (suc zero) h k true = ap (λ (x : Node). x.high) (o.second h)
constant_child n s o (suc zero) h k false = ap (λ (x : Node). x.low) (o.second h)
constant_child n s o (suc (suc p)) h k b = absurd (let z : ⊥ = omega arith in z)

-- an operand's set mark is passed at once
module _ (n : ℕ) (A : Operand) (o : Ordered n A.table) where
  abbrev pub passed : ℕ → ℕ
  passed p = step A.table A.mark A.value p

  -- what is known of the node behind the set mark
  pub record Past (p q : ℕ) : Type 0 where
    pub lies : q < length A.table
    pub falls : (at A.table p).mark ≤ (at A.table q).mark
    pub free : A.mark < n → (at A.table q).mark ≡ A.mark → ⊥
    pub same : (k l : ℕ) → l + k ≡ n → l ≤ (at A.table p).mark → tree_by A k l p ≡ tree_by A k l q

  stays_past : (p : ℕ) → p < length A.table → (A.mark < n → (at A.table p).mark ≡ A.mark → ⊥) → Past p p
  stays_past p h f = record { lies = h; falls = omega arith; free = f; same = λ k l e m. refl }

  goes-past : (p q : ℕ) → q ≡ step A.table A.mark A.value p → (at A.table p).mark ≡ A.mark → A.mark < n → A.mark < (at A.table q).mark
      → (k l : ℕ) → l + k ≡ n → l ≤ A.mark → tree_by A k l p ≡ tree_by A k l q
  unfolding tree_set
  goes-past p q is m mn mq zero l e h = absurd (let z : ⊥ = omega arith in z)
  goes-past p q is m mn mq (suc k) l e h = elim (ℕ_discrete l A.mark) [
    | yes d ↦
        let to : step A.table l A.value p ≡ q = ap (λ z. step A.table z A.value p) d ∙ sym is in
        rw (eq-eqb l A.mark d, to, step_skip A.table l A.value q (λ z. omega arith))
    | no d ↦
        rw (
          ne_eqb l A.mark d,
          step_skip A.table l false p (λ z. omega arith),
          step_skip A.table l true p (λ z. omega arith),
          step_skip A.table l false q (λ z. omega arith),
          step_skip A.table l true q (λ z. omega arith),
          goes-past p q is m mn mq k (suc l) (omega arith) (omega arith),
        )
  ]

  pub past : (p : ℕ) → p < length A.table → Past p (passed p)
  past p h = elim (ℕ_discrete (at A.table p).mark A.mark) [
    | no d ↦ rw (step_skip A.table A.mark A.value p d) (stays_past p h (λ lt. d))
    | yes d ↦ elim (dec_lt p 2) [
      | yes small ↦
          rw (step_here A.table A.mark A.value p d, constant_child n A.table o p h small A.value)
          (stays_past p h (λ lt e. omega (arith, mark_constant n A.table o p h small)))
      | no large ↦
          let is : step A.table A.mark A.value p ≡ child_of A.value (at A.table p) = step_here A.table A.mark A.value p d in
          let lower : child_of A.value (at A.table p) < p = o.links p A.value (omega arith) h in
          let falls : (at A.table p).mark < (at A.table (child_of A.value (at A.table p))).mark = o.falls p A.value (omega arith) h in
          let below : (at A.table p).mark < n = o.marks p (omega arith) h in
          rw is
          (record {
            lies = omega arith;
            falls = omega arith;
            free = λ lt e. omega arith;
            same = λ k l e m. goes-past p _ (sym is) d (omega arith) (omega arith) k l e (omega arith);
          })
    ]
  ]

  -- from there both ways down are the table's own
  pub free_turn : (p : ℕ) → (A.mark < n → (at A.table p).mark ≡ A.mark → ⊥) → (l : ℕ) (b : Bool) → l < n
      → step A.table l (turn A.mark A.value l b) p ≡ step A.table l b p
  free_turn p f l b h = elim (ℕ_discrete l A.mark) [
    | yes d ↦
        let off : ((at A.table p).mark ≡ l → ⊥) = λ e. f (omega arith) (omega arith) in
        rw (step_skip A.table l (turn A.mark A.value l b) p off, step_skip A.table l b p off)
    | no d ↦ rw (ne_eqb l A.mark d)
  ]

-- one operation of a constant
pointwise-left : (f : Bool → Bool → Bool) (a b : Bool) → ((v : Bool) → f a v ≡ b) → (k : ℕ) (t : Tree) → Deep k t → pointwise f (konst k a) t ≡ konst k b
unfolding pointwise konst
pointwise-left f a b h zero (leaf c) d = ap leaf (h c)
pointwise-left f a b h zero (fork lo hi) d = absurd d
pointwise-left f a b h (suc k) (leaf c) d = absurd d
pointwise-left f a b h (suc k) (fork lo hi) d = ap₂ fork (pointwise-left f a b h k lo d.0) (pointwise-left f a b h k hi d.1)

pointwise-right : (f : Bool → Bool → Bool) (a b : Bool) → ((v : Bool) → f v a ≡ b) → (k : ℕ) (t : Tree) → Deep k t → pointwise f t (konst k a) ≡ konst k b
unfolding pointwise konst
pointwise-right f a b h zero (leaf c) d = ap leaf (h c)
pointwise-right f a b h zero (fork lo hi) d = absurd d
pointwise-right f a b h (suc k) (leaf c) d = absurd d
pointwise-right f a b h (suc k) (fork lo hi) d = ap₂ fork (pointwise-right f a b h k lo d.0) (pointwise-right f a b h k hi d.1)

pointwise-both : (f : Bool → Bool → Bool) (a b : Bool) (k : ℕ) → pointwise f (konst k a) (konst k b) ≡ konst k (f a b)
unfolding pointwise konst
pointwise-both f a b zero = refl
pointwise-both f a b (suc k) = ap₂ fork (pointwise-both f a b k) (pointwise-both f a b k)

module _ (T : Task) (oa : Ordered T.marks T.left.table) (ob : Ordered T.marks T.right.table) where
  abbrev n : ℕ
  n = T.marks

  abbrev A : Table
  A = T.left.table

  abbrev B : Table
  B = T.right.table

  pair-deep : (k l x y : ℕ) → Deep k (pair_of T k l x y)
  unfolding pair_of
  pair-deep k l x y = pointwise-deep T.op k _ _ (tree_set-deep T.left.mark T.left.value k A l x) (tree_set-deep T.right.mark T.right.value k B l y)

  -- one level down
  pair-fork : (k l x y xl xh yl yh : ℕ)
      → step A l (turn T.left.mark T.left.value l false) x ≡ xl → step A l (turn T.left.mark T.left.value l true) x ≡ xh
      → step B l (turn T.right.mark T.right.value l false) y ≡ yl → step B l (turn T.right.mark T.right.value l true) y ≡ yh
      → pair_of T (suc k) l x y ≡ fork (pair_of T k (suc l) xl yl) (pair_of T k (suc l) xh yh)
  unfolding pair_of pointwise tree_set
  pair-fork k l x y xl xh yl yh a b c d =
      ap₂ fork
      (ap₂ (λ p q. pointwise T.op (tree_by T.left k (suc l) p) (tree_by T.right k (suc l) q)) a c)
      (ap₂ (λ p q. pointwise T.op (tree_by T.left k (suc l) p) (tree_by T.right k (suc l) q)) b d)

  pair-lifted : (j k l x y : ℕ) → l + j ≤ top T x y → pair_of T (j + k) l x y ≡ lifted j (pair_of T k (l + j) x y)
  unfolding lifted
  pair-lifted zero k l x y h = rw (zero-add k, add-zero l)
  pair-lifted (suc j) k l x y h =
      let e : suc l + j ≡ l + suc j = omega arith in
      let a : ((at A x).mark ≡ l → ⊥) = λ d. omega arith in
      let b : ((at B y).mark ≡ l → ⊥) = λ d. omega arith in
      rw (suc-add j k, ← e)
      (pair-fork (j + k) l x y x x y y (step_skip A l _ x a) (step_skip A l _ x a) (step_skip B l _ y b) (step_skip B l _ y b)
      ∙ ap₂ fork (pair-lifted j k (suc l) x y (omega arith)) (pair-lifted j k (suc l) x y (omega arith)))

  pub tree-deep : (l x y : ℕ) → Deep (n - l) (pair_tree T l x y)
  tree-deep l x y = pair-deep (n - l) l x y

  -- levels above the pair's own make no node
  pub walk-level : (s : Table) → Good n s → (l m x y : ℕ) → l ≤ m → m ≤ top T x y → m ≤ n → walk s l (pair_tree T l x y) ≡ walk s m (pair_tree T m x y)
  walk-level s g l m x y lm mt mn = go (m - l) (omega arith) (omega arith)
    where
      go : (j : ℕ) → l + j ≡ m → n - l ≡ j + (n - m) → walk s l (pair_tree T l x y) ≡ walk s m (pair_tree T m x y)
      go j a b =
          ap (λ k. walk s l (pair_of T k l x y)) b
          ∙ ap (walk s l) (pair-lifted j (n - m) l x y (omega arith))
          ∙ lifted-walk n j (n - m) (pair_of T (n - m) (l + j) x y) (pair-deep (n - m) (l + j) x y) l (omega arith) s g
          ∙ ap (λ z. walk s z (pair_of T (n - m) z x y)) a

  pub top_most : (x y : ℕ) → x < length A → top T x y ≤ n
  top_most x y h = omega (arith, mark_most n A oa x h)

  -- ---- the set marks are passed
  pub past-tree : (x y x' y' l : ℕ) → Past n T.left oa x x' → Past n T.right ob y y' → l ≤ top T x y → l ≤ n → pair_tree T l x y ≡ pair_tree T l x' y'
  unfolding pair_of
  past-tree x y x' y' l a b h m = ap₂ (pointwise T.op) (a.same (n - l) l (omega arith) (omega arith)) (b.same (n - l) l (omega arith) (omega arith))

  -- ---- one level, from there
  pub tree-fork : (x y l : ℕ) → l < n
      → (T.left.mark < n → (at A x).mark ≡ T.left.mark → ⊥) → (T.right.mark < n → (at B y).mark ≡ T.right.mark → ⊥)
      → pair_tree T l x y ≡ fork (pair_tree T (suc l) (step A l false x) (step B l false y)) (pair_tree T (suc l) (step A l true x) (step B l true y))
  tree-fork x y l h fa fb =
      let e : n - l ≡ suc (n - suc l) = omega arith in
      ap (λ k. pair_of T k l x y) e
      ∙ pair-fork (n - suc l) l x y _ _ _ _
      (free_turn n T.left oa x fa l false h)
      (free_turn n T.left oa x fa l true h)
      (free_turn n T.right ob y fb l false h)
      (free_turn n T.right ob y fb l true h)

  -- ---- what a constant decides
  num_injective : (a b : Bool) → num a ≡ num b → a ≡ b
  num_injective true true e = refl
  num_injective true false e = absurd (let z : ⊥ = omega arith in z)
  num_injective false true e = absurd (let z : ⊥ = omega arith in z)
  num_injective false false e = refl

  tree_constant : (C : Operand) → Ordered n C.table → (p l : ℕ) → p < length C.table → p < 2 → l ≤ n → tree_by C (n - l) l p ≡ konst (n - l) (truth p)
  tree_constant C o p l h k m = tree_set-konst C.mark C.value n C.table (n - l) l p (omega arith) (mark_constant n C.table o p h k)

  pub left-decides : (x y l r : ℕ) → x < length A → x < 2 → l ≤ n → ((v : Bool) → r ≡ num (T.op (truth x) v)) → (s : Table) → walk s l (pair_tree T l x y) ≡ (s, r)
  unfolding pair_of
  left-decides x y l r hx h m e s =
      ap (walk s l)
      (ap (λ t. pointwise T.op t (tree_by T.right (n - l) l y)) (tree_constant T.left oa x l hx h m)
      ∙ pointwise-left T.op (truth x) (T.op (truth x) true) (λ v. num_injective _ _ (sym (e v) ∙ e true)) (n - l) _ (tree_set-deep T.right.mark T.right.value (n - l) B l y))
      ∙ walk-konst (n - l) (T.op (truth x) true) s l
      ∙ ap (λ (z : ℕ). (s, z)) (sym (e true))

  pub right-decides : (x y l r : ℕ) → y < length B → y < 2 → l ≤ n → ((v : Bool) → r ≡ num (T.op v (truth y))) → (s : Table) → walk s l (pair_tree T l x y) ≡ (s, r)
  unfolding pair_of
  right-decides x y l r hy h m e s =
      ap (walk s l)
      (ap (λ t. pointwise T.op (tree_by T.left (n - l) l x) t) (tree_constant T.right ob y l hy h m)
      ∙ pointwise-right T.op (truth y) (T.op true (truth y)) (λ v. num_injective _ _ (sym (e v) ∙ e true)) (n - l) _ (tree_set-deep T.left.mark T.left.value (n - l) A l x))
      ∙ walk-konst (n - l) (T.op true (truth y)) s l
      ∙ ap (λ (z : ℕ). (s, z)) (sym (e true))

  pub both_decide : (x y l r : ℕ) → x < length A → y < length B → x < 2 → y < 2 → l ≤ n → r ≡ num (T.op (truth x) (truth y)) → (s : Table) → walk s l (pair_tree T l x y) ≡ (s, r)
  unfolding pair_of
  both_decide x y l r hx hy h k m e s =
      ap (walk s l)
      (ap₂ (pointwise T.op) (tree_constant T.left oa x l hx h m) (tree_constant T.right ob y l hy k m)
      ∙ pointwise-both T.op (truth x) (truth y) (n - l))
      ∙ walk-konst (n - l) (T.op (truth x) (truth y)) s l
      ∙ ap (λ (z : ℕ). (s, z)) (sym e)

  -- ---- what is remembered
  pub means_hit : (s : Table) → Good n s → (x y r : ℕ) → x < length A → Means T s x y r → (l : ℕ) → l ≤ top T x y → walk s l (pair_tree T l x y) ≡ (s, r)
  means_hit s g x y r h a l m =
      walk-level s g l (top T x y) x y m (omega arith) (top_most x y h)
      ∙ ap (walk s (top T x y)) (sym a.means)
      ∙ found n s g (n - top T x y) (top T x y) r (omega (arith, top_most x y h)) a.stands

  pub means_old : (s u : Table) → Good n s → (x y r : ℕ) → x < length A → Means T s x y r → Means T (s ++ u) x y r
  means_old s u g x y r h a = record {
    stands = stands_old s u (top T x y) r a.stands;
    means = tree_of-append n s g.ordered u (n - top T x y) (top T x y) r (omega (arith, top_most x y h)) a.stands ∙ a.means;
  }

  pub means-new : (s : Table) → Good n s → (x y l : ℕ) → x < length A → l ≡ top T x y → (z : Table × ℕ) → walk s l (pair_tree T l x y) ≡ z → Means T z.0 x y z.1
  means-new s g x y l h is z e =
      let w : Walked n s (n - top T x y) (top T x y) (pair_tree T (top T x y) x y) z =
      rw (sym e ∙ ap (λ m. walk s m (pair_tree T m x y)) is) (sound n (n - top T x y) (pair_tree T (top T x y) x y) (tree-deep (top T x y) x y) (top T x y) (omega (arith, top_most x y h)) s g) in
      record { stands = w.stands; means = w.means }
