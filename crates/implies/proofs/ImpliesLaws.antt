-- The descent that makes no node: the walk from the constants answers node 0 exactly where the operation says no of every case.
use mathlib.Core.Path.{◌≡◌, refl, sym, ap, ap₂, subst, ◌∙◌}
use mathlib.Core.Logic.{inl, inr}
use mathlib.Core.Bool.{Bool, true, false, cond, not, ◌&&◌}
use mathlib.Core.List.{List}
use Prim.Native.Nat.{ℕ, suc, ◌+◌, ◌-◌, ◌^◌, ◌<◌, ◌≤◌}
use native.Mathlib.Omega.{arith}
use native.Mathlib.Numerals.{add-one}
use native.Mathlib.Nat.{sub-zero}
use native.Mathlib.Decide.{ℕ_discrete}
use lib.Dec.{eqb}
use lib.ListN.{length, take, replicate}
use borrow.Author.Tests.{eq-eqb, ne_eqb}
use Rattle.theory.specs.Tree.{Tree, fork, Deep, look, konst, pointwise, and_not}
use Rattle.theory.specs.Table.{Table, walk, constants, Ordered}
use Rattle.theory.specs.Words.{nodes}
use Rattle.theory.proofs.Step.{tree_of-konst}
use Rattle.theory.proofs.Walk.{Walked, sound}
use Rattle.theory.proofs.Cases.{look_ext, pointwise-deep, pointwise-look, konst-deep, konst-look}
use Rattle.theory.proofs.Canon.{constants-good}
use Rattle.theory.proofs.Again.{walk-konst}
use Rattle.theory.proofs.Words.{length-nodes}
use Rattle.refusal.specs.Limits.{max_nodes}
use Rattle.refusal.specs.Buffers.{padded}
use Rattle.join.specs.declared.Job.{Job}
use Rattle.join.specs.declared.Cut.{Cut}
use Rattle.join.specs.Task.{Task, pair_tree, top}
use Rattle.join.specs.Memo.{ways, Stores}
use Rattle.join.specs.Joining.{task_of, joined_by, Operands, Splitting, Has, Parted, Standing, Knows}
use Rattle.join.proofs.JoinLaws.{Same, turned-back}
use Rattle.join.proofs.PairLaws.{tree-deep, top_most, means-new}
use Rattle.join.proofs.SplitLaws.{node-few}
use Rattle.join.proofs.WholeLaws.{tree_is, nothing_held}
use Rattle.implies.specs.Implying.{Empty, Ready, SaysEmpty, SaysNo}

-- the descent over the same input
same_input : (a b m : List ℕ) (j : Job) (a₁ b₁ : List ℕ) (j₁ : Job) → Same a b j a₁ b₁ j₁ → Ready a₁ b₁ m j₁ → Ready a b m j
same_input a b m j a₁ b₁ j₁ e r = subst (λ i. Ready a b m i) e.2 (subst (λ w. Ready a w m j₁) e.1 (subst (λ w. Ready w b₁ m j₁) e.0 r))

-- what the memory holds in the end, its words as they are then
pub said_known : (a b a₁ b₁ m₁ : List ℕ) (j j₁ : Job) → Same a b j a₁ b₁ j₁ → Ready a₁ b₁ m₁ j₁ → (m' : List ℕ) → m' ≡ m₁ → Knows (task_of a b j) m' (constants j.n)
said_known a b a₁ b₁ m₁ j j₁ e r m' em = rw em ((same_input a b m₁ j a₁ b₁ j₁ e r).known)

module _ (a b m : List ℕ) (j : Job) (r : Ready a b m j) (l x y : ℕ) (stands : Standing a b j l x y) where
  abbrev T : Task
  T = task_of a b j

  abbrev n : ℕ
  n = j.n

  abbrev s : Table
  s = constants n

  oa : Ordered n (nodes j.left.count a)
  oa = r.operands.left.ordered

  ob : Ordered n (nodes j.right.count b)
  ob = r.operands.right.ordered

  from-top : l ≤ top T x y
  from-top = omega (arith, stands.0.fits, stands.1.fits)

  pub splitting : Splitting a b m j x y
  splitting = record {
    operands = r.operands;
    x_in = omega (arith, stands.0.lies, length-nodes j.left.count a);
    y_in = omega (arith, stands.1.lies, length-nodes j.right.count b);
  }

  empty-walk : (k p q : ℕ) → Empty T k p q → walk s k (pair_tree T k p q) ≡ (s, 0)
  empty-walk k p q e = ap (walk s k) e ∙ walk-konst (n - k) false s k

  walk-empty : (k p q : ℕ) → k ≤ n → walk s k (pair_tree T k p q) ≡ (s, 0) → Empty T k p q
  walk-empty k p q h e =
      let w : Walked n s (n - k) k (pair_tree T k p q) (s, 0) =
      subst (Walked n s (n - k) k (pair_tree T k p q)) e (sound n (n - k) (pair_tree T k p q) (tree-deep T oa ob k p q) k (omega arith) s (constants-good n)) in
      sym w.means ∙ tree_of-konst n s (n - k) k 0 (omega arith) refl

  level-within : l ≤ n
  level-within = omega (arith, from-top, top_most T oa ob x y stands.0.lies)

  -- ---- what is known at once
  pub known_implies : (q : ℕ) → Has T m x y q → SaysEmpty a b j l x y (eqb q 0)
  known_implies q has = elim (ℕ_discrete q 0) [
    | yes z ↦ rw (eq-eqb q 0 z) (walk-empty l x y level-within (walks ∙ ap (λ (o : ℕ). (s, o)) z))
    | no z ↦ rw (ne_eqb q 0 z) (λ e. z (ap (λ (o : Table × ℕ). o.1) (sym walks ∙ empty-walk l x y e)))
  ]
    where
      walks : walk s l (pair_tree T l x y) ≡ (s, q)
      walks = has s (constants-good n) r.known l from-top

  -- ---- a pair split
  module _ (c : Cut) (d : Parted T x y c) where
    abbrev v : ℕ
    v = c.level.0

    pub deeper : n - (v + 1) < n - l
    deeper = omega (arith, d.below, d.from, from-top)

    pub next_fits : v + 1 ≤ n
    next_fits = omega (arith, d.below)

    pub low-stands : Standing a b j (v + 1) c.low.left.0 c.low.right.0
    low-stands = (rw (add-one v) d.low-left, rw (add-one v) d.low-right)

    level-is : n - v ≡ suc (n - suc v)
    level-is = omega (arith, d.below)

    -- no below the pair is no below both its sides
    both_sides : Empty T l x y
        → fork (pair_tree T (suc v) c.low.left.0 c.low.right.0) (pair_tree T (suc v) c.high.left.0 c.high.right.0) ≡ fork (konst (n - suc v) false) (konst (n - suc v) false)
    unfolding konst
    both_sides e =
        sym d.forks
        ∙ walk-empty v c.pair.left.0 c.pair.right.0 (omega (arith, d.below)) (sym (d.walks s (constants-good n) l from-top) ∙ empty-walk l x y e)
        ∙ ap (λ k. konst k false) level-is

    pub low-empty : Empty T l x y → Empty T (v + 1) c.low.left.0 c.low.right.0
    low-empty e = rw (add-one v) (let z = both_sides e in cc)

    pub high-empty : Empty T l x y → Empty T (v + 1) c.high.left.0 c.high.right.0
    high-empty e = rw (add-one v) (let z = both_sides e in cc)

    own_walk : Empty T (v + 1) c.low.left.0 c.low.right.0 → Empty T (v + 1) c.high.left.0 c.high.right.0
        → walk s v (pair_tree T v c.pair.left.0 c.pair.right.0) ≡ (s, 0)
    unfolding konst
    own_walk p q =
        let p' : Empty T (suc v) c.low.left.0 c.low.right.0 = rw (add-one v) at p in
        let q' : Empty T (suc v) c.high.left.0 c.high.right.0 = rw (add-one v) at q in
        empty-walk v c.pair.left.0 c.pair.right.0 (d.forks ∙ ap₂ fork p' q' ∙ ap (λ k. konst k false) (sym level-is))

    -- the low pair
    module _ (a₁ b₁ m₁ : List ℕ) (j₁ : Job) (input₁ : Same a b j a₁ b₁ j₁) (low : Empty T (v + 1) c.low.left.0 c.low.right.0) where
      pub high-stands : Standing a₁ b₁ j₁ (v + 1) c.high.left.0 c.high.right.0
      high-stands = rw (input₁.0, input₁.1, input₁.2) (rw (add-one v) d.high-left, rw (add-one v) d.high-right)

      pub deeper_still : j₁.n - (v + 1) < n - l
      deeper_still = rw input₁.2 deeper

      pub high-stops : (Empty (task_of a₁ b₁ j₁) (v + 1) c.high.left.0 c.high.right.0 → ⊥) → Empty T l x y → ⊥
      high-stops f e = f (rw (input₁.0, input₁.1, input₁.2) (high-empty e))

      -- the high pair
      module _ (a₂ b₂ m₂ : List ℕ) (j₂ : Job) (input₂ : Same a₁ b₁ j₁ a₂ b₂ j₂) (ready₂ : Ready a₂ b₂ m₂ j₂) (high : Empty (task_of a₁ b₁ j₁) (v + 1) c.high.left.0 c.high.right.0) where
        input : Same a b j a₂ b₂ j₂
        input = (input₂.0 ∙ input₁.0, input₂.1 ∙ input₁.1, input₂.2 ∙ input₁.2)

        now₂ : Ready a b m₂ j
        now₂ = same_input a b m₂ j a₂ b₂ j₂ input ready₂

        pub remember-asks : (ways ≤ length m₂) × (c.pair.left.0 < max_nodes) × (c.pair.right.0 < max_nodes) × (0 < max_nodes)
        remember-asks = (
          omega (arith, now₂.operands.slots, r.operands.right.some),
          node-few n j.left.count a r.operands.left c.pair.left.0 (omega (arith, d.left_in, length-nodes j.left.count a)),
          node-few n j.right.count b r.operands.right c.pair.right.0 (omega (arith, d.right_in, length-nodes j.right.count b)),
          omega arith,
        )

        own : walk s v (pair_tree T v c.pair.left.0 c.pair.right.0) ≡ (s, 0)
        own = own_walk low (rw (input₁.0, input₁.1, input₁.2) at high)

        pub both_empty : Empty T l x y
        both_empty = walk-empty l x y level-within (d.walks s (constants-good n) l from-top ∙ own)

        pub kept_ready : (m₃ : List ℕ) → length m₃ ≡ length m₂ → Stores m₂ m₃ c.pair.left.0 c.pair.right.0 0 → Ready a₂ b₂ m₃ j₂
        kept_ready m₃ e stored = same_input a₂ b₂ m₃ j₂ a b j (turned-back a b a₂ b₂ j j₂ input) (record {
          operands = record { left = r.operands.left; right = r.operands.right; slots = omega (arith, now₂.operands.slots) };
          known = λ x' y' r' hx hy h.
              elim (stored x' y' r' (omega (arith, now₂.operands.slots, d.right_in, length-nodes j.right.count b)) (omega (arith, now₂.operands.slots, length-nodes j.right.count b)) h) [
                | inl e ↦ rw (e.0, e.1, e.2) (means-new T oa ob s (constants-good n) c.pair.left.0 c.pair.right.0 v d.left_in d.level (s, 0) own)
                | inr old ↦ now₂.known x' y' r' hx hy old
              ];
        })

-- ---- the whole
cleared : (m : List ℕ) (k : ℕ) (w : List ℕ) → w ≡ replicate k 0 → w ≡ padded (take 0 m) k
unfolding padded
cleared m k w e = let z : k - 0 ≡ k = omega arith in rw z e

module _ (a b m : List ℕ) (j : Job) (g : Operands a b m j) where
  pub start_ready : (m₁ : List ℕ) → length m₁ ≡ length m → m₁ ≡ replicate (length m) 0 → Ready a b m₁ j
  start_ready m₁ e clear = record {
    operands = record { left = g.left; right = g.right; slots = omega (arith, g.slots) };
    known = λ x' y' r hx hy h. absurd (nothing_held m m₁ x' y' r (omega (arith, g.slots, g.right.some)) (cleared m (length m) m₁ clear) e h);
  }

  pub start-stands : Standing a b j 0 (j.left.count - 1) (j.right.count - 1)
  start-stands = (
    record { lies = omega (arith, length-nodes j.left.count a, g.left.some); fits = omega arith },
    record { lies = omega (arith, length-nodes j.right.count b, g.right.some); fits = omega arith },
  )

  pub whole_says : (z : Bool) → SaysEmpty a b j 0 (j.left.count - 1) (j.right.count - 1) z → SaysNo j.n (joined_by a b j) z
  whole_says true h = sym (tree_is a b j) ∙ h ∙ ap (λ k. konst k false) (sub-zero j.n)
  whole_says false h = λ e. h (tree_is a b j ∙ e ∙ ap (λ k. konst k false) (sym (sub-zero j.n)))

-- ---- in plain words, for and-not: the left function implies the right one
abbrev pub Within : ℕ → Tree → Tree → Type 0
Within n t u = (case : ℕ) → case < 2 ^ n → look t case ≡ true → look u case ≡ true

module _ (n : ℕ) (t u : Tree) (dt : Deep n t) (du : Deep n u) where
  abbrev g : Tree
  g = pointwise and_not t u

  no-left : (x y : Bool) → x && not y ≡ false → x ≡ true → y ≡ true
  no-left true true e h = refl
  no-left true false e h = absurd (let z : ◌≡◌ {A = ℕ} 1 0 = ap (λ b. cond b 1 0) e in omega arith)
  no-left false true e h = refl
  no-left false false e h = h

  none_left : (x y : Bool) → (x ≡ true → y ≡ true) → x && not y ≡ false
  none_left true y h = rw (h refl)
  none_left false y h = refl

  pub says_no_implies : SaysNo n g true → Within n t u
  says_no_implies e case h = no-left _ _ (sym (pointwise-look and_not n t u dt du case) ∙ ap (λ z. look z case) e ∙ konst-look n false case)

  pub says_yes_somewhere : SaysNo n g false → Within n t u → ⊥
  says_yes_somewhere e w =
      e (look_ext n g (konst n false) (pointwise-deep and_not n t u dt du) (konst-deep n false)
      (λ case h. pointwise-look and_not n t u dt du case ∙ none_left _ _ (w case h) ∙ sym (konst-look n false case)))
