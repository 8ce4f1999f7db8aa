-- What `put` rests on: each step adds to the pool what the walk adds.
use mathlib.Core.Path.{◌≡◌, refl, sym, ap, subst, ◌∙◌}
use mathlib.Core.Bool.{Bool, true, false}
use mathlib.Core.List.{List, ◌++◌, append_assoc}
use mathlib.Core.Logic.{inl, inr}
use Prim.Native.Nat.{ℕ, zero, suc, ◌+◌, ◌-◌, ◌/◌, ◌%◌, ◌<◌, ◌≤◌}
use native.Mathlib.Omega.{arith}
use native.Mathlib.Numerals.{add-one}
use lib.ListN.{length, length-append}
use Rattle.theory.specs.Tree.{Tree, fork, Deep}
use Rattle.theory.specs.Table.{Node, Table, at, step, tree_of, mk, walk, Good}
use Rattle.theory.specs.Words.{nodes}
use Rattle.theory.proofs.Step.{Stands, stands-step, step-append}
use Rattle.theory.proofs.Walk.{Walked, sound, stands_old, at_old}
use Rattle.theory.proofs.Words.{length-nodes}
use Rattle.theory.proofs.Again.{walk_again}
use Rattle.theory.proofs.Turned.{walk_stays}
use Rattle.theory.proofs.Forks.{low-over, high-over, low_walked, high_walked, fork-is, low_stands, node_walked}
use Rattle.cube.proofs.Cubes.{part-deep, part-append}
use Rattle.entries.specs.Entries.{says}
use Rattle.put.specs.declared.Job.{Job}
use Rattle.put.specs.declared.Cut.{Cut}
use Rattle.std.specs.Prelude.{Option, Some, None}
use Rattle.table.specs.declared.BddPointer.{BddPointer}
use Rattle.put.specs.declared.Side.TheVariants.{Low, High}
use Rattle.put.specs.Put.{keeps, memo_base, tree, word, word_of, Ready, Parted, Settling, Settled, Settles, Put, Puts, Forking}

tree-deep : (j : Job) (s : Table) (l a : ℕ) (off : Bool) → Deep (j.run.n - l) (tree j s l a off)
tree-deep j s l a off = part-deep (says j.form) j.clause.fixed j.clause.values s (j.run.n - l) l a off

module _ (w : List ℕ) (j : Job) (l k a : ℕ) (off : Bool) (r : Ready w j l k a) (c : Cut) (d : Parted w j l k a off c) where
  abbrev s : Table
  s = nodes k w

  abbrev v : ℕ
  v = c.variable.0

  abbrev pub T : Tree
  T = tree j s l a off

  abbrev lo_tree : Tree
  lo_tree = tree j s (suc v) c.low.0 (keeps Low c.kept)

  abbrev hi_tree : Tree
  hi_tree = tree j s (suc v) c.high.0 (keeps High c.kept)

  whole : suc v + (j.run.n - suc v) ≡ j.run.n
  whole = omega (arith, d.below)

  lo_stands : Stands s (suc v) c.low.0
  lo_stands = rw d.low (stands-step j.run.n s r.good.ordered v false a d.below d.fits)

  hi_stands : Stands s (suc v) c.high.0
  hi_stands = rw d.high (stands-step j.run.n s r.good.ordered v true a d.below d.fits)

  pub ready_lo : Ready w j (v + 1) k c.low.0
  ready_lo = record {
    marks = r.marks;
    fixed = r.fixed;
    stamp = r.stamp;
    few = r.few;
    long = r.long;
    level = omega (arith, d.below);
    fits = r.fits;
    good = r.good;
    stands = rw (add-one v) lo_stands;
    known = r.known;
    young = r.young;
    chained = r.chained;
  }

  lo_deep : Deep (j.run.n - suc v) lo_tree
  lo_deep = tree-deep j s (suc v) c.low.0 (keeps Low c.kept)

  hi_deep : Deep (j.run.n - suc v) hi_tree
  hi_deep = tree-deep j s (suc v) c.high.0 (keeps High c.kept)

  pub full_lo : j.run.cap < length (walk s (v + 1) (tree j s (v + 1) c.low.0 (keeps Low c.kept))).0 → j.run.cap < length (walk s l T).0
  full_lo h = rw d.walks (low-over j.run.n s r.good v d.below lo_tree hi_tree lo_deep hi_deep _ _ refl j.run.cap (rw (add-one v) at h))

  -- the low side is p, in w₁
  module _ (w₁ : List ℕ) (p k₁ : ℕ) (n₁ : length w₁ ≡ length w) (u : Put w w₁ j (v + 1) k c.low.0 (keeps Low c.kept) p k₁) where
    abbrev s₁ : Table
    s₁ = nodes k₁ w₁

    is₁ : walk s (suc v) lo_tree ≡ (s₁, p)
    is₁ = rw (add-one v) at u.holds.is

    sound₁ : Walked j.run.n s (j.run.n - suc v) (suc v) lo_tree (s₁, p)
    sound₁ = low_walked j.run.n s r.good v d.below lo_tree hi_tree lo_deep hi_deep s₁ p is₁

    hi_stands₁ : Stands s₁ (suc v) c.high.0
    hi_stands₁ = subst (λ (z : Table). Stands z (suc v) c.high.0) (sym sound₁.grown) (stands_old s sound₁.more (suc v) c.high.0 hi_stands)

    pub ready_hi : Ready w₁ j (v + 1) k₁ c.high.0
    ready_hi = record {
      marks = r.marks;
      fixed = r.fixed;
      stamp = r.stamp;
      few = r.few;
      long = omega (arith, r.long);
      level = omega (arith, d.below);
      fits = u.holds.fits;
      good = sound₁.good;
      stands = rw (add-one v) hi_stands₁;
      known = u.known;
      young = u.young;
      chained = u.chained;
    }

    hi_same : tree j s₁ (suc v) c.high.0 (keeps High c.kept) ≡ hi_tree
    hi_same = ap (λ (z : Table). tree j z (suc v) c.high.0 (keeps High c.kept)) sound₁.grown
        ∙ part-append (says j.form) j.clause.fixed j.clause.values j.run.n s r.good.ordered sound₁.more (j.run.n - suc v) (suc v) c.high.0 (keeps High c.kept) whole hi_stands

    pub full_hi : j.run.cap < length (walk s₁ (v + 1) (tree j s₁ (v + 1) c.high.0 (keeps High c.kept))).0 → j.run.cap < length (walk s l T).0
    full_hi h = rw d.walks (high-over j.run.n s r.good v d.below lo_tree hi_tree lo_deep hi_deep s₁ p is₁ j.run.cap (rw (add-one v, hi_same) at h))

    -- the high side is q, in w₂
    module _ (w₂ : List ℕ) (q k₂ : ℕ) (n₂ : length w₂ ≡ length w₁) (x : Put w₁ w₂ j (v + 1) k₁ c.high.0 (keeps High c.kept) q k₂) where
      abbrev s₂ : Table
      s₂ = nodes k₂ w₂

      is₂ : walk s₁ (suc v) hi_tree ≡ (s₂, q)
      is₂ = rw (add-one v, hi_same) at x.holds.is

      sound₂ : Walked j.run.n s₁ (j.run.n - suc v) (suc v) hi_tree (s₂, q)
      sound₂ = high_walked j.run.n s r.good v d.below lo_tree hi_tree lo_deep hi_deep s₁ p is₁ s₂ q is₂

      split₂ : walk s l T ≡ mk s₂ v p q
      split₂ = d.walks ∙ fork-is j.run.n s r.good v d.below lo_tree hi_tree lo_deep hi_deep s₁ p is₁ s₂ q is₂

      more₂ : Table
      more₂ = sound₁.more ++ sound₂.more

      grown₂ : s₂ ≡ s ++ more₂
      unfolding more₂
      grown₂ = sound₂.grown ∙ ap (λ (z : Table). z ++ sound₂.more) sound₁.grown ∙ append_assoc s sound₁.more sound₂.more

      a_stands : Stands s₂ v a
      a_stands = subst (λ (z : Table). Stands z v a) (sym grown₂) (stands_old s more₂ v a d.fits)

      steps : (b : Bool) → step s₂ v b a ≡ step s v b a
      steps b = ap (λ (z : Table). step z v b a) grown₂ ∙ step-append j.run.n s r.good.ordered more₂ v b a d.fits.lies

      pub settling : Settling w₂ j.run k₂ c a p q
      settling = record {
        noded = record {
          pushing = record { few = r.few; long = omega (arith, r.long); fits = x.holds.fits };
          good = sound₂.good;
          level = d.below;
          low = low_stands j.run.n s r.good v d.below lo_tree hi_tree lo_deep hi_deep s₁ p is₁ s₂ q is₂;
          high = sound₂.stands;
        };
        long = omega (arith, r.long);
        low = d.low ∙ sym (steps false);
        high = d.high ∙ sym (steps true);
        fits = a_stands;
        stamp = r.stamp;
        chained = x.chained;
      }

      pub full_node : j.run.cap < length (mk s₂ v p q).0 → j.run.cap < length (walk s l T).0
      full_node h = rw split₂ h

      -- the node over them is o, in w₃
      module _ (w₃ : List ℕ) (o k₃ : ℕ) (y : Settled w₂ w₃ j.run k₂ c a p q o k₃) where
        abbrev s₃ : Table
        s₃ = nodes k₃ w₃

        is₃ : walk s l T ≡ (s₃, o)
        is₃ = split₂ ∙ y.holds.is

        n-whole : l + (j.run.n - l) ≡ j.run.n
        n-whole = omega (arith, r.level)

        sound₃ : Walked j.run.n s (j.run.n - l) l T (s₃, o)
        sound₃ = subst (λ z. Walked j.run.n s (j.run.n - l) l T z) is₃ (sound j.run.n (j.run.n - l) T (tree-deep j s l a off) l n-whole s r.good)

        mk₃ : Walked j.run.n s₂ (suc (j.run.n - suc v)) v (fork (tree_of (j.run.n - suc v) s₂ (suc v) p) (tree_of (j.run.n - suc v) s₂ (suc v) q)) (s₃, o)
        mk₃ = node_walked j.run.n s r.good v d.below lo_tree hi_tree lo_deep hi_deep s₁ p is₁ s₂ q is₂ s₃ o y.holds.is

        pub o_small : o < k₃
        o_small = omega (arith, sound₃.stands.lies, length-nodes k₃ w₃)

        -- what a memo word says of node i in the larger pool
        Says : Table → ℕ → ℕ → Type 0
        Says z i e = walk z (at z i).mark (tree j z (at z i).mark i false) ≡ (z, e)

        mark_in_lem : (i : ℕ) → i < length s₂ → (at s₂ i).mark ≤ j.run.n
        mark_in_lem zero h = omega (arith, ap (λ (z : Node). z.mark) sound₂.good.ordered.first)
        mark_in_lem (suc zero) h = omega (arith, ap (λ (z : Node). z.mark) (sound₂.good.ordered.second h))
        mark_in_lem (suc (suc i)) h = omega (arith, sound₂.good.ordered.marks (suc (suc i)) (omega arith) h)

        -- an old word says the same
        old_says : (i e : ℕ) → i < length s₂ → Says s₂ i e → Says s₃ i e
        unfolding Says
        old_says i e h f = subst (λ (z : Table). walk z (at z i).mark (tree j z (at z i).mark i false) ≡ (z, e)) (sym mk₃.grown) go
          where
            m : ℕ
            m = (at s₂ i).mark

            go : walk (s₂ ++ mk₃.more) (at (s₂ ++ mk₃.more) i).mark (tree j (s₂ ++ mk₃.more) (at (s₂ ++ mk₃.more) i).mark i false) ≡ (s₂ ++ mk₃.more, e)
            go = rw (
              at_old s₂ mk₃.more i h,
              part-append (says j.form) j.clause.fixed j.clause.values j.run.n s₂ sound₂.good.ordered mk₃.more (j.run.n - (at s₂ i).mark) (at s₂ i).mark i false
                  (omega (arith, mark_in_lem i h)) (record { lies = h; fits = omega arith }),
            )
                (walk_stays j.run.n s₂ mk₃.more sound₂.good (subst (Good j.run.n) mk₃.grown mk₃.good) (j.run.n - (at s₂ i).mark) (at s₂ i).mark e _
                (tree-deep j s₂ (at s₂ i).mark i false) (omega (arith, mark_in_lem i h)) f)

        -- the new word says what was found
        new-says : c.own ≡ true → Says s₃ a o
        unfolding Says
        new-says own =
            let e : walk s v (tree j s v a false) ≡ (s₃, o) = sym d.to ∙ is₃ in
            let again : walk s₃ v (tree j s v a false) ≡ (s₃, o) =
            subst (λ (z : Table × ℕ). walk z.0 v (tree j s v a false) ≡ z) e (walk_again j.run.n (j.run.n - v) (tree j s v a false) (tree-deep j s v a false) v (omega (arith, d.below)) s r.good) in
            let m : (at s₃ a).mark ≡ v = ap (λ (z : Table). (at z a).mark) sound₃.grown ∙ ap (λ (z : Node). z.mark) (at_old s sound₃.more a d.fits.lies) ∙ d.owns own in
            let t : tree j s₃ v a false ≡ tree j s v a false =
            ap (λ (z : Table). tree j z v a false) sound₃.grown ∙ part-append (says j.form) j.clause.fixed j.clause.values j.run.n s r.good.ordered sound₃.more (j.run.n - v) v a false (omega (arith, d.below)) d.fits in
            rw (m, t) again

        k_more : k₂ ≤ k₃
        k_more = omega (arith, ap length mk₃.grown, length-append s₂ mk₃.more, length-nodes k₃ w₃, length-nodes k₂ w₂)

        word_div : word_of j.run.stamp o / memo_base ≡ j.run.stamp
        word_div = omega (arith, o_small, y.holds.fits, r.few)

        word_mod : word_of j.run.stamp o % memo_base ≡ o
        word_mod = omega (arith, o_small, y.holds.fits, r.few)

        a_in : a < k₃
        a_in = omega (arith, a_stands.lies, length-nodes k₂ w₂, k_more)

        pub done : Put w w₃ j l k a off o k₃
        unfolding Says
        done = record {
          holds = record { is = is₃; fits = y.holds.fits };
          known = λ i h e. elim (y.memo i h) [
            | inl q ↦
                let f = x.known i h (ap (λ z. z / memo_base) (sym q) ∙ e) in
                (omega (arith, f.0, k_more), old_says i _ (omega (arith, f.0, length-nodes k₂ w₂)) f.1 ∙ ap (λ (z : ℕ). (s₃, z % memo_base)) (sym q))
            | inr q ↦ (
              omega (arith, q.1, a_in),
              subst (λ (z : ℕ). walk s₃ (at s₃ z).mark (tree j s₃ (at s₃ z).mark z false) ≡ (s₃, word w₃ j.run.cap i % memo_base)) (sym q.1)
                  (new-says q.0 ∙ ap (λ (z : ℕ). (s₃, z)) (sym word_mod ∙ ap (λ z. z % memo_base) (sym q.2))),
            )
          ];
          young = λ i h. elim (y.memo i h) [
            | inl q ↦ subst (λ z. z / memo_base ≤ j.run.stamp) (sym q) (x.young i h)
            | inr q ↦ subst (λ z. z / memo_base ≤ j.run.stamp) (sym q.2) (omega (arith, word_div))
          ];
          chained = y.chained;
        }

      pub finish : (w₃ : List ℕ) (z : Option (BddPointer × ℕ)) → Settles w₂ w₃ j.run k₂ c a p q z → Puts w w₃ j l k a off z
      finish w₃ (Some (o, k₃)) y = done w₃ o.0 k₃ y
      finish w₃ None h = full_node h

-- what was known at once
pub put-done : (w : List ℕ) (j : Job) (l k a : ℕ) (off : Bool) (o : ℕ) → Ready w j l k a → walk (nodes k w) l (tree j (nodes k w) l a off) ≡ (nodes k w, o) → Put w w j l k a off o k
put-done w j l k a off o r e = record { holds = record { is = e; fits = r.fits }; known = r.known; young = r.young; chained = r.chained }

-- from the level of the cut
pub forking : (w : List ℕ) (j : Job) (l k a : ℕ) (off : Bool) (c : Cut) → Ready w j l k a → Parted w j l k a off c → Forking w j k a c
forking w j l k a off c r d = record {
  ready = record {
    marks = r.marks;
    fixed = r.fixed;
    stamp = r.stamp;
    few = r.few;
    long = r.long;
    level = omega (arith, d.below);
    fits = r.fits;
    good = r.good;
    stands = d.fits;
    known = r.known;
    young = r.young;
    chained = r.chained;
  };
  parted = record { from = omega arith; below = d.below; low = d.low; high = d.high; fits = d.fits; walks = sym d.to ∙ d.walks; to = refl; owns = d.owns };
}

pub lifted : (w w' : List ℕ) (j : Job) (l k a : ℕ) (off : Bool) (c : Cut) → Parted w j l k a off c → (z : Option (BddPointer × ℕ)) → Puts w w' j c.variable.0 k a false z → Puts w w' j l k a off z
lifted w w' j l k a off c d (Some (o, k₁)) u = record { holds = record { is = d.to ∙ u.holds.is; fits = u.holds.fits }; known = u.known; young = u.young; chained = u.chained }
lifted w w' j l k a off c d None h = rw d.to h

-- a side, by another name
pub sided : (w w' : List ℕ) (j : Job) (l k a : ℕ) (x y : Bool) (r k' : ℕ) → x ≡ y → Put w w' j l k a x r k' → Put w w' j l k a y r k'
sided w w' j l k a x y r k' e h = subst (λ b. Put w w' j l k a b r k') e h

pub sided_full : (w : List ℕ) (j : Job) (l k a : ℕ) (x y : Bool) → x ≡ y → j.run.cap < length (walk (nodes k w) l (tree j (nodes k w) l a x)).0 → j.run.cap < length (walk (nodes k w) l (tree j (nodes k w) l a y)).0
sided_full w j l k a x y e h = subst (λ b. j.run.cap < length (walk (nodes k w) l (tree j (nodes k w) l a b)).0) e h
