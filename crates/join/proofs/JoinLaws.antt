-- The descent: each step adds to the table what the walk adds.
use mathlib.Core.Path.{◌≡◌, refl, sym, ap, subst, ◌∙◌}
use mathlib.Core.Logic.{◌⊎◌, inl, inr}
use mathlib.Core.List.{List, [], ◌∷◌, ◌++◌, append-nil}
use Prim.Native.Nat.{ℕ, suc, ◌+◌, ◌-◌, ◌<◌, ◌≤◌}
use native.Mathlib.Omega.{arith}
use native.Mathlib.Numerals.{add-one}
use native.Mathlib.Decide.{ℕ_discrete}
use lib.ListN.{length, length-append}
use Rattle.theory.specs.Tree.{Tree, fork, Deep}
use Rattle.theory.specs.Table.{node, Table, find, grow, mk, walk, Ordered, Good}
use Rattle.theory.specs.Words.{nodes}
use Rattle.theory.proofs.Step.{Stands}
use Rattle.theory.proofs.Find.{Fresh, Present, grow-cases, mk-same, mk-other}
use Rattle.theory.proofs.Walk.{Walked, sound}
use Rattle.theory.proofs.Words.{length-nodes}
use Rattle.theory.proofs.Forks.{low-over, high-over, low_walked, high_walked, fork-is, low_stands}
use Rattle.refusal.specs.Limits.{max_nodes}
use Rattle.pool.specs.Pool.{Noding, Holds}
use Rattle.join.specs.declared.Job.{Job}
use Rattle.join.specs.declared.Cut.{Cut}
use Rattle.join.specs.Task.{Task, pair_tree, top, Means}
use Rattle.join.specs.Memo.{ways, Stores}
use Rattle.join.specs.Joining.{task_of, Splitting, Knows, Has, Parted, Joining, Ready, Standing, Joined}
use Rattle.join.proofs.PairLaws.{tree-deep, top_most, means_old, means-new}
use Rattle.join.proofs.SplitLaws.{node-few}

-- a node made or found lies in the table, which grows only
pub record Grown (s : Table) (z : Table × ℕ) : Type 0 where
  pub more : Table
  pub grown : z.0 ≡ s ++ more
  pub lies : z.1 < length z.0

pub mk-grown : (s : Table) (l p q : ℕ) → p < length s → Grown s (mk s l p q)
mk-grown s l p q h = elim (ℕ_discrete p q) [
  | yes e ↦ rw (← e, mk-same s l p) (record { more = []; grown = sym (append-nil s); lies = h })
  | no e ↦ rw (mk-other s l p q e) (go (grow-cases s (node l p q)))
]
  where
    go : Fresh s (node l p q) ⊎ Present s (node l p q) → Grown s (grow s (node l p q), find s (node l p q))
    go (inl f) = rw (f.table, f.place) (record { more = node l p q ∷ []; grown = refl; lies = omega (arith, length-append s (node l p q ∷ [])) })
    go (inr f) = rw f.table (record { more = []; grown = sym (append-nil s); lies = f.place })

-- ---- the descent over the same input
abbrev pub Same : List ℕ → List ℕ → Job → List ℕ → List ℕ → Job → Type 0
Same a b j a₁ b₁ j₁ = (a₁ ≡ a) × (b₁ ≡ b) × (j₁ ≡ j)

pub turned-back : (a b a₁ b₁ : List ℕ) (j j₁ : Job) → Same a b j a₁ b₁ j₁ → Same a₁ b₁ j₁ a b j
turned-back a b a₁ b₁ j j₁ e = (sym e.0, sym e.1, sym e.2)

same_input : (a b out m : List ℕ) (j : Job) (k : ℕ) (a₁ b₁ : List ℕ) (j₁ : Job) → Same a b j a₁ b₁ j₁ → Ready a₁ b₁ out m j₁ k → Ready a b out m j k
same_input a b out m j k a₁ b₁ j₁ e r = subst (λ i. Ready a b out m i k) e.2 (subst (λ w. Ready a w out m j₁ k) e.1 (subst (λ w. Ready w b₁ out m j₁ k) e.0 r))

pub joining : (a b out m : List ℕ) (j : Job) (k : ℕ) → Ready a b out m j k → (l x y : ℕ) → Standing a b j l x y → Joining a b out m j l k x y
joining a b out m j k r l x y h = record { operands = r.operands; few = r.few; pushing = r.pushing; good = r.good; left = h.0; right = h.1; known = r.known }

joined_from : (a b out out₁ m₁ : List ℕ) (j : Job) (l k k₁ x y p : ℕ) → Ready a b out₁ m₁ j k₁ → walk (nodes k out) l (pair_tree (task_of a b j) l x y) ≡ (nodes k₁ out₁, p) → Joined a b out out₁ m₁ j l k x y p k₁
joined_from a b out out₁ m₁ j l k k₁ x y p r e = record { holds = record { is = e; fits = r.pushing.fits }; known = r.known }

-- the whole descent, its slices as they are in the end
pub joined_end : (a b out a₁ b₁ out₁ m₁ : List ℕ) (j j₁ : Job) (l k k₁ x y p : ℕ) → Same a b j a₁ b₁ j₁ → Ready a₁ b₁ out₁ m₁ j₁ k₁
    → walk (nodes k out) l (pair_tree (task_of a b j) l x y) ≡ (nodes k₁ out₁, p) → (out' m' : List ℕ) → out' ≡ out₁ → m' ≡ m₁ → Joined a b out out' m' j l k x y p k₁
joined_end a b out a₁ b₁ out₁ m₁ j j₁ l k k₁ x y p same r e out' m' eo em = rw (eo, em) (joined_from a b out out₁ m₁ j l k k₁ x y p (same_input a b out₁ m₁ j k₁ a₁ b₁ j₁ same r) e)

module _ (a b out m : List ℕ) (j : Job) (l k x y : ℕ) (r : Joining a b out m j l k x y) where
  abbrev T : Task
  T = task_of a b j

  abbrev n : ℕ
  n = j.n

  abbrev s : Table
  s = nodes k out

  oa : Ordered n (nodes j.left.count a)
  oa = r.operands.left.ordered

  ob : Ordered n (nodes j.right.count b)
  ob = r.operands.right.ordered

  from-top : l ≤ top T x y
  from-top = omega (arith, r.left.fits, r.right.fits)

  pub splitting : Splitting a b m j x y
  splitting = record {
    operands = r.operands;
    x_in = omega (arith, r.left.lies, length-nodes j.left.count a);
    y_in = omega (arith, r.right.lies, length-nodes j.right.count b);
  }

  -- what was known at once
  pub known_walks : (o : ℕ) → Has T m x y o → walk s l (pair_tree T l x y) ≡ (s, o)
  known_walks o h = h s r.good r.known l from-top

  module _ (c : Cut) (d : Parted T x y c) where
    abbrev v : ℕ
    v = c.level.0

    abbrev low-tree : Tree
    low-tree = pair_tree T (suc v) c.low.left.0 c.low.right.0

    abbrev high-tree : Tree
    high-tree = pair_tree T (suc v) c.high.left.0 c.high.right.0

    low-deep : Deep (n - suc v) low-tree
    low-deep = tree-deep T oa ob (suc v) c.low.left.0 c.low.right.0

    high-deep : Deep (n - suc v) high-tree
    high-deep = tree-deep T oa ob (suc v) c.high.left.0 c.high.right.0

    pub deeper : n - (v + 1) < n - l
    deeper = omega (arith, d.below, d.from, from-top)

    pub next_fits : v + 1 ≤ n
    next_fits = omega (arith, d.below)

    pub low-stands : Standing a b j (v + 1) c.low.left.0 c.low.right.0
    low-stands = (rw (add-one v) d.low-left, rw (add-one v) d.low-right)

    split-walk : walk s l (pair_tree T l x y) ≡ walk s v (fork low-tree high-tree)
    split-walk = d.walks s r.good l from-top ∙ ap (walk s v) d.forks

    pub low_full : j.room < length (walk s (v + 1) (pair_tree T (v + 1) c.low.left.0 c.low.right.0)).0 → j.room < length (walk s l (pair_tree T l x y)).0
    low_full h = rw split-walk (low-over n s r.good v d.below low-tree high-tree low-deep high-deep _ _ refl j.room (rw (add-one v) at h))

    -- the low pair is p
    module _ (a₁ b₁ out₁ m₁ : List ℕ) (j₁ : Job) (k₁ p : ℕ) (input₁ : Same a b j a₁ b₁ j₁) (ready₁ : Ready a₁ b₁ out₁ m₁ j₁ k₁) (low : walk s (v + 1) (pair_tree T (v + 1) c.low.left.0 c.low.right.0) ≡ (nodes k₁ out₁, p)) where
      u : Joined a b out out₁ m₁ j (v + 1) k c.low.left.0 c.low.right.0 p k₁
      u = joined_from a b out out₁ m₁ j (v + 1) k k₁ c.low.left.0 c.low.right.0 p (same_input a b out₁ m₁ j k₁ a₁ b₁ j₁ input₁ ready₁) low

      abbrev s₁ : Table
      s₁ = nodes k₁ out₁

      is₁ : walk s (suc v) low-tree ≡ (s₁, p)
      is₁ = rw (add-one v) at u.holds.is

      walked₁ : Walked n s (n - suc v) (suc v) low-tree (s₁, p)
      walked₁ = low_walked n s r.good v d.below low-tree high-tree low-deep high-deep s₁ p is₁

      pub high-stands : Standing a₁ b₁ j₁ (v + 1) c.high.left.0 c.high.right.0
      high-stands = rw (input₁.0, input₁.1, input₁.2) (rw (add-one v) d.high-left, rw (add-one v) d.high-right)

      pub deeper_still : j₁.n - (v + 1) < n - l
      deeper_still = rw input₁.2 deeper

      pub high_full : j₁.room < length (walk s₁ (v + 1) (pair_tree (task_of a₁ b₁ j₁) (v + 1) c.high.left.0 c.high.right.0)).0 → j.room < length (walk s l (pair_tree T l x y)).0
      high_full h =
          let over : j.room < length (walk s₁ (v + 1) (pair_tree T (v + 1) c.high.left.0 c.high.right.0)).0 = rw (input₁.0, input₁.1, input₁.2) at h in
          rw split-walk (high-over n s r.good v d.below low-tree high-tree low-deep high-deep s₁ p is₁ j.room (rw (add-one v) at over))

      -- the high pair is q
      module _ (a₂ b₂ out₂ m₂ : List ℕ) (j₂ : Job) (k₂ q : ℕ) (input₂ : Same a₁ b₁ j₁ a₂ b₂ j₂) (ready₂ : Ready a₂ b₂ out₂ m₂ j₂ k₂)
          (high : walk s₁ (v + 1) (pair_tree (task_of a₁ b₁ j₁) (v + 1) c.high.left.0 c.high.right.0) ≡ (nodes k₂ out₂, q)) where
        input : Same a b j a₂ b₂ j₂
        input = (input₂.0 ∙ input₁.0, input₂.1 ∙ input₁.1, input₂.2 ∙ input₁.2)

        now₂ : Ready a b out₂ m₂ j k₂
        now₂ = same_input a b out₂ m₂ j k₂ a₂ b₂ j₂ input ready₂

        w : Joined a b out₁ out₂ m₂ j (v + 1) k₁ c.high.left.0 c.high.right.0 q k₂
        w = joined_from a b out₁ out₂ m₂ j (v + 1) k₁ k₂ c.high.left.0 c.high.right.0 q now₂ (rw (input₁.0, input₁.1, input₁.2) at high)

        abbrev s₂ : Table
        s₂ = nodes k₂ out₂

        is₂ : walk s₁ (suc v) high-tree ≡ (s₂, q)
        is₂ = rw (add-one v) at w.holds.is

        walked₂ : Walked n s₁ (n - suc v) (suc v) high-tree (s₂, q)
        walked₂ = high_walked n s r.good v d.below low-tree high-tree low-deep high-deep s₁ p is₁ s₂ q is₂

        split_walk₂ : walk s l (pair_tree T l x y) ≡ mk s₂ v p q
        split_walk₂ = split-walk ∙ fork-is n s r.good v d.below low-tree high-tree low-deep high-deep s₁ p is₁ s₂ q is₂

        low-stands₂ : Stands s₂ (suc v) p
        low-stands₂ = low_stands n s r.good v d.below low-tree high-tree low-deep high-deep s₁ p is₁ s₂ q is₂

        pub noding : Noding out₂ j₂.n j₂.room k₂ v p q
        noding = subst (λ (i : Job). Noding out₂ i.n i.room k₂ v p q) (sym input.2) (record { pushing = now₂.pushing; good = walked₂.good; level = d.below; low = low-stands₂; high = walked₂.stands })

        pub full_node : j₂.room < length (mk s₂ v p q).0 → j.room < length (walk s l (pair_tree T l x y)).0
        full_node h = rw (split_walk₂, ← input.2) h

        -- the node is o
        module _ (out₃ : List ℕ) (o k₃ : ℕ) (held : Holds (mk s₂ v p q) j₂.room out₃ o k₃) (n₃ : length out₃ ≡ length out₂) where
          h : Holds (mk s₂ v p q) j.room out₃ o k₃
          h = subst (λ (i : Job). Holds (mk s₂ v p q) i.room out₃ o k₃) input.2 held

          abbrev s₃ : Table
          s₃ = nodes k₃ out₃

          pub is₃ : walk s l (pair_tree T l x y) ≡ (s₃, o)
          is₃ = split_walk₂ ∙ h.is

          own : walk s v (pair_tree T v c.pair.left.0 c.pair.right.0) ≡ (s₃, o)
          own = sym (d.walks s r.good l from-top) ∙ is₃

          grown₃ : Grown s₂ (s₃, o)
          grown₃ = subst (Grown s₂) h.is (mk-grown s₂ v p q low-stands₂.lies)

          good₃ : Good n s₃
          good₃ =
              let within : l ≤ n = omega (arith, from-top, top_most T oa ob x y r.left.lies) in
              subst (λ (z : Table × ℕ). Good n z.0) is₃ (sound n (n - l) (pair_tree T l x y) (tree-deep T oa ob l x y) l (omega arith) s r.good).good

          pub remember-asks : (ways ≤ length m₂) × (c.pair.left.0 < max_nodes) × (c.pair.right.0 < max_nodes) × (o < max_nodes)
          remember-asks = (
            omega (arith, now₂.operands.slots, r.operands.right.some),
            node-few n j.left.count a r.operands.left c.pair.left.0 (omega (arith, d.left_in, length-nodes j.left.count a)),
            node-few n j.right.count b r.operands.right c.pair.right.0 (omega (arith, d.right_in, length-nodes j.right.count b)),
            omega (arith, grown₃.lies, length-nodes k₃ out₃, h.fits, r.few),
          )

          older : (x' y' r' : ℕ) → x' < length T.left.table → Means T s₂ x' y' r' → Means T s₃ x' y' r'
          older x' y' r' hx g = subst (λ (z : Table). Means T z x' y' r') (sym grown₃.grown) (means_old T oa ob s₂ grown₃.more walked₂.good x' y' r' hx g)

          knows : (m₃ : List ℕ) → Stores m₂ m₃ c.pair.left.0 c.pair.right.0 o → Knows T m₃ s₃
          knows m₃ stores x' y' r' hx hy g =
              elim (stores x' y' r' (omega (arith, now₂.operands.slots, d.right_in, length-nodes j.right.count b)) (omega (arith, now₂.operands.slots, length-nodes j.right.count b)) g) [
                | inl e ↦ rw (e.0, e.1, e.2) (means-new T oa ob s r.good c.pair.left.0 c.pair.right.0 v d.left_in d.level (s₃, o) own)
                | inr old ↦ older x' y' r' hx (w.known x' y' r' hx hy old)
              ]

          ready₃ : (m₃ : List ℕ) → length m₃ ≡ length m₂ → Knows T m₃ s₃ → Ready a₂ b₂ out₃ m₃ j₂ k₃
          ready₃ m₃ e known = same_input a₂ b₂ out₃ m₃ j₂ k₃ a b j (turned-back a b a₂ b₂ j j₂ input) (record {
            operands = record { left = r.operands.left; right = r.operands.right; slots = omega (arith, now₂.operands.slots) };
            few = r.few;
            pushing = record { few = now₂.pushing.few; long = omega (arith, now₂.pushing.long); fits = h.fits };
            good = good₃;
            known = known;
          })

          -- the node made, the memory as it was
          pub made_ready : Ready a₂ b₂ out₃ m₂ j₂ k₃
          made_ready = ready₃ m₂ refl (λ x' y' r' hx hy g. older x' y' r' hx (w.known x' y' r' hx hy g))

          -- and kept
          pub kept_ready : (m₃ : List ℕ) → length m₃ ≡ length m₂ → Stores m₂ m₃ c.pair.left.0 c.pair.right.0 o → Ready a₂ b₂ out₃ m₃ j₂ k₃
          kept_ready m₃ e stores = ready₃ m₃ e (knows m₃ stores)
