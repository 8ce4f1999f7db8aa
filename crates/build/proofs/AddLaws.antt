-- What `compact`, `clause` and `export` rest on.
use mathlib.Core.Path.{◌≡◌, sym, ap, ap₂, subst, ◌∙◌}
use mathlib.Core.Bool.{false}
use mathlib.Core.List.{List, [], ◌∷◌}
use Prim.Native.Nat.{ℕ, suc, ◌+◌, ◌*◌, ◌-◌, ◌/◌, ◌^◌, ◌<◌, ◌≤◌}
use native.Mathlib.Omega.{arith}
use native.Mathlib.Nat.{div-one}
use native.Mathlib.Decide.{ℕ_discrete, dec_lt}
use lib.ListN.{length}
use Rattle.theory.specs.Tree.{Tree, Deep}
use Rattle.theory.specs.Table.{Node, node, Table, tree_of, walk, constants, cut, canon, Good}
use Rattle.theory.specs.Words.{node_at, nodes}
use Rattle.theory.proofs.Step.{mark-le}
use Rattle.theory.proofs.Walk.{Walked, sound}
use Rattle.theory.proofs.Canon.{constants-good}
use Rattle.theory.proofs.Words.{length-nodes, at-nodes, nodes-agree}
use Rattle.theory.proofs.Small.{tree_of-deep}
use Rattle.theory.proofs.Again.{room-canon}
use Rattle.cube.specs.Cube.{set_cube}
use Rattle.cube.proofs.Cubes.{set-deep}
use Rattle.cube.proofs.Sizes.{pool-bound, new-bound}
use Rattle.chain.specs.Chain.{Chained, Indexed}
use Rattle.std.specs.Prelude.{Option, Some, None}
use Rattle.table.specs.declared.BddPointer.{BddPointer}
use Rattle.entries.specs.Entries.{says}
use Rattle.put.specs.declared.Job.{Job}
use Rattle.put.specs.Put.{memo_base, tree, Ready, Put}
use Rattle.build.specs.declared.Goal.{Goal}
use Rattle.build.specs.Build.{carried, Carrying, Carried, Copied, Older, Compacting, fresh, Compacted, Compacts, Adding, target, Added, Adds, Exported}
use Rattle.build.proofs.CarryLaws.{jump}

-- ---- the table's size by the walk's
pub over : (n : ℕ) (t : Tree) → Deep n t → (room : ℕ) → 2 ≤ room → room < length (walk ((constants n)) 0 t).0 → room < length (canon n t)
over n t d room two h = elim (dec_lt room (length (canon n t))) [
  | yes e ↦ e
  | no e ↦ absurd (let z : length (walk ((constants n)) 0 t).0 ≤ room = (room-canon n t d room two).1 (omega arith) in omega arith)
]

pub under : (n : ℕ) (t : Tree) → Deep n t → (room : ℕ) → 2 ≤ room → length (walk ((constants n)) 0 t).0 ≤ room → length (canon n t) ≤ room
under n t d room two h = (room-canon n t d room two).0 h

-- ---- a root carried into an empty table
module _ (w out : List ℕ) (g : Goal) (k a : ℕ) (r : Compacting w out g k a) (out₀ : List ℕ) (e : nodes 2 out₀ ≡ constants g.run.n) (len : length out₀ ≡ length out) where
  abbrev s : Table
  s = nodes k w

  pub carrying : Carrying w out₀ g k 2 a
  carrying = record {
    marks = r.marks;
    stamp = r.stamp;
    few = r.few;
    small = omega (arith, r.few, r.cap);
    long = omega (arith, r.long);
    wide = omega (arith, r.wide);
    fits = r.fits;
    holds = r.some;
    pool = r.good;
    good = subst (Good g.run.n) (sym e) (constants-good g.run.n);
    lies = omega (arith, r.stands.lies, length-nodes k w);
    known = λ x h st. absurd (let z : ⊥ = omega (arith, r.older x h) in z);
    origin = λ i h l. absurd (let z : ⊥ = omega arith in z);
    young = λ x h. omega (arith, r.older x h);
  }

  pub carried-is : carried g.run.n s (nodes 2 out₀) a ≡ fresh g.run.n s a
  carried-is =
      let z : g.run.n - 0 ≡ g.run.n = omega arith in
      ap (λ (u : Table). carried g.run.n s u a) e
      ∙ sym (jump g.run.n s (constants g.run.n) (constants-good g.run.n) 0 a (omega arith) (mark-le g.run.n s r.good.ordered a r.stands.lies))
      ∙ ap (λ x. walk (constants g.run.n) 0 (tree_of x s 0 a)) z

  pub compact_full : g.room < length (carried g.run.n s (nodes 2 out₀) a).0 → g.room < length (fresh g.run.n s a).0
  compact_full h = rw carried-is at h

  module _ (w₁ out₁ : List ℕ) (o m : ℕ) (c : Carried w w₁ out₀ out₁ g k 2 a o m) where
    pub fresh-is : fresh g.run.n s a ≡ (nodes m out₁, o)
    fresh-is = sym carried-is ∙ c.holds.is

    pub compact-done : (w₂ w₃ : List ℕ) → Copied w₁ w₂ out₁ (3 * m) → Indexed w₂ w₃ g.run.cap m → Compacted w w₃ g k a o m
    compact-done w₂ w₃ p x = record {
      holds = record {
        is = fresh-is ∙ ap (λ (z : Table). (z, o)) (nodes-agree m out₁ w₃ (λ i h. sym (x.front i (omega (arith, c.holds.fits, r.cap)) ∙ p.front i h)));
        fits = c.holds.fits;
      };
      young = λ y h. subst (λ z. z / memo_base ≤ g.run.stamp) (sym (x.front (3 * g.run.cap + y) (omega arith) ∙ p.back (3 * g.run.cap + y) (omega (arith, c.holds.fits, r.cap)))) (c.young y h);
      chained = x.chained;
    }

    fresh-sound : Walked g.run.n (constants g.run.n) g.run.n 0 (tree_of g.run.n s 0 a) (nodes m out₁, o)
    fresh-sound = subst (λ z. Walked g.run.n (constants g.run.n) g.run.n 0 (tree_of g.run.n s 0 a) z) fresh-is
        (sound g.run.n g.run.n (tree_of g.run.n s 0 a) (tree_of-deep g.run.n s 0 a) 0 (omega arith) (constants g.run.n) (constants-good g.run.n))

    pub m_two : 2 ≤ m
    m_two = omega (arith, fresh-sound.good.both, length-nodes m out₁)

    pub export-zero : o ≡ 0 → Exported w out₁ g k a 1
    unfolding canon nodes
    export-zero z = record {
      table =
          let f : node_at out₁ 0 ≡ node g.run.n 0 0 = sym (at-nodes m out₁ 0 (omega (arith, m_two))) ∙ fresh-sound.good.ordered.first in
          ap (λ (x : Node). x ∷ []) f ∙ sym (ap (cut g.run.n) (fresh-is ∙ ap (λ (x : ℕ). (nodes m out₁, x)) z));
      fits = omega (arith, r.some);
    }

    pub export-more : (o ≡ 0 → ⊥) → Exported w out₁ g k a m
    unfolding canon
    export-more z = record {
      table =
          let f : o ≡ suc (o - 1) = elim (ℕ_discrete o 0) [ yes q ↦ absurd (z q) | no q ↦ omega arith ] in
          sym (ap (cut g.run.n) (fresh-is ∙ ap (λ (x : ℕ). (nodes m out₁, x)) f));
      fits = c.holds.fits;
    }

  -- the pool is small enough: this cannot be
  pub export_full : k ≤ g.room → g.room < length (carried g.run.n s (nodes 2 out₀) a).0 → ⊥
  export_full h f = omega (arith, compact_full f, pool-bound g.run.n s r.good a r.stands, length-nodes k w)

-- ---- one clause more
module _ (w out : List ℕ) (j : Job) (room k a : ℕ) (r : Adding w out j room k a) where
  abbrev s₀ : Table
  s₀ = nodes k w

  abbrev T : Tree
  T = target j s₀ a

  T-deep : Deep j.run.n T
  T-deep = set-deep (says j.form) j.clause.fixed j.clause.values j.run.n (tree_of j.run.n s₀ 0 a) (tree_of-deep j.run.n s₀ 0 a)

  pub ready : Ready w j 0 k a
  ready = record {
    marks = r.marks;
    fixed = r.fixed;
    stamp = omega (arith, r.stamp);
    few = omega (arith, r.cap, r.few);
    long = omega (arith, r.cap, r.long);
    level = omega arith;
    fits = omega (arith, r.cap, r.pool.fits);
    good = r.pool.good;
    stands = r.pool.stands;
    known = λ x h st. absurd (let z : ⊥ = omega (arith, r.pool.older x h) in z);
    young = λ x h. omega (arith, r.pool.older x h);
    chained = r.pool.chained;
  }

  tree_is : tree j s₀ 0 a false ≡ T
  tree_is =
      let z : j.run.n - 0 ≡ j.run.n = omega arith in
      ap (λ x. set_cube (says j.form) (j.clause.fixed / 2 ^ 0) (j.clause.values / 2 ^ 0) (tree_of x s₀ 0 a)) z
      ∙ ap₂ (λ x y. set_cube (says j.form) x y (tree_of j.run.n s₀ 0 a)) (div-one j.clause.fixed) (div-one j.clause.values)

  pub add_full : j.run.cap < length (walk s₀ 0 (tree j s₀ 0 a false)).0 → room < length (canon j.run.n T)
  add_full h =
      let h' : j.run.cap < length (walk s₀ 0 T).0 = rw tree_is at h in
      over j.run.n T T-deep room r.some (omega (arith, new-bound j.run.n T T-deep s₀ r.pool.good, length-nodes k w, r.cap, r.pool.fits))

  module _ (w₁ : List ℕ) (o c : ℕ) (len : length w₁ ≡ length w) (u : Put w w₁ j 0 k a false o c) where
    abbrev s₁ : Table
    s₁ = nodes c w₁

    sound₁ : Walked j.run.n s₀ j.run.n 0 T (s₁, o)
    sound₁ = subst (λ z. Walked j.run.n s₀ j.run.n 0 T z) (ap (walk s₀ 0) (sym tree_is) ∙ u.holds.is) (sound j.run.n j.run.n T T-deep 0 (omega arith) s₀ r.pool.good)

    -- the run's own walk is that of its node
    own : fresh j.run.n s₁ o ≡ walk (constants j.run.n) 0 T
    own = ap (walk (constants j.run.n) 0) sound₁.means

    pub add_small : c ≤ room → Added w w₁ j room k a o c
    add_small h = record {
      pool = record { good = sound₁.good; stands = sound₁.stands; means = sound₁.means; fits = h; older = λ x i. omega (arith, u.young x i); chained = u.chained };
      small = under j.run.n T T-deep room r.some (omega (arith, ap (λ (z : Table × ℕ). length z.0) own, pool-bound j.run.n s₁ sound₁.good o sound₁.stands, length-nodes c w₁));
    }

    module _ (g : Goal) (gn : g.run.n ≡ j.run.n) (gs : g.run.stamp ≡ j.run.stamp + 1) (gc : g.run.cap ≡ j.run.cap) (gr : g.room ≡ room) where
      pub compacting : Compacting w₁ out g c o
      compacting = record {
        marks = omega (arith, r.marks);
        stamp = omega (arith, r.stamp);
        few = omega (arith, r.cap, r.few);
        cap = omega (arith, r.cap);
        some = omega (arith, r.some);
        long = omega (arith, r.cap, r.long);
        wide = omega (arith, r.wide);
        fits = omega (arith, u.holds.fits);
        good = subst (λ (x : ℕ). Good x s₁) (sym gn) sound₁.good;
        stands = sound₁.stands;
        older = subst (λ (x : ℕ). Older w₁ x g.run.stamp) (sym gc) (λ x i. omega (arith, u.young x i));
      }

      fresh_own : fresh g.run.n s₁ o ≡ walk (constants j.run.n) 0 T
      fresh_own = ap (λ (x : ℕ). fresh x s₁ o) gn ∙ own

      pub add_done : (w₂ : List ℕ) (q m : ℕ) → Compacted w₁ w₂ g c o q m → Added w w₂ j room k a q m
      add_done w₂ q m h =
          let is : walk (constants j.run.n) 0 T ≡ (nodes m w₂, q) = sym fresh_own ∙ h.holds.is in
          let b : Walked j.run.n (constants j.run.n) j.run.n 0 T (nodes m w₂, q) =
          subst (λ z. Walked j.run.n (constants j.run.n) j.run.n 0 T z) is (sound j.run.n j.run.n T T-deep 0 (omega arith) (constants j.run.n) (constants-good j.run.n)) in
          record {
            pool = record {
              good = b.good;
              stands = b.stands;
              means = b.means;
              fits = omega (arith, h.holds.fits);
              older = subst (λ (x : ℕ). Older w₂ x (j.run.stamp + 2)) gc (λ x i. omega (arith, h.young x i));
              chained = subst (λ (x : ℕ). Chained w₂ x m) gc h.chained;
            };
            small = under j.run.n T T-deep room r.some (omega (arith, ap (λ (z : Table × ℕ). length z.0) is, length-nodes m w₂, h.holds.fits));
          }

      pub add-over : g.room < length (fresh g.run.n s₁ o).0 → room < length (canon j.run.n T)
      add-over h = over j.run.n T T-deep room r.some (omega (arith, ap (λ (z : Table × ℕ). length z.0) fresh_own))

      pub added : (w₂ : List ℕ) (z : Option (BddPointer × ℕ)) → Compacts w₁ w₂ g c o z → Adds w w₂ j room k a z
      added w₂ (Some (q, m)) h = add_done w₂ q.0 m h
      added w₂ None h = add-over h
