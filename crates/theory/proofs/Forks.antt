-- A walk over a fork in its three steps: the low side, the high side, the node over both.
use mathlib.Core.Path.{◌≡◌, sym, ap, subst, ◌∙◌}
use Prim.Native.Nat.{ℕ, suc, ◌+◌, ◌-◌, ◌<◌}
use native.Mathlib.Omega.{arith}
use lib.ListN.{length}
use Rattle.theory.specs.Tree.{Tree, fork, Deep}
use Rattle.theory.specs.Table.{Table, tree_of, mk, walk, Good}
use Rattle.theory.proofs.Step.{Stands, tree_of-append}
use Rattle.theory.proofs.Walk.{Walked, sound, stands_old, mk-sound}
use Rattle.theory.proofs.Again.{walk_grows}
use Rattle.theory.proofs.Turned.{mk_grows, walk-fork}

module _ (n : ℕ) (s : Table) (good : Good n s) (v : ℕ) (below : v < n) (lo hi : Tree) (lo_deep : Deep (n - suc v) lo) (hi_deep : Deep (n - suc v) hi) where
  whole : suc v + (n - suc v) ≡ n
  whole = omega arith

  module _ (s₁ : Table) (p : ℕ) (is₁ : walk s (suc v) lo ≡ (s₁, p)) where
    pub low_walked : Walked n s (n - suc v) (suc v) lo (s₁, p)
    low_walked = subst (Walked n s (n - suc v) (suc v) lo) is₁ (sound n (n - suc v) lo lo_deep (suc v) whole s good)

    -- where a side has no room, the fork has none
    pub high-over : (room : ℕ) → room < length (walk s₁ (suc v) hi).0 → room < length (walk s v (fork lo hi)).0
    high-over room h = rw (walk-fork s v lo hi s₁ p is₁) (omega (arith, mk_grows (walk s₁ (suc v) hi).0 v p (walk s₁ (suc v) hi).1))

    pub low-over : (room : ℕ) → room < length s₁ → room < length (walk s v (fork lo hi)).0
    low-over room h = high-over room (omega (arith, walk_grows n (n - suc v) hi hi_deep (suc v) whole s₁ low_walked.good))

    module _ (s₂ : Table) (q : ℕ) (is₂ : walk s₁ (suc v) hi ≡ (s₂, q)) where
      pub high_walked : Walked n s₁ (n - suc v) (suc v) hi (s₂, q)
      high_walked = subst (Walked n s₁ (n - suc v) (suc v) hi) is₂ (sound n (n - suc v) hi hi_deep (suc v) whole s₁ low_walked.good)

      pub fork-is : walk s v (fork lo hi) ≡ mk s₂ v p q
      fork-is = walk-fork s v lo hi s₁ p is₁ ∙ ap (λ (z : Table × ℕ). mk z.0 v p z.1) is₂

      pub low_stands : Stands s₂ (suc v) p
      low_stands = subst (λ (z : Table). Stands z (suc v) p) (sym high_walked.grown) (stands_old s₁ high_walked.more (suc v) p low_walked.stands)

      pub low-means : tree_of (n - suc v) s₂ (suc v) p ≡ lo
      low-means =
          ap (λ (z : Table). tree_of (n - suc v) z (suc v) p) high_walked.grown
          ∙ tree_of-append n s₁ low_walked.good.ordered high_walked.more (n - suc v) (suc v) p whole low_walked.stands
          ∙ low_walked.means

      pub node_walked : (s₃ : Table) (e : ℕ) → mk s₂ v p q ≡ (s₃, e)
          → Walked n s₂ (suc (n - suc v)) v (fork (tree_of (n - suc v) s₂ (suc v) p) (tree_of (n - suc v) s₂ (suc v) q)) (s₃, e)
      node_walked s₃ e is₃ =
          subst (Walked n s₂ (suc (n - suc v)) v (fork (tree_of (n - suc v) s₂ (suc v) p) (tree_of (n - suc v) s₂ (suc v) q))) is₃
          (mk-sound n s₂ high_walked.good (n - suc v) v p q whole low_stands high_walked.stands)
