-- The canonical table is reduced.
use mathlib.Core.Path.{◌≡◌, ap}
use mathlib.Core.Logic.{⊎_elim}
use mathlib.Core.List.{[], ◌∷◌}
use Prim.Native.Nat.{ℕ, zero, suc, ◌-◌, ◌≤◌, ◌<◌}
use native.Mathlib.Omega.{arith}
use lib.ListN.{length}
use Rattle.theory.specs.Tree.{Tree, Deep}
use Rattle.theory.specs.Table.{node, Table, tree_of, constants, cut, canon, Reachable, Reduced}
use Rattle.theory.proofs.Canon.{Canonical, canonical, constants-good, false_ordered}
use Rattle.theory.proofs.Reach.{Comes, walk_from, reached}

-- one node alone has none from 2 up
false_reduced : (n : ℕ) → Reduced n (node n 0 0 ∷ [])
false_reduced n = record {
  ordered = false_ordered n;
  apart = λ i h k. absurd (omega arith);
  once = λ i j h l k. absurd (omega arith);
  reachable = λ i h k. absurd (omega arith);
}

module _ (n : ℕ) (t : Tree) where
  reduced-cut : (r : Table × ℕ) → Canonical n t r → ((j : ℕ) → 2 ≤ j → j < length r.0 → Comes n r.0 n 0 t j) → Reduced n (cut n r)
  reduced-cut (s, zero) m f = false_reduced n
  reduced-cut (s, suc p) m f = record {
    ordered = m.sound.good.ordered;
    apart = m.sound.good.apart;
    once = λ i j h l k e. omega (arith, m.sound.good.once i j (omega arith) h k (omega arith) e);
    reachable = λ i h k. there i k (rw (← m.sound.means) at (f i h k));
  }
    where
      root : length s - 1 ≡ suc p
      root = ⊎_elim (λ h. omega (arith, ap length (m.plain h))) (λ h. omega arith) m.root

      there : (i : ℕ) → i < length s → Comes n s n 0 (tree_of n s 0 (suc p)) i → Reachable n s i
      there i k a = record {
        depth = a.d;
        case = a.c;
        arrives = rw root (reached n s m.sound.good n 0 (suc p) i (omega arith) m.sound.stands k a);
      }

  pub canon-reduced : Deep n t → Reduced n (canon n t)
  unfolding canon
  canon-reduced d = reduced-cut _ (canonical n t d) (walk_from n n t d 0 (omega arith) (constants n) (constants-good n))
