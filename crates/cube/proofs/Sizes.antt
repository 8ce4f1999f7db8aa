-- How many nodes: what a walk adds to any good table has its image in any ordered table of the same meaning.
use Prim.Native.Nat.{ℕ, ◌+◌, ◌-◌, ◌≤◌}
use native.Mathlib.Omega.{arith}
use lib.ListN.{length}
use Rattle.theory.specs.Tree.{Tree, Deep}
use Rattle.theory.specs.Table.{Table, tree_of, walk, constants, Ordered, Good}
use Rattle.theory.proofs.Step.{Stands}
use Rattle.theory.proofs.Walk.{Walked, sound}
use Rattle.theory.proofs.Canon.{constants-good}
use Rattle.theory.proofs.Small.{tree_of-deep, walk_images, images_small}

-- what a walk over the tree of node r of t adds to s is no more than t has
pub adds : (n : ℕ) (t s : Table) → Ordered n t → Good n s → (r : ℕ) → Stands t 0 r → length (walk s 0 (tree_of n t 0 r)).0 - length s ≤ length t - 2
adds n t s o g r w =
    images_small (length s) n t _ o (sound n n (tree_of n t 0 r) (tree_of-deep n t 0 r) 0 (omega arith) s g).good
    (walk_images (length s) n t o n 0 r (omega arith) w s g (λ i h k. absurd (omega arith)))

-- the walk of a run from the empty table has at most the nodes of any good table in which the run stands
pub pool-bound : (n : ℕ) (t : Table) → Good n t → (r : ℕ) → Stands t 0 r → length (walk ((constants n)) 0 (tree_of n t 0 r)).0 ≤ length t
pool-bound n t g r w = omega (arith, adds n t ((constants n)) g.ordered (constants-good n) r w, g.both)

-- what a walk adds to a good table belongs to the run's own table
pub new-bound : (n : ℕ) (u : Tree) → Deep n u → (s : Table) → Good n s → length (walk s 0 u).0 + 2 ≤ length s + length (walk ((constants n)) 0 u).0
new-bound n u d s g = go (walk ((constants n)) 0 u) (sound n n u d 0 (omega arith) ((constants n)) (constants-good n))
  where
    go : (r : Table × ℕ) → Walked n ((constants n)) n 0 u r → length (walk s 0 u).0 + 2 ≤ length s + length r.0
    go r a =
        let h : length (walk s 0 (tree_of n r.0 0 r.1)).0 - length s ≤ length r.0 - 2 = adds n r.0 s a.good.ordered g r.1 a.stands in
        omega (arith, (rw a.means at h), a.good.both)
