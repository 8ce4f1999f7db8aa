-- A canonical table is smallest, reduced, and the one table of its meaning.
use mathlib.Core.Path.{◌≡◌, ap}
use mathlib.Core.Logic.{◌↔◌}
use Prim.Native.Nat.{ℕ, ◌≤◌, ◌<◌, ◌^◌}
use lib.ListN.{length}
use Rattle.theory.specs.Tree.{Tree, Deep, look}
use Rattle.theory.specs.Table.{Table, meaning, canon, Ordered, Reduced, tree_of}
use Rattle.theory.proofs.Cases.{look_ext}
use Rattle.theory.proofs.Canon.{canon_injective}
use Rattle.theory.proofs.Reducing.{canon-reduced}
use Rattle.theory.proofs.Small.{small, tree_of-deep}

-- no ordered table over the same marks in the same order, with the same answer for every case, has fewer nodes
smallest : (n : ℕ) (f : Tree) → Deep n f → (table : Table) → Ordered n table → ((case : ℕ) → case < 2 ^ n → look (meaning n table) case ≡ look f case)
    → length (canon n f) ≤ length table
smallest n f d table ordered same = rw (ap (λ t. length (canon n t)) (agree n table f d same)) at (small n table ordered)
  where
    agree : (n : ℕ) (table : Table) (f : Tree) → Deep n f → ((case : ℕ) → case < 2 ^ n → look (meaning n table) case ≡ look f case) → meaning n table ≡ f
    agree n table f d same = unfold meaning in look_ext n (tree_of n table 0 _) f (tree_of-deep n table 0 _) d same

-- it is reduced
reduced : (n : ℕ) (f : Tree) → Deep n f → Reduced n (canon n f)
reduced n f d = canon-reduced n f d

-- two functions have one canonical table exactly if they say the same of every case
one_table : (n : ℕ) (f g : Tree) → Deep n f → Deep n g → (canon n f ≡ canon n g) ↔ ((case : ℕ) → case < 2 ^ n → look f case ≡ look g case)
one_table n f g d e = (
  (λ same case h. ap (λ t. look t case) (canon_injective n f g d e same)),
  (λ same. ap (canon n) (look_ext n f g d e same)),
)
