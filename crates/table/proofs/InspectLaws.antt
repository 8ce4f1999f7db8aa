-- Inspection, test by test.
use mathlib.Core.Path.{◌≡◌, refl, sym}
use mathlib.Core.Bool.{Bool, true, false, ◌||◌}
use mathlib.Core.List.{List}
use Prim.Native.Nat.{ℕ, ◌*◌, ◌≤◌}
use native.Mathlib.Omega.{arith}
use lib.Dec.{ltb}
use lib.ListN.{length}
use borrow.Author.Tests.{ltb-false}
use Rattle.theory.specs.Table.{node_ok, Ordered}
use Rattle.theory.specs.Words.{stride, nodes}
use Rattle.theory.proofs.Ordering.{ordered_of_ok, ok_of_ordered}
use Rattle.theory.proofs.Words.{length-nodes}
use Rattle.refusal.specs.Limits.{max_marks, max_nodes}
use Rattle.refusal.proofs.Firsts.{first-before, first-none}
use Rattle.std.specs.Prelude.{Result, Ok, Err}
use Rattle.refusal.specs.Told.{reply_of}
use Rattle.refusal.specs.declared.Refusal.{Refusal}
use Rattle.table.specs.declared.BddPointer.{BddPointer}
use Rattle.table.specs.Inspection.{pointer, inspection_reply, inspected, over_limit, too_short, first_bad}

pub or_false : (a b : Bool) → false ≡ a || b → (false ≡ a) × (false ≡ b)
or_false true b e = (e, sym (true_b b e))
  where
    true_b : (b : Bool) → false ≡ true → b ≡ false
    true_b true e = sym e
    true_b false e = refl
or_false false b e = (refl, e)

-- what a table within the limits shows
pub record Within (n count : ℕ) : Type 0 where
  pub marks : n ≤ max_marks
  pub some : 1 ≤ count
  pub few : count ≤ max_nodes

pub within : (n count : ℕ) → false ≡ over_limit n count → Within n count
unfolding over_limit
within n count e =
    let a : (false ≡ ltb max_marks n || ltb count 1) × (false ≡ ltb max_nodes count) = or_false _ _ e in
    let b : (false ≡ ltb max_marks n) × (false ≡ ltb count 1) = or_false _ _ a.0 in
    record { marks = ltb-false _ _ (sym b.0); some = ltb-false _ _ (sym b.1); few = ltb-false _ _ (sym a.1) }

pub long : (count : ℕ) (w : List ℕ) → false ≡ too_short count w → stride * count ≤ length w
unfolding too_short
long count w e = ltb-false _ _ (sym e)

module _ (n count : ℕ) (w : List ℕ) where
  -- the first bad node is none exactly if the table is ordered
  pub none_bad : 1 ≤ count → count ≤ first_bad n count w → Ordered n (nodes count w)
  unfolding first_bad
  none_bad some h =
      ordered_of_ok n (nodes count w) (omega (arith, length-nodes count w))
      (λ i k. first-before (node_ok n (nodes count w)) count i (omega (arith, length-nodes count w)))

  pub bad_none : Ordered n (nodes count w) → first_bad n count w ≡ count
  unfolding first_bad
  bad_none o = first-none (node_ok n (nodes count w)) count (λ j k. ok_of_ordered n (nodes count w) o j (omega (arith, length-nodes count w)))

pub inspected_reply : (r : Result BddPointer Refusal) → inspection_reply (inspected r) ≡ reply_of pointer r
unfolding inspection_reply
inspected_reply (Ok p) = refl
inspected_reply (Err q) = refl
