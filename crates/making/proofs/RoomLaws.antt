-- Room and work, test by test.
use mathlib.Core.Path.{◌≡◌, sym}
use mathlib.Core.Bool.{false}
use mathlib.Core.List.{List}
use Prim.Native.Nat.{ℕ, ◌*◌, ◌≤◌}
use lib.Dec.{ltb}
use lib.ListN.{length}
use borrow.Author.Tests.{ltb-false}
use Rattle.theory.specs.Words.{stride}
use Rattle.refusal.specs.Limits.{min_room, max_nodes, plain_work}
use Rattle.table.proofs.InspectLaws.{or_false}
use Rattle.making.specs.Room.{over_room, short_output, short_work}

-- what a room within the limits shows
pub record Roomy (room : ℕ) : Type 0 where
  pub some : min_room ≤ room
  pub few : room ≤ max_nodes

pub roomy : (room : ℕ) → false ≡ over_room room → Roomy room
unfolding over_room
roomy room e =
    let a : (false ≡ ltb room min_room) × (false ≡ ltb max_nodes room) = or_false _ _ e in
    record { some = ltb-false _ _ (sym a.0); few = ltb-false _ _ (sym a.1) }

pub output-long : (room : ℕ) (out : List ℕ) → false ≡ short_output room out → stride * room ≤ length out
unfolding short_output
output-long room out e = ltb-false _ _ (sym e)

pub work_long : (widest : ℕ) (work : List ℕ) → false ≡ short_work widest work → plain_work widest ≤ length work
unfolding short_work
work_long widest work e = ltb-false _ _ (sym e)
