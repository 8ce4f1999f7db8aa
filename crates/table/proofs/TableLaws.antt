-- What is known of a sound table's nodes.
use mathlib.Core.Path.{ap}
use mathlib.Core.List.{List}
use Prim.Native.Nat.{ℕ, ◌≤◌, ◌<◌}
use native.Mathlib.Omega.{arith}
use Rattle.theory.specs.Table.{Node}
use Rattle.theory.specs.Words.{node_at, nodes}
use Rattle.theory.proofs.Step.{mark-le}
use Rattle.theory.proofs.Words.{at-nodes, length-nodes}
use Rattle.refusal.specs.Limits.{max_marks}
use Rattle.table.specs.Inspection.{SoundTable}

pub sound_mark : (n count : ℕ) (w : List ℕ) (root : ℕ) → SoundTable n count w root → (p : ℕ) → p < count → (node_at w p).mark ≤ max_marks
sound_mark n count w root t p h = omega (arith, ap (λ (x : Node). x.mark) (at-nodes count w p h), t.marks, mark-le n (nodes count w) t.ordered p (omega (arith, length-nodes count w, h)))

pub root_lies : (n count : ℕ) (w : List ℕ) (root : ℕ) → SoundTable n count w root → root < count
root_lies n count w root t = omega (arith, t.last, t.some)
