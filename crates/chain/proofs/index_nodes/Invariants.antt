use Rattle.std.proofs.Common.{◌≡◌, length}
use Rattle.chain.specs.Chain.{Indexed}
use Rattle.chain.proofs.index_nodes.Given as goal

abbrev pub invariant-loop-i : goal.invariant-loop-i
invariant-loop-i l = (length l.work ≡ length l.initial.work) × Indexed l.initial.work l.work l.cap l.i
