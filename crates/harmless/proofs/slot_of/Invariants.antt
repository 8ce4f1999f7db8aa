-- `slot_of`: a sum over the words, less than the number of slots.
use Prim.Native.Nat.{◌+◌, ◌*◌, ◌<◌}
use Rattle.harmless.proofs.slot_of.Given as goal

abbrev pub invariant-loop-word : goal.invariant-loop-word
invariant-loop-word l = l.sum < 3 * (l.function.n + 2)
