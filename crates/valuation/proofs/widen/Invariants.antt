use Rattle.std.proofs.Common.{◌≡◌, take, length}
use Rattle.valuation.proofs.widen.Given as goal

abbrev pub invariant-loop-i : goal.invariant-loop-i
invariant-loop-i l = (take l.i l.out ≡ take l.i l.words) × (length l.out ≡ length l.words)
