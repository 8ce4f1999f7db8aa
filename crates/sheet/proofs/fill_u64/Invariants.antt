use Rattle.sheet.specs.Sheet.{header_bytes}
use Rattle.sheet.proofs.ByteLaws.{Filled}
use Rattle.sheet.proofs.fill_u64.Given as goal

abbrev pub invariant-loop-i : goal.invariant-loop-i
invariant-loop-i l = Filled 8 l.bytes header_bytes l.initial.out l.i l.out
