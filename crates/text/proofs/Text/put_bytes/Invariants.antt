use Rattle.std.proofs.Common.{take}
use Rattle.text.specs.Writing.{Appends}
use Rattle.text.proofs.Text.put_bytes.Given as goal

abbrev pub invariant-loop-byte : goal.invariant-loop-byte
invariant-loop-byte l = Appends (take l.byte-index l.bytes) l.initial.self l.self
