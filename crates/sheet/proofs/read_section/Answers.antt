use Rattle.std.proofs.Common.{arith}
use Rattle.sheet.proofs.SheetLaws.{reads_none, none}
use Rattle.sheet.proofs.read_section.Goals as goal

pub returns-in-4-to-15 : goal.returns-in-4-to-15
returns-in-4-to-15 c = none _ _ _ (reads_none c.args.bytes.now c.args.clauses.now c.args.nodes.now c.args.header c.requires (omega arith) (omega arith) (omega arith))

pub returns-in_default : goal.returns-in_default
returns-in_default c = none _ _ _ (reads_none c.args.bytes.now c.args.clauses.now c.args.nodes.now c.args.header c.requires (omega arith) (omega arith) (omega arith))

pub returns-in_default-2 : goal.returns-in_default-2
returns-in_default-2 c = none _ _ _ (reads_none c.args.bytes.now c.args.clauses.now c.args.nodes.now c.args.header c.requires (omega arith) (omega arith) (omega arith))
