use Rattle.std.proofs.Common.{rules}
use Rattle.sheet.proofs.SheetLaws.{give_table_lem}
use Rattle.sheet.proofs.give_table.Goals as goal

pub returns : goal.returns
returns c = give_table_lem c.args.header c.args.bytes.now _ _ _ _ _ c.requires.1 c.fill_u32.ensures c.fill_u32.auto.out (search rules) (search rules)
