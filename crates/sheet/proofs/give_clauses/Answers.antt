use Rattle.std.proofs.Common.{rules}
use Rattle.sheet.proofs.SheetLaws.{give_over, give_clauses_lem}
use Rattle.sheet.proofs.give_clauses.Goals as goal

pub returns-then-clauses-end : goal.returns-then-clauses-end
returns-then-clauses-end c = give_over c.args.header c.args.bytes.now _ _ _ c.if-clauses-end.true _ (search rules) (search rules)

pub returns : goal.returns
returns c = give_clauses_lem c.args.header c.args.bytes.now _ _ _ c.if-clauses-end.false _ _ c.fill_u64.ensures c.fill_u64.auto.out (search rules) (search rules) c.args.form c.requires.1
