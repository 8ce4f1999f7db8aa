use Rattle.theory.specs.Words.{nodes}
use Rattle.carry.proofs.WholeLaws.{as_restricted}
use Rattle.carry.proofs.restrict.Goals as goal

pub returns : goal.returns
returns c = as_restricted c.args.table.n (nodes c.args.table.count c.args.table.words.now) c.args.room c.carry_table.new.out c.carry_table.result c.args.variable.0 c.args.value (rw (c.at-way.ensures, c.plain.ensures) at c.carry_table.ensures)
