use Rattle.std.proofs.Common.{false}
use Rattle.theory.specs.Words.{nodes}
use Rattle.carry.proofs.WholeLaws.{as_exchanged}
use Rattle.carry.proofs.exchange.Goals as goal

pub returns : goal.returns
returns c = as_exchanged c.args.table.n (nodes c.args.table.count c.args.table.words.now) c.args.room c.carry_table.new.out c.carry_table.result false (rw (c.exchanged-way.ensures, c.plain.ensures) at c.carry_table.ensures)
