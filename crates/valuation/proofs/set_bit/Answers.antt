-- `set_bit`: by an or with the mark's power of two, or an and with the other bits.
use borrow.Author.Rules.{rules}
use Rattle.theory.proofs.Masks.{or-set_bit, and-set_bit}
use Rattle.valuation.proofs.set_bit.Goals as goal

pub returns-then-value : goal.returns-then-value
returns-then-value c = or-set_bit 64 _ c.args.mask c.if-value.true c.requires (search rules)

pub returns-else-value : goal.returns-else-value
returns-else-value c = and-set_bit 64 _ c.args.mask c.if-value.false c.requires (search rules)
