use Rattle.std.proofs.Common.{arith, ap, length}
use Rattle.text.proofs.TextLaws.{decimal-one, decimal-more, decimal-longer}
use Rattle.text.proofs.WritingLaws.{appends_then}
use Rattle.text.proofs.Text.+put_decimal.Goals as goal

pub put_byte-requires : goal.put_byte-requires
put_byte-requires t c = omega (arith, c.requires, ap length (decimal-one _ c.if-number-lt10.true))

pub returns-then-number-lt10 : goal.returns-then-number-lt10
returns-then-number-lt10 t c = rw (decimal-one c.args.number c.if-number-lt10.true) c.put_byte.ensures

pub put_decimal-requires : goal.put_decimal-requires
put_decimal-requires t c = (omega (arith, c.if-number-lt10.false, c.decreases), omega (arith, c.requires, decimal-longer c.args.number (omega (arith, c.if-number-lt10.false))))

pub put_byte-requires-2 : goal.put_byte-requires-2
put_byte-requires-2 t c = omega (arith, c.requires, decimal-longer c.args.number (omega (arith, c.if-number-lt10.false)), c.put_decimal.ensures.end, c.put_decimal.ensures.long)

pub returns : goal.returns
returns t c = rw (decimal-more c.args.number (omega (arith, c.if-number-lt10.false))) (appends_then _ _ _ _ _ c.put_decimal.ensures c.put_byte-2.ensures)
