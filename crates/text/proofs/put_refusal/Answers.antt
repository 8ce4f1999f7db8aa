use Rattle.std.proofs.Common.{arith, rules, refl, ◌∙◌}
use Rattle.text.specs.Text.{refused_word, refused_text}
use Rattle.text.proofs.TextLaws.{decimal-short}
use Rattle.text.proofs.WritingLaws.{appends_then, prints}
use Rattle.text.proofs.put_refusal.Goals as goal

pub put_decimal-requires : goal.put_decimal-requires
put_decimal-requires c = omega (arith, c.requires, c.put_bytes.ensures.end, c.put_bytes.ensures.long, decimal-short c.from.result (omega arith))

pub put_byte-requires : goal.put_byte-requires
put_byte-requires c = omega (arith, c.requires, c.put_bytes.ensures.end, c.put_bytes.ensures.long, decimal-short c.from.result (omega arith), c.put_decimal.ensures.end, c.put_decimal.ensures.long)

pub put_decimal-requires-2 : goal.put_decimal-requires-2
put_decimal-requires-2 c = omega (arith, c.requires, c.put_bytes.ensures.end, c.put_bytes.ensures.long, decimal-short c.from.result (omega arith), c.put_decimal.ensures.end, c.put_decimal.ensures.long, c.put_byte.ensures.end, c.put_byte.ensures.long, decimal-short c.args.refusal.place (omega arith))

pub put_line_end-requires : goal.put_line_end-requires
put_line_end-requires c = omega (arith, c.requires, c.put_bytes.ensures.end, c.put_bytes.ensures.long, decimal-short c.from.result (omega arith), c.put_decimal.ensures.end, c.put_decimal.ensures.long, c.put_byte.ensures.end, c.put_byte.ensures.long, decimal-short c.args.refusal.place (omega arith), c.put_decimal-2.ensures.end, c.put_decimal-2.ensures.long)

pub returns : goal.returns
unfolding refused_text
returns c =
    let behind = appends_then _ _ _ _ _ c.put_byte.ensures (appends_then _ _ _ _ _ c.put_decimal-2.ensures c.put_line_end.ensures) in
    rw (← (c.from.ensures ∙ c.number.ensures)) (prints _ _ _ _ _ _ refl refl (omega (arith, c.requires, c.put_bytes.ensures.end, c.put_bytes.ensures.long, decimal-short c.from.result (omega arith), c.put_decimal.ensures.end, c.put_decimal.ensures.long, c.put_byte.ensures.end, c.put_byte.ensures.long, decimal-short c.args.refusal.place (omega arith), c.put_decimal-2.ensures.end, c.put_decimal-2.ensures.long, c.put_line_end.ensures.end, c.put_line_end.ensures.long)) (appends_then refused_word _ _ _ _ c.put_bytes.ensures (appends_then _ _ _ _ _ c.put_decimal.ensures behind)) (search rules) (search rules))
