use mathlib.Core.Path.{sym, ◌∙◌}
use Rattle.text.proofs.TextLaws.{unset_char, one_char, zero_char}
use Rattle.text.proofs.cell_char.Goals as goal

pub returns-then-not-has_bit : goal.returns-then-not-has_bit
returns-then-not-has_bit c = unset_char _ _ _ (sym c.if-not-has_bit.true ∙ c.has_bit.ensures)

pub returns-then-has_bit : goal.returns-then-has_bit
returns-then-has_bit c = one_char _ _ _ (sym c.if-not-has_bit.false ∙ c.has_bit.ensures) (sym c.if-has_bit.true ∙ c.has_bit-2.ensures)

pub returns-else-has_bit : goal.returns-else-has_bit
returns-else-has_bit c = zero_char _ _ _ (sym c.if-not-has_bit.false ∙ c.has_bit.ensures) (sym c.if-has_bit.false ∙ c.has_bit-2.ensures)
