use Rattle.std.proofs.Common.{◌≡◌, ◌∙◌, [], ap, length, rules, arith}
use Rattle.theory.specs.Clause.{marks_of}
use Rattle.theory.proofs.Marks.{marks_of-zero}
use Rattle.valuation.specs.Marks.{mask_bits, marks_left}
use Rattle.valuation.proofs.MarkLaws.{left_first}
use Rattle.valuation.proofs.MarksIterator.next.Goals as goal

pub returns-then-self-eq0-clause-steps : goal.returns-then-self-eq0-clause-steps
returns-then-self-eq0-clause-steps c =
    let none : marks_left c.args.self.now ≡ [] = ap (marks_of mask_bits) c.if-self-eq0.true ∙ marks_of-zero mask_bits in
    (none, none)

pub returns-clause-steps : goal.returns-clause-steps
returns-clause-steps c = left_first _ (search rules) c.if-self-eq0.false _ c.set_bit-self.ensures

pub returns-clause-goes : goal.returns-clause-goes
returns-clause-goes c = record { on = λ b. (tt, tt, omega (arith, ap length (returns-clause-steps c))); keeps = tt; rests = λ b. tt }
