-- `last_mark`: nothing, or the mark below the leading zeros.
use Rattle.valuation.proofs.Answers.{last_nothing, last_variable}
use Rattle.valuation.proofs.last_mark.Goals as goal

pub returns-then-mask-eq0 : goal.returns-then-mask-eq0
returns-then-mask-eq0 c = last_nothing _ c.if-mask-eq0.true

pub returns : goal.returns
returns c = last_variable _ c.requires c.if-mask-eq0.false
