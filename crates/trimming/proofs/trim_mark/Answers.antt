-- `trim_mark`: positive, negative, or neither.
use Rattle.trimming.proofs.TrimLaws.{positive, negative, neither}
use Rattle.trimming.proofs.trim_mark.Goals as goal

pub returns-then-is_spare : goal.returns-then-is_spare
returns-then-is_spare c = positive _ _ _ _ _ c.is_spare.ensures c.if-is_spare.true _ c.clear_literals.ensures

pub returns-then-is_spare-2 : goal.returns-then-is_spare-2
returns-then-is_spare-2 c = negative _ _ _ _ _ c.is_spare.ensures c.if-is_spare.false _ c.is_spare-2.ensures c.if-is_spare-2.true _ c.clear_literals-then-is_spare-2.ensures

pub returns-else-is_spare-2 : goal.returns-else-is_spare-2
returns-else-is_spare-2 c = neither _ _ _ _ _ c.is_spare.ensures c.if-is_spare.false _ c.is_spare-2.ensures c.if-is_spare-2.false
