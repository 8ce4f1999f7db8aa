use mathlib.Core.Path.{refl}
use Rattle.join.specs.Memo.{slot_of}
use Rattle.join.proofs.MemoLaws.{slot-within}
use Rattle.join.proofs.slot.Goals as goal

pub returns : goal.returns
unfolding slot_of
returns c = (refl, slot-within _ _ _ c.requires.0)
