use Rattle.std.proofs.Common.{arith}
use Rattle.join.proofs.MemoLaws.{pushed_at, stores_at}
use Rattle.join.proofs.remember.Goals as goal

pub returns : goal.returns
returns c =
    stores_at _ _ _ _ _ c.slot-from.ensures.0 c.requires.0 c.requires.3 _
    (pushed_at _ _ _ _ _ (omega (arith, c.slot-from.ensures.1)) (omega arith) c.copy_within.ensures.len c.copy_within.ensures.by_index)
