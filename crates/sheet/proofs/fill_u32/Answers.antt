use Rattle.std.proofs.Common.{arith}
use Rattle.sheet.proofs.ByteLaws.{filled_more}
use Rattle.sheet.proofs.fill_u32.Goals as goal

pub loop-i-preserved : goal.loop-i-preserved
loop-i-preserved c = filled_more _ _ _ _ _ _ c.loop-i.invariant (omega (arith, c.requires.0, c.loop-i-test.true)) _ c.u32_at.ensures
