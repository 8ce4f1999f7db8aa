use Rattle.std.proofs.Common.{sym, ◌∙◌}
use Rattle.pool.proofs.FindLaws.{above_more}
use Rattle.pool.proofs.find_node.Goals as goal

pub loop-left-preserved : goal.loop-left-preserved
loop-left-preserved c = above_more _ _ _ _ _ _ _ _ c.loop-left.invariant c.loop-left-test.true c.requires.0 (sym c.is_node.ensures ∙ c.if-is_node.false)
