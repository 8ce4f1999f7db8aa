use Rattle.std.proofs.Common.{arith, ◌∙◌}
use Rattle.chain.proofs.ChainLaws.{index-more}
use Rattle.chain.proofs.index_nodes.Goals as goal

pub loop-i-preserved : goal.loop-i-preserved
loop-i-preserved c = (c.link_node.auto.work ∙ c.loop-i.invariant.0, index-more _ _ _ _ _ c.loop-i.auto.i (omega (arith, c.requires.2, c.loop-i-test.true)) (omega (arith, c.requires.0, c.loop-i.invariant.0, c.clear.auto.work)) c.loop-i.invariant.1 c.link_node.ensures)
