use Rattle.std.proofs.Common.{arith}
use Rattle.pool.proofs.PoolLaws.{low_in, high_in, node-same, node_hit, node_pushed}
use Rattle.pool.proofs.make_node.Goals as goal

pub returns-then-low-high-clause-answers : goal.returns-then-low-high-clause-answers
returns-then-low-high-clause-answers c = node-same _ _ _ _ _ _ _ c.requires c.if-low-high.true

pub find_node-requires : goal.find_node-requires
find_node-requires c = (omega (arith, c.requires.pushing.long, c.requires.pushing.fits), low_in _ _ _ _ _ _ _ c.requires, high_in _ _ _ _ _ _ _ c.requires)

pub returns-in-Some-clause-answers : goal.returns-in-Some-clause-answers
returns-in-Some-clause-answers c = node_hit _ _ _ _ _ _ _ c.requires c.if-low-high.false c.in-Some.p.0 c.in-Some.ensures

pub returns-clause-answers : goal.returns-clause-answers
returns-clause-answers c = node_pushed _ _ _ _ _ _ _ c.requires c.if-low-high.false c.in_default.ensures c.push_node.new.bdd c.push_node.result c.push_node.ensures.answers
