use Rattle.std.proofs.Common.{arith, Some, None}
use Rattle.pool.proofs.PoolLaws.{node-same, node_hit, node_pushed}
use Rattle.chain.proofs.ChainLaws.{count-two, push_lt, noded-same, noded-new}
use Rattle.chain.proofs.make_node.Goals as goal

pub returns-then-low-high : goal.returns-then-low-high
returns-then-low-high c = noded-same _ _ _ _ _ _ _ c.requires.0 c.requires.1 c.requires.2 _ (node-same _ _ _ _ _ _ _ c.requires.0 c.if-low-high.true)

pub find_node-requires : goal.find_node-requires
find_node-requires c = (c.requires.1, omega (arith, count-two _ _ _ _ _ _ _ c.requires.0 c.requires.1 c.requires.2, c.requires.0.pushing.fits), c.requires.0.pushing.fits, c.if-low-high.false, c.requires.2)

pub returns-in-Some : goal.returns-in-Some
returns-in-Some c = noded-same _ _ _ _ _ _ _ c.requires.0 c.requires.1 c.requires.2 _ (node_hit _ _ _ _ _ _ _ c.requires.0 c.if-low-high.false c.in-Some.p.0 c.in-Some.ensures)

pub returns-in_err-p : goal.returns-in_err-p
returns-in_err-p c = rw c.from_residual.ensures (node_pushed _ _ _ _ _ _ _ c.requires.0 c.if-low-high.false c.in_default.ensures c.push_node.new.bdd None c.in_err-p.ensures.answers)

pub link_node-requires : goal.link_node-requires
link_node-requires c = (omega (arith, c.requires.1, c.push_node.auto.bdd), push_lt _ _ _ _ _ _ _ c.requires.0 c.requires.1 c.requires.2 _ _ _ c.push_node.auto.bdd c.in_ok-p.ensures.answers c.in_ok-p.ensures.beyond)

pub returns : goal.returns
returns c =
    noded-new _ _ _ _ _ _ _ c.requires.0 c.requires.1 c.requires.2 _ _ _ c.push_node.auto.bdd c.in_ok-p.ensures.answers c.in_ok-p.ensures.beyond
    (node_pushed _ _ _ _ _ _ _ c.requires.0 c.if-low-high.false c.in_default.ensures c.push_node.new.bdd (Some (c.in_ok-p.p, c.in_ok-p.more)) c.in_ok-p.ensures.answers) _ c.link_node.ensures
