use Rattle.making.proofs.SettleLaws.{constants-stored, constants_beyond}
use Rattle.making.proofs.put_constants.Goals as goal

pub returns : goal.returns
returns c = record {
  out_after = constants-stored c.args.out.now _ _ c.args.n c.requires c.put_node.ensures c.put_node-2.ensures;
  beyond = constants_beyond c.args.out.now _ _ c.args.n c.requires c.put_node.ensures c.put_node-2.ensures;
}
