use Rattle.join.proofs.LeafLaws.{op-is}
use Rattle.join.proofs.op_bit.Goals as goal

pub returns : goal.returns
returns c = op-is _ _ _ c.requires.0 c.requires.1
