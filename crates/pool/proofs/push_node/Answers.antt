use Rattle.pool.proofs.PoolLaws.{push_full, push_made}
use Rattle.pool.proofs.push_node.Goals as goal

pub returns-then-count-room-clause-answers : goal.returns-then-count-room-clause-answers
returns-then-count-room-clause-answers c = push_full _ _ _ _ _ _ c.requires c.if-count-room.true

pub returns-clause-answers : goal.returns-clause-answers
returns-clause-answers c = push_made _ _ _ _ _ _ c.requires c.if-count-room.false _ c.put_node.ensures
