use Rattle.operators.proofs.OperatorLaws.{joined_outcome}
use Rattle.operators.proofs.joined.Goals as goal

pub returns : goal.returns
returns c = joined_outcome _ _ _ _ _ _ _ _ _ c.join_tables-tabled.auto.out c.join_tables-tabled.auto.memo c.join_tables-tabled.result _ c.join_tables-tabled.ensures c.settle.ensures
