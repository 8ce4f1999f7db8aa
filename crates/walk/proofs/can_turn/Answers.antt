use Rattle.walk.proofs.PathLaws.{turn-other, turn_low}
use Rattle.walk.proofs.can_turn.Goals as goal

pub returns-then-low_link_of-q : goal.returns-then-low_link_of-q
returns-then-low_link_of-q c = turn-other _ _ _ _ c.low_link_of.ensures c.if-low_link_of-q.true

pub returns : goal.returns
returns c = turn_low _ _ _ _ _ c.low_link_of.ensures c.if-low_link_of-q.false c.high_link_of.ensures
