use Rattle.join.proofs.SplitLaws.{known-asks, known_has, both-placed, parted}
use Rattle.join.proofs.split.Goals as goal

pub known-requires : goal.known-requires
known-requires c = known-asks _ _ _ _ _ _ c.requires _ _ c.step_to-left.ensures c.step_to-right.ensures

pub returns-in-Some : goal.returns-in-Some
returns-in-Some c = known_has _ _ _ _ _ _ c.requires _ _ c.step_to-left.ensures c.step_to-right.ensures _ c.in-Some.ensures

pub cut_at-requires : goal.cut_at-requires
cut_at-requires c = both-placed _ _ _ _ _ _ c.requires _ _ c.step_to-left.ensures c.step_to-right.ensures

pub returns-in-None : goal.returns-in-None
returns-in-None c = parted _ _ _ _ _ _ c.requires _ c.step_to-left.ensures c.step_to-right.ensures c.in-None.ensures _ c.cut_at.ensures
