use Rattle.std.proofs.Common.{refl}
use Rattle.build.proofs.AddLaws.{add_full, add_small, compacting, added}
use Rattle.build.proofs.add_clause.Goals as goal

pub returns-in_err-r : goal.returns-in_err-r
returns-in_err-r c = rw c.from_residual.ensures (add_full _ _ _ _ _ _ c.requires c.in_err-r.ensures)

pub returns-then-more-room : goal.returns-then-more-room
returns-then-more-room c = add_small _ _ _ _ _ _ c.requires _ _ _ c.put.auto.work c.in_ok-r.ensures c.if-more-room.true

pub compact-requires : goal.compact-requires
compact-requires c = compacting _ _ _ _ _ _ c.requires _ _ _ c.put.auto.work c.in_ok-r.ensures _ refl refl refl refl

pub returns : goal.returns
returns c = added _ _ _ _ _ _ c.requires _ _ _ c.put.auto.work c.in_ok-r.ensures _ refl refl refl refl _ c.compact.result c.compact.ensures
