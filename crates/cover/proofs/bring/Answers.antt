use Rattle.std.proofs.Common.{rules}
use Rattle.cover.proofs.CompareLaws.{bringing-emptied, brings, roomy}
use Rattle.cover.proofs.bring.Goals as goal

pub carry-carried-requires : goal.carry-carried-requires
carry-carried-requires c = rw c.plain-way.ensures (bringing-emptied _ _ _ _ _ _ c.args.memo.now c.args.table.sound c.requires _ c.put_constants.auto.out c.put_constants.ensures.out_after c.put_constants.ensures.beyond _ c.max-held.ensures _ (search rules))

pub unreachable-requires : goal.unreachable-requires
unreachable-requires c = roomy _ _ _ _ _ _ _ c.args.table.sound c.requires _ c.put_constants.auto.out c.put_constants.ensures.out_after c.put_constants.ensures.beyond _ c.max-held.ensures (rw c.plain-way.ensures at c.in-None.ensures)

pub returns : goal.returns
returns c = brings _ _ _ _ _ _ _ c.args.table.sound c.requires _ c.put_constants.auto.out c.put_constants.ensures.out_after c.put_constants.ensures.beyond _ c.max-held.ensures
    c.carry-carried.new.out c.carry-carried.new.memo c.carry-carried.auto.out _ _ (rw c.plain-way.ensures at c.in-Some.ensures)
