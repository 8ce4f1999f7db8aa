use Rattle.build.proofs.AddLaws.{carrying, export-zero, export-more, export_full}
use Rattle.build.proofs.export.Goals as goal

pub carry-requires : goal.carry-requires
carry-requires c = carrying _ _ _ _ _ c.requires.compacting c.put_constants.new.out c.put_constants.ensures.out_after c.put_constants.auto.out

pub unreachable-requires : goal.unreachable-requires
unreachable-requires c = absurd (export_full _ _ _ _ _ c.requires.compacting c.put_constants.new.out c.put_constants.ensures.out_after c.put_constants.auto.out c.requires.small
    c.in_default.ensures)

pub returns-then-r-eq0 : goal.returns-then-r-eq0
returns-then-r-eq0 c = export-zero _ _ _ _ _ c.requires.compacting c.put_constants.new.out c.put_constants.ensures.out_after c.put_constants.auto.out _ _ c.in-Some.r.0 c.in-Some.made
    c.in-Some.ensures
    c.if-r-eq0.true

pub returns : goal.returns
returns c = export-more _ _ _ _ _ c.requires.compacting c.put_constants.new.out c.put_constants.ensures.out_after c.put_constants.auto.out _ _ c.in-Some.r.0 c.in-Some.made
    c.in-Some.ensures
    c.if-r-eq0.false
