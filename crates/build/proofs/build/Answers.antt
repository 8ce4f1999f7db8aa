use Rattle.build.proofs.BuildLaws.{starts_at, goes_on, refused}
use Rattle.build.proofs.build.Goals as goal

pub loop-i-init : goal.loop-i-init
loop-i-init g c = starts_at _ _ _ _ _ _ _ c.requires.0 c.clear.new.work c.put_constants.new.out _ c.empty-root.ensures c.clear.ensures c.put_constants.ensures.out_after c.put_constants.ensures.beyond

pub returns-in_default : goal.returns-in_default
returns-in_default g c = refused _ _ _ _ _ _ _ c.requires.0 c.loop-i.out c.loop-i.work c.loop-i.root.0 c.loop-i.held c.loop-i.i c.loop-i.invariant _ c.entry_at.ensures c.loop-i-test.true c.in_default.ensures

pub loop-i-preserved : goal.loop-i-preserved
loop-i-preserved g c = goes_on _ _ _ _ _ _ _ c.requires.0 c.loop-i.out c.loop-i.work c.loop-i.root.0 c.loop-i.held c.loop-i.i c.loop-i.invariant _ c.entry_at.ensures _ _ _ c.in-Some.ensures
