use native.Mathlib.Omega.{arith}
use native.Mathlib.Numerals.{add-one}
use Rattle.reduced.proofs.ReducedLaws.{marking_first, marking_lies, marking_again, marking_done}
use Rattle.reduced.proofs.mark_reachable.Goals as goal

pub loop-p-init : goal.loop-p-init
loop-p-init c = rw add-one (marking_first _ _ _ _ c.args.table.sound _ c.requires)

pub mark_links-requires : goal.mark_links-requires
mark_links-requires c = marking_lies _ _ _ _ c.args.table.sound _ _ c.loop-p-test.true (omega (arith, c.args.table.sound.last, c.args.table.sound.some, c.loop-p.auto.p)) c.loop-p.invariant

pub loop-p-preserved : goal.loop-p-preserved
loop-p-preserved c = marking_again _ _ _ _ c.args.table.sound _ _ _ c.loop-p-test.true (omega (arith, c.args.table.sound.last, c.args.table.sound.some, c.loop-p.auto.p)) c.loop-p.invariant c.mark_links.ensures

pub returns : goal.returns
returns c = let h = c.loop-p-test.false in marking_done _ _ _ _ c.args.table.sound _ _ (omega arith) c.loop-p.invariant
