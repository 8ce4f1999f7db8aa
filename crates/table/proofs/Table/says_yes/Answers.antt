use native.Mathlib.Omega.{arith}
use Rattle.table.proofs.CaseLaws.{at-root, mark-fits, goes_down, goes_on, ends}
use Rattle.table.proofs.Table.says_yes.Goals as goal

pub loop-p-init : goal.loop-p-init
loop-p-init c = at-root _ _ _ _ _ c.args.self.sound

pub child_for-p-requires : goal.child_for-p-requires
child_for-p-requires c = (omega (arith, c.loop-p.invariant.lies, c.args.self.sound.long), mark-fits _ _ _ _ _ c.args.self.sound _ c.loop-p.invariant c.loop-p-test.true)

pub loop-p-smaller : goal.loop-p-smaller
loop-p-smaller c = goes_down _ _ _ _ _ c.args.self.sound _ c.loop-p.invariant c.loop-p-test.true _ c.child_for-p.ensures

pub loop-p-preserved : goal.loop-p-preserved
loop-p-preserved c = goes_on _ _ _ _ _ c.args.self.sound _ c.loop-p.invariant c.loop-p-test.true _ c.child_for-p.ensures

pub returns : goal.returns
returns c = ends _ _ _ _ _ c.args.self.sound _ c.loop-p.invariant (omega (arith, c.loop-p-test.false))
