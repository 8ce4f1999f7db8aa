use Rattle.std.proofs.Common.{arith}
use Rattle.valuation.specs.Valuation.{clause_of}
use Rattle.trimming.proofs.ClearLaws.{clear_start, clear_next, clear-done}
use Rattle.trimming.proofs.clear_literals.Goals as goal

pub loop-i-init : goal.loop-i-init
loop-i-init c = clear_start _ _ _ _

pub loop-i-preserved : goal.loop-i-preserved
loop-i-preserved c = clear_next _ _ _ _ _ _ c.loop-i-test.true c.loop-i.invariant (clause_of c.clear_literal-z.result) c.clear_literal-z.ensures

pub returns : goal.returns
returns c = clear-done _ _ _ _ _ _ (omega arith) c.loop-i.invariant
