use native.Mathlib.Omega.{arith}
use Rattle.valuation.proofs.Gathering.{mark_of, mark_narrow, gathered_none, gathered_next, gathered_all}
use Rattle.valuation.proofs.gather_values.Goals as goal

pub loop-word-init : goal.loop-word-init
loop-word-init c = gathered_none _ _ c.empty-v.ensures

pub overflow_cast-word : goal.overflow_cast-word
overflow_cast-word c = record { fits = mark_narrow c.loop-word.invariant c.requires (omega arith) }

pub with_bit-v-requires : goal.with_bit-v-requires
with_bit-v-requires c = mark_of c.loop-word.invariant c.requires (omega arith)

pub loop-word-preserved : goal.loop-word-preserved
loop-word-preserved c = gathered_next c.loop-word.invariant (omega arith) _ c.with_bit-v.ensures

pub returns : goal.returns
returns c = gathered_all c.loop-word.invariant (omega arith)
