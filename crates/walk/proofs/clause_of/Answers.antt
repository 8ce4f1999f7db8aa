use Rattle.std.proofs.Common.{arith, ◌-◌}
use Rattle.walk.proofs.PathLaws.{celled_none}
use Rattle.walk.proofs.Holding.{short, reads, marks, celled_more, celled_all}
use Rattle.walk.proofs.clause_of.Goals as goal

pub loop-i-init : goal.loop-i-init
loop-i-init c = celled_none _ c.args.s.now

pub bounds-s-i : goal.bounds-s-i
bounds-s-i c = omega (arith, c.loop-i-test.true, short _ _ c.requires)

pub high_link_of-high-requires : goal.high_link_of-high-requires
high_link_of-high-requires c = reads _ _ c.requires _ (omega (arith, c.loop-i-test.true, c.loop-i.invariant.0))

pub var_of-requires : goal.var_of-requires
var_of-requires c = (
  omega (arith, reads _ _ c.requires (c.loop-i.i - 1) (omega (arith, c.loop-i-test.true, c.loop-i.invariant.0))),
  omega (arith, marks _ _ c.requires (c.loop-i.i - 1) (omega (arith, c.loop-i-test.true, c.loop-i.invariant.0))),
)

pub bounds-s-i-in-loop-i : goal.bounds-s-i-in-loop-i
bounds-s-i-in-loop-i c = omega (arith, c.loop-i-test.true, short _ _ c.requires)

pub with_bit-v-requires : goal.with_bit-v-requires
with_bit-v-requires c = omega (arith, c.var_of.ensures, marks _ _ c.requires (c.loop-i.i - 1) (omega (arith, c.loop-i-test.true, c.loop-i.invariant.0)))

pub loop-i-preserved : goal.loop-i-preserved
loop-i-preserved c = celled_more _ _ c.requires _ _ _ _ _ c.loop-i-test.true c.loop-i.invariant c.var_of.ensures c.high_link_of-high.ensures c.with_bit-v.ensures

pub returns : goal.returns
returns c = celled_all _ _ c.requires _ _ c.loop-i-test.false c.loop-i.invariant
