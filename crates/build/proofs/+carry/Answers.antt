use native.Mathlib.Omega.{arith}
use Rattle.build.proofs.CarryLaws.{mark-small, carry-end, x_lt, y_lt, carrying_lo, full_lo, carrying_hi, full_hi, full_node, slot_in, e_small, done}
use Rattle.build.proofs.+carry.Goals as goal

pub returns-then-p-lt2 : goal.returns-then-p-lt2
returns-then-p-lt2 t c = carry-end _ _ _ _ _ _ c.requires c.if-p-lt2.true

pub var_of-variable-requires : goal.var_of-variable-requires
var_of-variable-requires t c = (omega (arith, c.requires.lies, c.requires.fits, c.requires.long), mark-small _ _ _ _ _ _ c.requires)

pub carry-requires : goal.carry-requires
carry-requires t c = (omega (arith, c.decreases, x_lt _ _ _ _ _ _ c.requires (omega (arith, c.if-p-lt2.false)) _ _ _ c.var_of-variable.ensures c.low_link_of-x.ensures c.high_link_of-y.ensures c.in_default.ensures), carrying_lo _ _ _ _ _ _ c.requires (omega (arith, c.if-p-lt2.false)) _ _ _ c.var_of-variable.ensures c.low_link_of-x.ensures c.high_link_of-y.ensures c.in_default.ensures)

pub returns-in_err-low : goal.returns-in_err-low
returns-in_err-low t c = rw c.from_residual.ensures (full_lo _ _ _ _ _ _ c.requires (omega (arith, c.if-p-lt2.false)) _ _ _ c.var_of-variable.ensures c.low_link_of-x.ensures c.high_link_of-y.ensures c.in_default.ensures c.in_err-low.ensures)

pub carry-requires-2 : goal.carry-requires-2
carry-requires-2 t c = (omega (arith, c.decreases, y_lt _ _ _ _ _ _ c.requires (omega (arith, c.if-p-lt2.false)) _ _ _ c.var_of-variable.ensures c.low_link_of-x.ensures c.high_link_of-y.ensures c.in_default.ensures), carrying_hi _ _ _ _ _ _ c.requires (omega (arith, c.if-p-lt2.false)) _ _ _ c.var_of-variable.ensures c.low_link_of-x.ensures c.high_link_of-y.ensures c.in_default.ensures _ _ _ _ c.carry.auto.work c.carry.auto.out c.in_ok-low.ensures)

pub returns-in_err-high : goal.returns-in_err-high
returns-in_err-high t c = rw c.from_residual-in_err-high.ensures (full_hi _ _ _ _ _ _ c.requires (omega (arith, c.if-p-lt2.false)) _ _ _ c.var_of-variable.ensures c.low_link_of-x.ensures c.high_link_of-y.ensures c.in_default.ensures _ _ _ _ c.carry.auto.work c.carry.auto.out c.in_ok-low.ensures c.in_err-high.ensures)

pub returns-in_default-push_node : goal.returns-in_default-push_node
returns-in_default-push_node t c = (full_node _ _ _ _ _ _ c.requires (omega (arith, c.if-p-lt2.false)) _ _ _ c.var_of-variable.ensures c.low_link_of-x.ensures c.high_link_of-y.ensures c.in_default.ensures _ _ _ _ c.carry.auto.work c.carry.auto.out c.in_ok-low.ensures _ _ _ _ c.carry-2.auto.work c.carry-2.auto.out c.in_ok-high.ensures c.in_default-push_node.ensures.answers)

pub keep-requires : goal.keep-requires
keep-requires t c = (slot_in _ _ _ _ _ _ c.requires (omega (arith, c.if-p-lt2.false)) _ _ _ c.var_of-variable.ensures c.low_link_of-x.ensures c.high_link_of-y.ensures c.in_default.ensures _ _ _ _ c.carry.auto.work c.carry.auto.out c.in_ok-low.ensures _ _ _ _ c.carry-2.auto.work c.carry-2.auto.out c.in_ok-high.ensures, c.requires.few, c.requires.stamp, e_small _ _ _ _ _ _ c.requires (omega (arith, c.if-p-lt2.false)) _ _ _ c.var_of-variable.ensures c.low_link_of-x.ensures c.high_link_of-y.ensures c.in_default.ensures _ _ _ _ c.carry.auto.work c.carry.auto.out c.in_ok-low.ensures _ _ _ _ c.carry-2.auto.work c.carry-2.auto.out c.in_ok-high.ensures _ _ _ c.in-Some-push_node.ensures.answers)

pub returns : goal.returns
returns t c = done _ _ _ _ _ _ c.requires (omega (arith, c.if-p-lt2.false)) _ _ _ c.var_of-variable.ensures c.low_link_of-x.ensures c.high_link_of-y.ensures c.in_default.ensures _ _ _ _ c.carry.auto.work c.carry.auto.out c.in_ok-low.ensures _ _ _ _ c.carry-2.auto.work c.carry-2.auto.out c.in_ok-high.ensures c.push_node.new.bdd _ _ c.in-Some-push_node.ensures.answers c.keep.new.work c.keep.ensures
