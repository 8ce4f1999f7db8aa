use Rattle.std.proofs.Common.{arith}
use Rattle.carry.proofs.LeafLaws.{made_small}
use Rattle.carry.proofs.CarryLaws.{carry-done, x_lt, y_lt, full_lo, high_in, full_hi, noding, slot_in, full_node, is₃, made_ready, kept_ready}
use Rattle.carry.proofs.Carrier.+node.Goals as goal

pub node-requires : goal.node-requires
node-requires t c = (omega (arith, c.decreases, x_lt _ _ _ _ _ _ c.args.self.now.ready _ c.requires _ c.in-Split.ensures), omega (arith, c.requires, x_lt _ _ _ _ _ _ c.args.self.now.ready _ c.requires _ c.in-Split.ensures))

pub returns-in_err-low-in-Split-clause-walks : goal.returns-in_err-low-in-Split-clause-walks
returns-in_err-low-in-Split-clause-walks t c = rw c.from_residual.ensures (full_lo _ _ _ _ _ _ c.args.self.now.ready _ c.requires _ c.in-Split.ensures c.in_err-low-in-Split.ensures.walks)

pub node-requires-in-Split : goal.node-requires-in-Split
node-requires-in-Split t c = (omega (arith, c.decreases, y_lt _ _ _ _ _ _ c.args.self.now.ready _ c.requires _ c.in-Split.ensures), high_in _ _ _ _ _ _ c.args.self.now.ready _ c.requires _ c.in-Split.ensures _ _ _ _ _ _ _ c.node.ensures.input c.node.new.self.ready c.in_ok-low-in-Split.ensures.walks)

pub returns-in_err-high-in-Split-clause-walks : goal.returns-in_err-high-in-Split-clause-walks
returns-in_err-high-in-Split-clause-walks t c = rw c.from_residual-in_err-high-in-Split.ensures (full_hi _ _ _ _ _ _ c.args.self.now.ready _ c.requires _ c.in-Split.ensures _ _ _ _ _ _ _ c.node.ensures.input c.node.new.self.ready c.in_ok-low-in-Split.ensures.walks c.in_err-high-in-Split.ensures.walks)

pub make_node-requires : goal.make_node-requires
make_node-requires t c = noding _ _ _ _ _ _ c.args.self.now.ready _ c.requires _ c.in-Split.ensures _ _ _ _ _ _ _ c.node.ensures.input c.node.new.self.ready c.in_ok-low-in-Split.ensures.walks _ _ _ _ _ _ _ c.node-in-Split.ensures.input c.node-in-Split.new.self.ready c.in_ok-high-in-Split.ensures.walks

pub returns-in_err-r-in-Split-clause-walks : goal.returns-in_err-r-in-Split-clause-walks
returns-in_err-r-in-Split-clause-walks t c = rw c.from_residual-in_err-r-in-Split.ensures (full_node _ _ _ _ _ _ c.args.self.now.ready _ c.requires _ c.in-Split.ensures _ _ _ _ _ _ _ c.node.ensures.input c.node.new.self.ready c.in_ok-low-in-Split.ensures.walks _ _ _ _ _ _ _ c.node-in-Split.ensures.input c.node-in-Split.new.self.ready c.in_ok-high-in-Split.ensures.walks c.in_err-r-in-Split.ensures.answers)

pub invariant_of-self-in-Split : goal.invariant_of-self-in-Split
invariant_of-self-in-Split t c = record { ready = made_ready _ _ _ _ _ _ c.args.self.now.ready _ c.requires _ c.in-Split.ensures _ _ _ _ _ _ _ c.node.ensures.input c.node.new.self.ready c.in_ok-low-in-Split.ensures.walks _ _ _ _ _ _ _ c.node-in-Split.ensures.input c.node-in-Split.new.self.ready c.in_ok-high-in-Split.ensures.walks _ _ _ c.in_ok-r-in-Split.ensures.answers c.make_node.auto.bdd }

pub keep-requires : goal.keep-requires
keep-requires t c = (slot_in _ _ _ _ _ _ c.args.self.now.ready _ c.requires _ c.in-Split.ensures _ _ _ _ _ _ _ c.node.ensures.input c.node.new.self.ready c.in_ok-low-in-Split.ensures.walks _ _ _ _ _ _ _ c.node-in-Split.ensures.input c.node-in-Split.new.self.ready c.in_ok-high-in-Split.ensures.walks, made_small _ _ _ _ _ _ _ (noding _ _ _ _ _ _ c.args.self.now.ready _ c.requires _ c.in-Split.ensures _ _ _ _ _ _ _ c.node.ensures.input c.node.new.self.ready c.in_ok-low-in-Split.ensures.walks _ _ _ _ _ _ _ c.node-in-Split.ensures.input c.node-in-Split.new.self.ready c.in_ok-high-in-Split.ensures.walks) _ _ _ c.in_ok-r-in-Split.ensures.answers)

pub invariant_of-self-in-Split-2 : goal.invariant_of-self-in-Split-2
invariant_of-self-in-Split-2 t c = record { ready = kept_ready _ _ _ _ _ _ c.args.self.now.ready _ c.requires _ c.in-Split.ensures _ _ _ _ _ _ _ c.node.ensures.input c.node.new.self.ready c.in_ok-low-in-Split.ensures.walks _ _ _ _ _ _ _ c.node-in-Split.ensures.input c.node-in-Split.new.self.ready c.in_ok-high-in-Split.ensures.walks _ _ _ c.in_ok-r-in-Split.ensures.answers c.make_node.auto.bdd _ c.keep.ensures }

pub returns-in-Done-clause-walks : goal.returns-in-Done-clause-walks
returns-in-Done-clause-walks t c = carry-done _ _ _ _ _ _ c.args.self.now.ready _ c.requires _ c.in-Done.ensures

pub returns-in_ok-r-in-Split-clause-walks : goal.returns-in_ok-r-in-Split-clause-walks
returns-in_ok-r-in-Split-clause-walks t c = is₃ _ _ _ _ _ _ c.args.self.now.ready _ c.requires _ c.in-Split.ensures _ _ _ _ _ _ _ c.node.ensures.input c.node.new.self.ready c.in_ok-low-in-Split.ensures.walks _ _ _ _ _ _ _ c.node-in-Split.ensures.input c.node-in-Split.new.self.ready c.in_ok-high-in-Split.ensures.walks _ _ _ c.in_ok-r-in-Split.ensures.answers c.make_node.auto.bdd
