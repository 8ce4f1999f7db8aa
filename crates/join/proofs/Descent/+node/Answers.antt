use Rattle.join.proofs.JoinLaws.{joining, splitting, low_full, high_full, noding, full_node, is₃, remember-asks, made_ready, kept_ready}
use Rattle.join.proofs.Descent.+node.Goals as goal

pub split-requires : goal.split-requires
split-requires t c = splitting _ _ _ _ _ _ _ _ _ (joining _ _ _ _ _ _ c.args.self.now.ready _ _ _ c.requires)

pub returns-in_err-low-in-Fork-clause-walks : goal.returns-in_err-low-in-Fork-clause-walks
returns-in_err-low-in-Fork-clause-walks t c = rw c.from_residual.ensures (low_full _ _ _ _ _ _ _ _ _ (joining _ _ _ _ _ _ c.args.self.now.ready _ _ _ c.requires) _ c.in-Fork.ensures c.in_err-low-in-Fork.ensures.walks)

pub returns-in_err-high-in-Fork-clause-walks : goal.returns-in_err-high-in-Fork-clause-walks
returns-in_err-high-in-Fork-clause-walks t c = rw c.from_residual-in_err-high-in-Fork.ensures (high_full _ _ _ _ _ _ _ _ _ (joining _ _ _ _ _ _ c.args.self.now.ready _ _ _ c.requires) _ c.in-Fork.ensures _ _ _ _ _ _ _ c.node.ensures.input c.node.new.self.ready c.in_ok-low-in-Fork.ensures.walks c.in_err-high-in-Fork.ensures.walks)

pub make_node-requires : goal.make_node-requires
make_node-requires t c = noding _ _ _ _ _ _ _ _ _ (joining _ _ _ _ _ _ c.args.self.now.ready _ _ _ c.requires) _ c.in-Fork.ensures _ _ _ _ _ _ _ c.node.ensures.input c.node.new.self.ready c.in_ok-low-in-Fork.ensures.walks _ _ _ _ _ _ _ c.node-in-Fork.ensures.input c.node-in-Fork.new.self.ready c.in_ok-high-in-Fork.ensures.walks

pub returns-in_err-r-in-Fork-clause-walks : goal.returns-in_err-r-in-Fork-clause-walks
returns-in_err-r-in-Fork-clause-walks t c = rw c.from_residual-in_err-r-in-Fork.ensures (full_node _ _ _ _ _ _ _ _ _ (joining _ _ _ _ _ _ c.args.self.now.ready _ _ _ c.requires) _ c.in-Fork.ensures _ _ _ _ _ _ _ c.node.ensures.input c.node.new.self.ready c.in_ok-low-in-Fork.ensures.walks _ _ _ _ _ _ _ c.node-in-Fork.ensures.input c.node-in-Fork.new.self.ready c.in_ok-high-in-Fork.ensures.walks c.in_err-r-in-Fork.ensures.answers)

pub invariant_of-self-in-Fork : goal.invariant_of-self-in-Fork
invariant_of-self-in-Fork t c = record { ready = made_ready _ _ _ _ _ _ _ _ _ (joining _ _ _ _ _ _ c.args.self.now.ready _ _ _ c.requires) _ c.in-Fork.ensures _ _ _ _ _ _ _ c.node.ensures.input c.node.new.self.ready c.in_ok-low-in-Fork.ensures.walks _ _ _ _ _ _ _ c.node-in-Fork.ensures.input c.node-in-Fork.new.self.ready c.in_ok-high-in-Fork.ensures.walks _ _ _ c.in_ok-r-in-Fork.ensures.answers c.make_node.auto.bdd }

pub remember-requires : goal.remember-requires
remember-requires t c = remember-asks _ _ _ _ _ _ _ _ _ (joining _ _ _ _ _ _ c.args.self.now.ready _ _ _ c.requires) _ c.in-Fork.ensures _ _ _ _ _ _ _ c.node.ensures.input c.node.new.self.ready c.in_ok-low-in-Fork.ensures.walks _ _ _ _ _ _ _ c.node-in-Fork.ensures.input c.node-in-Fork.new.self.ready c.in_ok-high-in-Fork.ensures.walks _ _ _ c.in_ok-r-in-Fork.ensures.answers c.make_node.auto.bdd

pub invariant_of-self-in-Fork-2 : goal.invariant_of-self-in-Fork-2
invariant_of-self-in-Fork-2 t c = record { ready = kept_ready _ _ _ _ _ _ _ _ _ (joining _ _ _ _ _ _ c.args.self.now.ready _ _ _ c.requires) _ c.in-Fork.ensures _ _ _ _ _ _ _ c.node.ensures.input c.node.new.self.ready c.in_ok-low-in-Fork.ensures.walks _ _ _ _ _ _ _ c.node-in-Fork.ensures.input c.node-in-Fork.new.self.ready c.in_ok-high-in-Fork.ensures.walks _ _ _ c.in_ok-r-in-Fork.ensures.answers c.make_node.auto.bdd _ c.remember.auto.memo c.remember.ensures }

pub returns-in_ok-r-in-Fork-clause-walks : goal.returns-in_ok-r-in-Fork-clause-walks
returns-in_ok-r-in-Fork-clause-walks t c = is₃ _ _ _ _ _ _ _ _ _ (joining _ _ _ _ _ _ c.args.self.now.ready _ _ _ c.requires) _ c.in-Fork.ensures _ _ _ _ _ _ _ c.node.ensures.input c.node.new.self.ready c.in_ok-low-in-Fork.ensures.walks _ _ _ _ _ _ _ c.node-in-Fork.ensures.input c.node-in-Fork.new.self.ready c.in_ok-high-in-Fork.ensures.walks _ _ _ c.in_ok-r-in-Fork.ensures.answers c.make_node.auto.bdd
