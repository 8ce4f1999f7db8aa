use Rattle.implies.proofs.ImpliesLaws.{splitting, known_implies, low-empty, high-stops, remember-asks, both_empty, kept_ready}
use Rattle.implies.proofs.Descent.+says_no.Goals as goal
use Rattle.implies.proofs.Descent.+says_no.Goals.{then-not-says_no-via-then-not-says_no, then-not-says_no-via-else-not-says_no+then-not-says_no-2}

pub split-requires : goal.split-requires
split-requires t c = splitting _ _ _ _ c.args.self.now.ready _ _ _ c.requires

pub returns-in-Known-clause-empty : goal.returns-in-Known-clause-empty
returns-in-Known-clause-empty t c = known_implies _ _ _ _ c.args.self.now.ready _ _ _ c.requires _ c.in-Known.ensures

pub returns-then-not-says_no-clause-empty : goal.returns-then-not-says_no-clause-empty
returns-then-not-says_no-clause-empty t c = λ e. elim c.then-not-says_no.branch [
  | then-not-says_no-via-then-not-says_no w ↦ w.if-not-says_no.ensures.empty (low-empty _ _ _ _ c.args.self.now.ready _ _ _ c.requires _ c.in-Fork.ensures e)
  | then-not-says_no-via-else-not-says_no+then-not-says_no-2 w ↦ high-stops _ _ _ _ c.args.self.now.ready _ _ _ c.requires _ c.in-Fork.ensures _ _ c.args.self.now.memo.now _ c.says_no.ensures.input w.if-not-says_no.ensures.empty w.if-not-says_no-2.ensures.empty e
]

pub remember-requires : goal.remember-requires
remember-requires t c = remember-asks _ _ _ _ c.args.self.now.ready _ _ _ c.requires _ c.in-Fork.ensures _ _ c.args.self.now.memo.now _ c.says_no.ensures.input c.if-not-says_no.ensures.empty _ _ _ _ c.says_no-else-not-says_no.ensures.input c.says_no-else-not-says_no.new.self.ready c.if-not-says_no-2.ensures.empty

pub invariant_of-self : goal.invariant_of-self
invariant_of-self t c = record { ready = kept_ready _ _ _ _ c.args.self.now.ready _ _ _ c.requires _ c.in-Fork.ensures _ _ c.args.self.now.memo.now _ c.says_no.ensures.input c.if-not-says_no.ensures.empty _ _ _ _ c.says_no-else-not-says_no.ensures.input c.says_no-else-not-says_no.new.self.ready c.if-not-says_no-2.ensures.empty _ c.remember.auto.memo c.remember.ensures }

pub returns-clause-empty : goal.returns-clause-empty
returns-clause-empty t c = both_empty _ _ _ _ c.args.self.now.ready _ _ _ c.requires _ c.in-Fork.ensures _ _ c.args.self.now.memo.now _ c.says_no.ensures.input c.if-not-says_no.ensures.empty _ _ _ _ c.says_no-else-not-says_no.ensures.input c.says_no-else-not-says_no.new.self.ready c.if-not-says_no-2.ensures.empty
