use Rattle.table.proofs.CaseLaws.{Standing}
use Rattle.table.proofs.Table.says_yes.Given as goal

abbrev pub invariant-loop-p : goal.invariant-loop-p
invariant-loop-p l = Standing l.self.n l.self.count l.self.words.now l.case l.p.0

abbrev pub decreases-loop-p : goal.decreases-loop-p
decreases-loop-p l = l.p.0
