use Rattle.std.proofs.Common.{rules}
use Rattle.implies.proofs.ImpliesLaws.{said_known}
use Rattle.implies.proofs.says_no.Goals as goal

pub returns-clause-known : goal.returns-clause-known
returns-clause-known c = said_known _ _ _ _ c.says_no.new.self.memo.now _ _ c.says_no.ensures.input c.says_no.new.self.ready _ (search rules)
