use Rattle.std.proofs.Common.{rules}
use Rattle.join.proofs.JoinLaws.{joined_end}
use Rattle.join.proofs.join.Goals as goal

pub returns : goal.returns
returns c =
    joined_end _ _ _ _ _ c.node-joined.new.self.out.now c.node-joined.new.self.memo.now _ _ _ _ _ _ _ _ c.node-joined.ensures.input c.node-joined.new.self.ready c.in_ok-joined.ensures.walks
    _ _ (search rules) (search rules)
