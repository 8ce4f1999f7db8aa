use Rattle.walk.proofs.StartLaws.{step-ends, step-yields}
use Rattle.walk.proofs.step_of.Goals as goal

pub returns-then-s-eq0 : goal.returns-then-s-eq0
returns-then-s-eq0 c = step-ends _ _ c.if-s-eq0.true

pub returns : goal.returns
returns c = step-yields _ _ _ c.if-s-eq0.false c.clause_of.ensures
