use Rattle.std.proofs.Common.{refl}
use Rattle.walk.proofs.Holding.{next_none, came_holds, came_on}
use Rattle.walk.proofs.StartLaws.{step-ends}
use Rattle.walk.proofs.BddPathIteratorIterator.next.Goals as goal

pub returns-then-self-eq0-clause-steps : goal.returns-then-self-eq0-clause-steps
returns-then-self-eq0-clause-steps c = record {
  says = step-ends _ _ c.if-self-eq0.true;
  moves = record {
    words = refl;
    path = next_none _ _ (came_holds _ _ c.args.self.now.came) c.if-self-eq0.true;
    refusal = refl;
  };
}

pub next_path-self-requires : goal.next_path-self-requires
next_path-self-requires c = came_holds _ _ c.args.self.now.came

pub invariant_of-self : goal.invariant_of-self
invariant_of-self c = record { came = came_on _ _ _ c.next_path-self.ensures c.args.self.now.came }

pub step_of-requires : goal.step_of-requires
step_of-requires c = came_holds _ _ c.args.self.now.came
