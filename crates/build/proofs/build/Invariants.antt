use Rattle.build.proofs.BuildLaws.{Going}
use Rattle.cube.specs.Cube.{entry_at}
use Rattle.build.proofs.build.Given as goal

abbrev pub invariant-loop-i : goal.invariant-loop-i
invariant-loop-i g l = Going l.n (entry_at g.E.Entries.cases l.n l.list) l.form l.room l.work l.root.0 l.held l.i
