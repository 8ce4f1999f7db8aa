use Rattle.std.proofs.Common.{arith}
use Rattle.cube.specs.Cube.{entry_at}
use Rattle.builders.proofs.BuilderLaws.{leaves, built_outcome}
use Rattle.builders.proofs.build_list.Goals as goal

pub returns : goal.returns
returns g c =
    let left = leaves c.args.n (entry_at g.E.Entries.cases c.args.n c.args.list.now) c.args.count c.args.form c.args.room c.build-tabled.new.out (omega (arith, c.requires.0.wide, c.build-tabled.auto.out)) c.build-tabled.result c.build-tabled.ensures in
    built_outcome _ _ _ _ _ c.build-tabled.new.out _ _ c.build-tabled.new.work _ _ c.build-tabled.auto.out c.build-tabled.auto.work c.build-tabled.result _ left c.settle.ensures
