use Rattle.std.proofs.Common.{rules}
use Rattle.cube.specs.Cube.{entry_at}
use Rattle.entries.specs.Entries.{says}
use Rattle.builders.proofs.BuilderLaws.{list_refused, list_ready, list_outcome}
use Rattle.builders.proofs.make_list.Goals as goal

pub returns-in_err-check_list : goal.returns-in_err-check_list
returns-in_err-check_list g c =
    list_refused g.E.Entries.cases c.args.n c.args.count c.args.list.now c.args.room c.args.out.now c.args.work.now
    c.in_err-check_list.field-0.0 c.in_err-check_list.ensures c.from_residual.result (search rules) (says c.args.form) (entry_at g.E.Entries.cases c.args.n c.args.list.now)

pub build_list-requires : goal.build_list-requires
build_list-requires g c = list_ready g.E.Entries.cases c.args.n c.args.count c.args.list.now c.args.room c.args.out.now c.args.work.now c.in_ok-check_list.ensures

pub returns : goal.returns
returns g c = list_outcome g.E.Entries.cases c.args.n c.args.count c.args.list.now c.args.room c.args.out.now c.args.work.now c.in_ok-check_list.ensures (says c.args.form) _ _ _ c.build_list.ensures
