use mathlib.Core.Path.{◌∙◌}
use Rattle.cover.proofs.CoverLaws.{list_over, comparing, list_compared}
use Rattle.cover.proofs.compare_list.Goals as goal

pub compare-requires : goal.compare-requires
compare-requires c = comparing _ _ _ _ _ _ _ _ _ c.args.table.sound c.requires c.build-tabled.new.out c.build-tabled.auto.out c.build-tabled.result c.build-tabled.ensures _ c.in-Ok.is _ c.copy_nodes.new.work c.copy_nodes.ensures
    (c.copy_nodes.auto.work ∙ c.build-tabled.auto.work)

pub returns-in-Err : goal.returns-in-Err
returns-in-Err c = list_over _ _ _ _ _ _ _ _ _ c.args.table.sound c.requires c.build-tabled.new.out c.build-tabled.auto.out c.build-tabled.result c.build-tabled.ensures _ c.in-Err.is

pub returns-in-Ok : goal.returns-in-Ok
returns-in-Ok c = list_compared _ _ _ _ _ _ _ _ _ c.args.table.sound c.requires c.build-tabled.new.out c.build-tabled.auto.out c.build-tabled.result c.build-tabled.ensures _ c.in-Ok.is _ c.copy_nodes.new.work c.copy_nodes.ensures
    _ c.compare.ensures
