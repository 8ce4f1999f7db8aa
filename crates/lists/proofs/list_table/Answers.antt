use Rattle.entries.specs.Entries.{says}
use Rattle.lists.proofs.EntryLaws.{list-refused, list-table, list-settled}
use Rattle.lists.proofs.list_table.Goals as goal

pub returns-in_default : goal.returns-in_default
returns-in_default c = list-refused (says c.args.form) c.args.n c.args.count c.args.bdd.now c.args.out.now c.args.work.now _ c.admit_table_work-admitted.ensures _ c.refusal.ensures

pub invariant_of-table : goal.invariant_of-table
invariant_of-table c = record { sound = (list-table (says c.args.form) c.args.n c.args.count c.args.bdd.now c.args.out.now c.args.work.now _ c.admit_table_work-admitted.ensures _ c.in-Sound.is).0 }

pub write_paths-written-requires : goal.write_paths-written-requires
write_paths-written-requires c = (list-table (says c.args.form) c.args.n c.args.count c.args.bdd.now c.args.out.now c.args.work.now _ c.admit_table_work-admitted.ensures _ c.in-Sound.is).1

pub returns : goal.returns
returns c = list-settled (says c.args.form) c.args.n c.args.count c.args.bdd.now c.args.out.now c.args.work.now _ c.admit_table_work-admitted.ensures _ c.in-Sound.is c.write_paths-written.new.out c.write_paths-written.result c.write_paths-written.ensures c.settle.new.out c.write_paths-written.new.work c.settle.new.work c.write_paths-written.auto.out c.write_paths-written.auto.work c.settle.result c.settle.ensures
