-- `to_optimized_dnf`: refused in its admission, or the short list settled.
use Rattle.short.proofs.EntryLaws.{entry-refused, entry-table, entry-settled}
use Rattle.short.proofs.to_optimized_dnf.Goals as goal

pub returns-in_default : goal.returns-in_default
returns-in_default c = let parts = entry-refused c.args.n c.args.count c.args.bdd.now c.args.room c.args.out.now c.args.work.now _ c.admit_short-admitted.ensures _ c.refusal.ensures in
    record { result_value = parts.0; out_after = parts.1.0; work_after = parts.1.1 }

pub invariant_of-table : goal.invariant_of-table
invariant_of-table c = record { sound = (entry-table c.args.n c.args.count c.args.bdd.now c.args.room c.args.out.now c.args.work.now _ c.admit_short-admitted.ensures _ c.in-Sound.is).0 }

pub write_short-written-requires : goal.write_short-written-requires
write_short-written-requires c = (entry-table c.args.n c.args.count c.args.bdd.now c.args.room c.args.out.now c.args.work.now _ c.admit_short-admitted.ensures _ c.in-Sound.is).1

pub returns : goal.returns
returns c = let parts = entry-settled c.args.n c.args.count c.args.bdd.now c.args.room c.args.out.now c.args.work.now _ c.admit_short-admitted.ensures _ c.in-Sound.is c.write_short-written.new.out c.write_short-written.result c.write_short-written.ensures c.settle.new.out c.write_short-written.new.work c.settle.new.work c.write_short-written.auto.out c.write_short-written.auto.work c.settle.result c.settle.ensures in
    record { result_value = parts.0; out_after = parts.1.0; work_after = parts.1.1 }
