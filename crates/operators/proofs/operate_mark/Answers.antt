use Rattle.making.proofs.MakesLaws.{equations}
use Rattle.operators.proofs.OperatorLaws.{mark-refused, mark-few, mark-given, mark_outcome}
use Rattle.operators.proofs.operate_mark.Goals as goal

pub returns-in_default : goal.returns-in_default
returns-in_default c =
    let parts = equations _ _ _ _ _ _ (mark-refused c.args.n c.args.count c.args.nodes.now c.args.room c.args.out.now c.args.work.now c.args.variable _ c.admit_table_room_mark-admitted.ensures c.args.op _ c.refusal.ensures) in
    record { result_value = parts.0; out_after = parts.1.0; work_after = parts.1.1 }

pub mark-job-requires : goal.mark-job-requires
mark-job-requires c = mark-few c.args.n c.args.count c.args.nodes.now c.args.room c.args.out.now c.args.work.now c.args.variable _ c.admit_table_room_mark-admitted.ensures _ c.in-Sound.is

pub joined-requires : goal.joined-requires
joined-requires c = mark-given c.args.n c.args.count c.args.nodes.now c.args.room c.args.out.now c.args.work.now c.args.variable _ c.admit_table_room_mark-admitted.ensures _ c.in-Sound.is _ _ c.mark-job.ensures

pub returns : goal.returns
returns c =
    let parts = equations _ _ _ _ _ _ (mark_outcome c.args.n c.args.count c.args.nodes.now c.args.room c.args.out.now c.args.work.now c.args.variable _ c.admit_table_room_mark-admitted.ensures _ c.in-Sound.is c.args.op _ c.mark-job.ensures _ _ _ c.joined.ensures) in
    record { result_value = parts.0; out_after = parts.1.0; work_after = parts.1.1 }
