use Rattle.making.proofs.MakesLaws.{equations}
use Rattle.operators.proofs.OperatorLaws.{pair-refused, pair-few, pair-given, pair_outcome}
use Rattle.operators.proofs.operate.Goals as goal

pub returns-in_default : goal.returns-in_default
returns-in_default c =
    let parts = equations _ _ _ _ _ _ (pair-refused c.args.n c.args.left_count c.args.left.now c.args.right_count c.args.right.now c.args.room c.args.out.now c.args.work.now _ c.admit_two_tables-admitted.ensures c.args.op _ c.refusal.ensures) in
    record { result_value = parts.0; out_after = parts.1.0; work_after = parts.1.1 }

pub pair-job-requires : goal.pair-job-requires
pair-job-requires c = pair-few c.args.n c.args.left_count c.args.left.now c.args.right_count c.args.right.now c.args.room c.args.out.now c.args.work.now _ c.admit_two_tables-admitted.ensures _ c.in-Sound.is

pub joined-requires : goal.joined-requires
joined-requires c = pair-given c.args.n c.args.left_count c.args.left.now c.args.right_count c.args.right.now c.args.room c.args.out.now c.args.work.now _ c.admit_two_tables-admitted.ensures _ c.in-Sound.is _ _ c.pair-job.ensures

pub returns : goal.returns
returns c =
    let parts = equations _ _ _ _ _ _ (pair_outcome c.args.n c.args.left_count c.args.left.now c.args.right_count c.args.right.now c.args.room c.args.out.now c.args.work.now _ c.admit_two_tables-admitted.ensures _ c.in-Sound.is c.args.op _ c.pair-job.ensures _ _ _ c.joined.ensures) in
    record { result_value = parts.0; out_after = parts.1.0; work_after = parts.1.1 }
