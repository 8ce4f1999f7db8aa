use Rattle.std.proofs.Common.{rules}
use Rattle.refusal.proofs.Zeroing.{whole_zeroed}
use Rattle.join.proofs.WholeLaws.{start_ready, joined_left}
use Rattle.join.proofs.join_tables.Goals as goal

pub join-joined-requires : goal.join-joined-requires
join-joined-requires c = start_ready _ _ _ _ _ c.requires _ _ c.put_constants.auto.out c.fill.auto.self c.put_constants.ensures.out_after (whole_zeroed c.args.memo.now _ (search rules))

pub returns : goal.returns
returns c =
    joined_left _ _ _ _ _ c.requires _ _ c.put_constants.auto.out c.fill.auto.self c.put_constants.ensures.out_after (whole_zeroed c.args.memo.now _ (search rules))
    _ _ c.join-joined.result c.join-joined.auto.out c.join-joined.ensures _ c.whole_table.ensures
