use Rattle.std.proofs.Common.{subst, sym, rules}
use Rattle.table.specs.Inspection.{SoundTable}
use Rattle.carry.proofs.WholeLaws.{begins-emptied, carried_left}
use Rattle.carry.proofs.carry_table.Goals as goal

pub carry-requires : goal.carry-requires
carry-requires c =
    begins-emptied _ _ c.args.memo.now c.args.way _ _ (subst (λ n. SoundTable n c.args.table.count c.args.table.words.now c.args.table.root.0) (sym c.requires.0) c.args.table.sound) c.requires.1 _ c.put_constants.auto.out c.put_constants.ensures.out_after _ (search rules)

pub returns : goal.returns
returns c =
    carried_left _ _ _ c.args.way _ _ (subst (λ n. SoundTable n c.args.table.count c.args.table.words.now c.args.table.root.0) (sym c.requires.0) c.args.table.sound) c.requires.1 _ c.put_constants.auto.out c.put_constants.ensures.out_after _ _ c.carry.result c.carry.auto.out c.carry.ensures _ c.whole_table.ensures
