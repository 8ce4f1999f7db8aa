use Rattle.cover.proofs.CompareLaws.{made_some, agree, differ, paired}
use Rattle.cover.proofs.compare.Goals as goal

pub overflow_sub-top : goal.overflow_sub-top
overflow_sub-top c = made_some _ _ _ _ _ _ _ c.args.table.sound c.requires

pub returns-then-top-p : goal.returns-then-top-p
returns-then-top-p c = agree _ _ _ _ _ _ _ c.bring-total.ensures c.if-top-p.true

pub first_differing-requires : goal.first_differing-requires
first_differing-requires c = paired _ _ _ _ _ _ _ c.bring-total.ensures c.args.table.sound.marks

pub returns : goal.returns
returns c = differ _ _ _ _ _ _ _ c.bring-total.ensures c.if-top-p.false _ c.first_differing.ensures
