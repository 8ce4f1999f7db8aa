use Rattle.walk.proofs.StartLaws.{first-none, first-descends, first_goes}
use Rattle.walk.proofs.first_path.Goals as goal

pub returns-then-table-eq0 : goal.returns-then-table-eq0
returns-then-table-eq0 c = first-none c.args.table.n c.args.table.count _ _ c.if-table-eq0.true

pub descend-requires : goal.descend-requires
descend-requires c = ∣ first-descends _ _ _ _ c.args.table.sound c.requires c.if-table-eq0.false ∣₁

pub returns : goal.returns
returns c = first_goes c.args.table.n c.args.table.count _ _ c.if-table-eq0.false _ c.descend.ensures
