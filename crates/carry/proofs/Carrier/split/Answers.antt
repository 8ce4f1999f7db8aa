use Rattle.std.proofs.Common.{arith}
use Rattle.carry.proofs.CarryLaws.{reading, own_mark, words_in}
use Rattle.carry.proofs.Carrier.split.Goals as goal

pub var_of-variable-requires : goal.var_of-variable-requires
var_of-variable-requires c =
    let r = reading _ _ _ _ _ _ c.args.self.now.ready _ c.requires in
    (omega (arith, words_in _ _ _ _ _ r), own_mark _ _ _ _ _ r)
