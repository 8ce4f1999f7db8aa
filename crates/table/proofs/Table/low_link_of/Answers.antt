use native.Mathlib.Omega.{arith}
use Rattle.table.proofs.Table.low_link_of.Goals as goal

pub low_link_of-requires : goal.low_link_of-requires
low_link_of-requires c = omega (arith, c.requires, c.args.self.now.sound.long)
