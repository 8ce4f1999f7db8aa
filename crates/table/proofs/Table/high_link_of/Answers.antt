use native.Mathlib.Omega.{arith}
use Rattle.table.proofs.Table.high_link_of.Goals as goal

pub high_link_of-requires : goal.high_link_of-requires
high_link_of-requires c = omega (arith, c.requires, c.args.self.now.sound.long)
