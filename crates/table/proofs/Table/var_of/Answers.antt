use native.Mathlib.Omega.{arith}
use Rattle.table.proofs.TableLaws.{sound_mark}
use Rattle.table.proofs.Table.var_of.Goals as goal

pub var_of-requires : goal.var_of-requires
var_of-requires c = (omega (arith, c.requires, c.args.self.now.sound.long), sound_mark _ _ _ _ c.args.self.now.sound _ c.requires)
