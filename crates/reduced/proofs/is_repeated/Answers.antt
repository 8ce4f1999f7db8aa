use mathlib.Core.Path.{◌∙◌}
use mathlib.Core.Bool.{true, false}
use native.Mathlib.Omega.{arith}
use Rattle.theory.proofs.Words.{child_falls}
use Rattle.reduced.proofs.ReducedLaws.{searched_repeats}
use Rattle.reduced.proofs.is_repeated.Goals as goal

pub find_node-found-requires : goal.find_node-found-requires
find_node-found-requires c = (omega (arith, c.requires.1, c.args.table.now.sound.long), omega (arith, c.low_link_of.ensures, child_falls _ _ _ c.args.table.now.sound.ordered _ false c.requires.0 c.requires.1), omega (arith, c.high_link_of.ensures, child_falls _ _ _ c.args.table.now.sound.ordered _ true c.requires.0 c.requires.1))

pub returns : goal.returns
returns c = c.is_some.ensures ∙ searched_repeats _ _ _ _ c.args.table.now.sound _ c.requires.0 c.requires.1 _ _ _ c.var_of.ensures c.low_link_of.ensures c.high_link_of.ensures
    _ c.find_node-found.ensures
