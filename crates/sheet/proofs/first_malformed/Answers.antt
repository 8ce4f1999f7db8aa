use mathlib.Core.Path.{ap, ◌∙◌}
use mathlib.Core.Bool.{false}
use native.Mathlib.Omega.{arith}
use Rattle.builders.specs.Builders.{first_bad_entry}
use Rattle.sheet.proofs.ByteLaws.{taken_long}
use Rattle.sheet.proofs.first_malformed.Goals as goal

pub slice_bounds-first_bad-end : goal.slice_bounds-first_bad-end
slice_bounds-first_bad-end c = taken_long _ _ _ _ _ c.fill_u64.ensures

pub first_bad-requires : goal.first_bad-requires
first_bad-requires c = (c.requires.0, c.requires.1, omega (arith, taken_long _ _ _ _ _ c.fill_u64.ensures))

pub returns : goal.returns
returns c = c.first_bad.ensures ∙ ap (first_bad_entry false _ _) c.fill_u64.ensures
