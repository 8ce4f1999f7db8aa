use mathlib.Core.Path.{ap, ◌∙◌}
use native.Mathlib.Omega.{arith}
use Rattle.refusal.specs.Verdict.{replied}
use Rattle.table.specs.Inspection.{roots}
use Rattle.sheet.proofs.ByteLaws.{taken_long}
use Rattle.sheet.proofs.section_root.Goals as goal

pub slice_bounds-ordered_root-end : goal.slice_bounds-ordered_root-end
slice_bounds-ordered_root-end c = taken_long _ _ _ _ _ c.fill_u32.ensures

pub ordered_root-requires : goal.ordered_root-requires
ordered_root-requires c = (c.requires.0, c.requires.1, omega (arith, taken_long _ _ _ _ _ c.fill_u32.ensures))

pub returns : goal.returns
returns c = c.ordered_root.ensures ∙ ap (λ w. replied (roots c.args.n c.args.count w)) c.fill_u32.ensures
