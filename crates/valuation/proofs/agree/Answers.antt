use mathlib.Core.Path.{◌∙◌}
use borrow.Author.Tests.{ne_eqb}
use Rattle.theory.proofs.Clauses.{fixed-differ, values_tell}
use Rattle.refusal.specs.Limits.{max_marks}
use Rattle.valuation.proofs.agree.Goals as goal

pub returns-then-first-second : goal.returns-then-first-second
returns-then-first-second c = values_tell max_marks _ _ c.requires c.if-first-second.true

pub returns-else-first-second : goal.returns-else-first-second
returns-else-first-second c = ne_eqb _ _ c.if-first-second.false ∙ fixed-differ max_marks _ _ c.requires c.if-first-second.false
