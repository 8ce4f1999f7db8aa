use Rattle.std.proofs.Common.{ap, ◌∙◌}
use Rattle.theory.specs.Clause.{Clause, malformed}
use Rattle.builders.proofs.ListLaws.{bad-entry}
use Rattle.builders.proofs.is_bad.Goals as goal

pub returns : goal.returns
returns g c = c.is_malformed.ensures ∙ ap (λ (x : Clause). malformed c.args.n x.fixed x.values) c.entry_at.ensures ∙ bad-entry _ _ _ _
