use Rattle.std.proofs.Common.{sym, ap, ◌∙◌, not, arith}
use Rattle.refusal.proofs.Firsts.{first-is, first-none}
use Rattle.builders.specs.Builders.{bad_entry, first_bad_entry}
use Rattle.builders.proofs.first_bad.Goals as goal

pub returns-then-is_bad : goal.returns-then-is_bad
unfolding first_bad_entry
returns-then-is_bad g c = sym (first-is (λ j. not (bad_entry g.E.Entries.cases c.args.n c.args.list.now j)) _ _ c.loop-i-test.true c.loop-i.invariant (ap not (sym c.is_bad.ensures ∙ c.if-is_bad.true)))

pub returns : goal.returns
unfolding first_bad_entry
returns g c = sym (first-none (λ j. not (bad_entry g.E.Entries.cases c.args.n c.args.list.now j)) _ (λ j h. c.loop-i.invariant j (omega (arith, c.loop-i-test.false))))
