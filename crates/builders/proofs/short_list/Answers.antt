use Rattle.std.proofs.Common.{ap, ◌∙◌, length, ltb, ◌*◌}
use Rattle.builders.proofs.ListLaws.{short-words}
use Rattle.builders.proofs.short_list.Goals as goal

pub returns : goal.returns
returns g c = ap (λ k. ltb (length c.args.list.now) (k * c.args.count)) (c.WORDS.ensures ∙ g.met.E.Entries.words_are) ∙ short-words _ _ _
