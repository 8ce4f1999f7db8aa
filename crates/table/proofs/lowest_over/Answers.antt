use Rattle.table.proofs.CaseLaws.{lowest_is}
use borrow.Author.Rules.{rules}
use Rattle.table.proofs.lowest_over.Goals as goal

pub returns : goal.returns
returns c = lowest_is _ _ c.requires.1 (search rules)
