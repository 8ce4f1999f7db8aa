use Rattle.std.proofs.Common.{rules}
use Rattle.implies.proofs.ImpliesLaws.{start_ready, start-stands, whole_says}
use Rattle.implies.proofs.tables_say_no.Goals as goal

pub says_no-requires : goal.says_no-requires
says_no-requires c = (start_ready _ _ _ _ c.requires _ c.fill.auto.self (search rules), start-stands _ _ _ _ c.requires)

pub returns : goal.returns
returns c = whole_says _ _ _ _ c.requires c.says_no.result c.says_no.ensures.empty
