-- `short_list`: solved; a table was over room, or there are too many clauses, or they are trimmed.
use Rattle.held.proofs.HeldLaws.{tab-of}
use Rattle.trimming.proofs.ListLaws.{deep_enough, list_nodes, list_over, list_done}
use Rattle.trimming.proofs.short_list.Goals as goal

pub solve-requires-clause-deep : goal.solve-requires-clause-deep
solve-requires-clause-deep c = deep_enough _ _ _ _ c.requires.deep

pub returns-in_default : goal.returns-in_default
returns-in_default c = list_nodes _ _ _ _ _ (tab-of _ _ _ _ c.args.function.canonical) c.args.out.now c.in_default.ensures c.args.out.now

pub returns-then-k-out : goal.returns-then-k-out
returns-then-k-out c = list_over _ _ _ _ _ (tab-of _ _ _ _ c.args.function.canonical) _ _ _ _ c.in-Some.ensures c.if-k-out.true

pub returns : goal.returns
returns c = list_done _ _ _ _ _ (tab-of _ _ _ _ c.args.function.canonical) _ _ _ _ c.in-Some.ensures c.if-k-out.false _ c.trim_marks.auto.out c.trim_marks.ensures
