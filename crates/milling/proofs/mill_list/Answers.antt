use Rattle.std.proofs.Common.{rules}
use Rattle.entries.specs.Entries.{says}
use Rattle.milling.proofs.MillLaws.{tells_refused, tells-is, build-refused, build-goes}
use Rattle.milling.proofs.mill_list.Goals as goal

pub returns-in_err-made : goal.returns-in_err-made
returns-in_err-made c = tells_refused _ _ _ (build-refused c.args.n c.args.count c.args.clauses.now (says c.args.form) _ c.in_err-made.ensures.result_value) _ (search rules)

pub returns : goal.returns
returns c = tells-is _ _ _ _ _ (build-goes c.args.n c.args.count c.args.clauses.now (says c.args.form) _ c.in_ok-made.ensures.result_value _ c.build.ensures.nodes_after) c.mill_table.ensures
