use Rattle.std.proofs.Common.{rules}
use Rattle.refusal.proofs.Judged.{refusal_stays}
use Rattle.sheet.proofs.SheetLaws.{reads_table, answer_stays, section_refused, section_given, nodes_quiet, nodes_giving}
use Rattle.sheet.proofs.read_table.Goals as goal

pub returns-in_err-admit_nodes : goal.returns-in_err-admit_nodes
returns-in_err-admit_nodes c = section_refused _ _ _ (reads_table c.args.bytes.now c.args.clauses.now c.args.nodes.now c.args.header c.requires.0 c.requires.1) (nodes_quiet c.args.header c.args.bytes.now c.args.nodes.now) _ (refusal_stays _ _ _ _ _ c.in_err-admit_nodes.ensures) c.from_residual.result (search rules) _ _

pub give_table-requires : goal.give_table-requires
give_table-requires c = nodes_giving c.args.header c.args.bytes.now c.requires.0 c.args.nodes.now _ c.in_ok-admit_nodes.ensures

pub returns : goal.returns
returns c = section_given _ _ _ (reads_table c.args.bytes.now c.args.clauses.now c.args.nodes.now c.args.header c.requires.0 c.requires.1) (answer_stays _ _ _ _ c.in_ok-admit_nodes.ensures) _ _ _ _ _ c.give_table.ensures
