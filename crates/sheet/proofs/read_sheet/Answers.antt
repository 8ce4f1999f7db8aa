use Rattle.std.proofs.Common.{sym, ◌∙◌}
use Rattle.sheet.proofs.HeaderLaws.{whole}
use Rattle.sheet.proofs.SheetLaws.{reads_headless, none}
use Rattle.sheet.proofs.read_sheet.Goals as goal

pub returns-then-is_headless-clause-result_value : goal.returns-then-is_headless-clause-result_value
returns-then-is_headless-clause-result_value c = (none _ c.args.clauses.now c.args.nodes.now (reads_headless _ _ _ (sym c.if-is_headless.true ∙ c.is_headless.ensures))).reply

pub returns-then-is_headless-clause-clauses_after : goal.returns-then-is_headless-clause-clauses_after
returns-then-is_headless-clause-clauses_after c = (none _ _ c.args.nodes.now (reads_headless _ _ _ (sym c.if-is_headless.true ∙ c.is_headless.ensures))).list

pub returns-then-is_headless-clause-nodes_after : goal.returns-then-is_headless-clause-nodes_after
returns-then-is_headless-clause-nodes_after c = (none _ c.args.clauses.now _ (reads_headless _ _ _ (sym c.if-is_headless.true ∙ c.is_headless.ensures))).table

pub read_header-requires : goal.read_header-requires
read_header-requires c = (whole _ (sym c.if-is_headless.false ∙ c.is_headless.ensures)).enough
