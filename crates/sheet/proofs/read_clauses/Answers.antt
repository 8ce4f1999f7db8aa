use Rattle.std.proofs.Common.{rules}
use Rattle.refusal.proofs.Judged.{judged_refuses, judged_goes}
use Rattle.entries.specs.Entries.{says}
use Rattle.sheet.specs.Sheet.{clause_findings}
use Rattle.sheet.proofs.SheetLaws.{reads_clauses, section_refused, section_given, clauses_quiet, clauses_giving}
use Rattle.sheet.proofs.read_clauses.Goals as goal

pub returns-in_err-admit_clauses : goal.returns-in_err-admit_clauses
returns-in_err-admit_clauses c = section_refused _ _ _ (reads_clauses c.args.bytes.now c.args.clauses.now c.args.nodes.now c.args.header c.requires.0 (says c.args.form) c.requires.1) (clauses_quiet c.args.header c.args.bytes.now) _ (λ u. judged_refuses _ u _ c.in_err-admit_clauses.ensures) c.from_residual.result (search rules) _ _

pub give_clauses-requires : goal.give_clauses-requires
give_clauses-requires c = (clauses_giving c.args.header c.args.bytes.now c.requires.0 (λ v. judged_goes (clause_findings c.args.header c.args.bytes.now) v c.in_ok-admit_clauses.ensures), c.requires.1)

pub returns : goal.returns
returns c = section_given _ _ _ (reads_clauses c.args.bytes.now c.args.clauses.now c.args.nodes.now c.args.header c.requires.0 (says c.args.form) c.requires.1) (judged_goes _ _ c.in_ok-admit_clauses.ensures) _ _ _ _ _ c.give_clauses.ensures
