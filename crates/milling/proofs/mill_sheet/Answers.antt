use Rattle.std.proofs.Common.{rules, refl, sym, ap, ◌∙◌}
use Rattle.refusal.specs.Number.{number_of}
use Rattle.refusal.specs.declared.Refusal.{Refusal}
use Rattle.refusal.proofs.Judged.{test_passed, test_refused}
use Rattle.text.specs.Text.{refused_text}
use Rattle.sheet.specs.declared.Kind.{Kind}
use Rattle.sheet.specs.Sheet.{kind_number}
use Rattle.milling.specs.Mill.{list_text}
use Rattle.milling.proofs.MillLaws.{tells_refused, tells-is, mill-not_taken, read_refused, section_marks, section_goes, table-refused}
use Rattle.milling.proofs.mill_sheet.Goals as goal

pub returns-in_err-refuse_if : goal.returns-in_err-refuse_if
returns-in_err-refuse_if c =
    let no = test_refused _ _ _ _ c.in_err-refuse_if.ensures in
    tells_refused _ _ _ (mill-not_taken c.args.bytes.now (sym no.0 ∙ c.is_not_taken.ensures) ∙ sym (ap (λ (r : Refusal). refused_text (number_of r.kind) r.place) no.1)) _ (search rules)

pub returns-in_err-section : goal.returns-in_err-section
returns-in_err-section c = tells_refused _ _ _ (read_refused c.args.bytes.now (sym (test_passed _ _ _ _ c.in_ok-refuse_if.ensures) ∙ c.is_not_taken.ensures) _ c.in_err-section.ensures.result_value) _ (search rules)

pub mill_list-requires : goal.mill_list-requires
mill_list-requires c = (section_marks c.args.bytes.now (sym (test_passed _ _ _ _ c.in_ok-refuse_if.ensures) ∙ c.is_not_taken.ensures) _ c.in_ok-section.ensures.result_value, c.requires)

pub returns-in-Clauses : goal.returns-in-Clauses
returns-in-Clauses c =
    let kind = ap (λ (k : Kind). list_text (kind_number k) c.in_ok-section.section.n c.in_ok-section.section.count c.read_sheet.new.clauses) c.in-Clauses.is in
    let goes = section_goes c.args.bytes.now (sym (test_passed _ _ _ _ c.in_ok-refuse_if.ensures) ∙ c.is_not_taken.ensures) _ c.in_ok-section.ensures.result_value _ c.read_sheet.ensures.clauses_after in
    tells-is _ _ _ _ _ (sym kind ∙ goes) c.mill_list.ensures

pub returns-in-Table : goal.returns-in-Table
returns-in-Table c = (table-refused c.args.bytes.now (sym (test_passed _ _ _ _ c.in_ok-refuse_if.ensures) ∙ c.is_not_taken.ensures) _ c.in_ok-section.ensures.result_value (ap kind_number c.in-Table.is) _ c.read_sheet.ensures.clauses_after, refl)
