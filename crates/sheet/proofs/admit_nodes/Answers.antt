use Rattle.std.proofs.Common.{sym, ◌∙◌}
use Rattle.refusal.proofs.Judged.{test_passed}
use Rattle.table.proofs.InspectLaws.{within}
use Rattle.sheet.proofs.SheetLaws.{section_long}
use Rattle.sheet.proofs.admit_nodes.Goals as goal

pub section_root-requires : goal.section_root-requires
section_root-requires c =
    let placed = test_passed _ _ _ _ c.in_ok-refuse_if.ensures in
    let l = within _ _ (sym (test_passed _ _ _ _ c.in_ok-refuse_if-3.ensures) ∙ c.over_limit.ensures) in
    (l.some, l.few, section_long c.args.header c.args.bytes.now c.requires _ _ _ _ _ (sym placed ∙ c.is_misplaced-misplaced.ensures))
