use Rattle.std.proofs.Common.{sym, ◌∙◌}
use borrow.Author.Tests.{ltb-false}
use Rattle.refusal.proofs.Judged.{test_passed}
use Rattle.sheet.proofs.SheetLaws.{section_long}
use Rattle.sheet.proofs.admit_clauses.Goals as goal

pub first_malformed-bad-requires : goal.first_malformed-bad-requires
first_malformed-bad-requires c =
    let placed = test_passed _ _ _ _ c.in_ok-refuse_if.ensures in (
      ltb-false _ _ (test_passed _ _ _ _ c.in_ok-refuse_if-2.ensures),
      ltb-false _ _ (test_passed _ _ _ _ c.in_ok-refuse_if-3.ensures),
      section_long c.args.header c.args.bytes.now c.requires _ _ _ _ _ (sym placed ∙ c.is_misplaced-misplaced.ensures),
    )
