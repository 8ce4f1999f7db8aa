use Rattle.std.proofs.Common.{sym, ap, ◌∙◌}
use Rattle.refusal.specs.Number.{number_of}
use Rattle.refusal.specs.Told.{nothing, reply_of}
use Rattle.refusal.proofs.Judged.{test_passed}
use Rattle.builders.proofs.ListLaws.{list_decides, entry-is}
use Rattle.builders.proofs.check_list.Goals as goal

pub returns : goal.returns
returns g c =
    ap (reply_of nothing) c.refuse_if-6.ensures
    ∙ list_decides _ _ _ _ _ _ _
    (sym (test_passed _ _ _ _ c.in_ok-refuse_if.ensures) ∙ c.over_list.ensures)
    (sym (test_passed _ _ _ _ c.in_ok-refuse_if-2.ensures) ∙ c.over_room.ensures)
    (sym (test_passed _ _ _ _ c.in_ok-refuse_if-3.ensures) ∙ c.short_list.ensures)
    (sym (test_passed _ _ _ _ c.in_ok-refuse_if-4.ensures) ∙ c.short_output.ensures)
    (sym (test_passed _ _ _ _ c.in_ok-refuse_if-5.ensures) ∙ c.short_work.ensures)
    _
    (ap number_of c.BAD.ensures ∙ g.met.E.Entries.bad_is ∙ entry-is _)
    _
    c.first_bad-bad.ensures
