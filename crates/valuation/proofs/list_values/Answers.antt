use mathlib.Core.Path.{ap, ◌∙◌}
use Rattle.refusal.specs.Verdict.{gives}
use Rattle.valuation.specs.Marks.{marks_left}
use Rattle.valuation.specs.Replies.{replied_in}
use Rattle.valuation.proofs.Listing.{listed_start, room, room_fits, count_fits, listed_next, listed-end}
use Rattle.valuation.proofs.list_values.Goals as goal

pub loop-mark-init : goal.loop-mark-init
loop-mark-init c = listed_start _ c.requires _ (ap marks_left c.into_iter-mark-iterator.ensures.into_iter_gives ∙ c.marks_of-mark-items.ensures)

pub offset_bounds-words-count : goal.offset_bounds-words-count
offset_bounds-words-count c = record { fits = room_fits c.loop-mark.invariant c.in-Some.ensures.steps }

pub bounds-words-count : goal.bounds-words-count
bounds-words-count c = room c.loop-mark.invariant c.in-Some.ensures.steps

pub overflow_add-count : goal.overflow_add-count
overflow_add-count c = record { fits = count_fits c.loop-mark.invariant c.in-Some.ensures.steps }

pub loop-mark-preserved : goal.loop-mark-preserved
loop-mark-preserved c = listed_next c.loop-mark.invariant c.in-Some.ensures.steps c.has_bit.ensures c.entry_of.ensures

pub returns : goal.returns
unfolding replied_in
returns c = ap gives (listed-end c.loop-mark.invariant c.in-None.ensures.steps.0)
