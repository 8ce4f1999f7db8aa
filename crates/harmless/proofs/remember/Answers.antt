-- `remember`: the count, then the words.
use Rattle.std.proofs.Common.{arith}
use lib.ListN.{length-set}
use Rattle.harmless.proofs.SlotLaws.{inside, kept_put}
use Rattle.harmless.proofs.remember.Goals as goal

pub bounds-known-at : goal.bounds-known-at
bounds-known-at c = omega (arith, c.requires.long, inside _ _ _ _ c.args.function.canonical _ c.requires.long _ c.slot_of-at.ensures)

pub slice_bounds-copy_words-end : goal.slice_bounds-copy_words-end
slice_bounds-copy_words-end c = omega (arith, length-set c.args.known.now c.slot_of-at.result c.args.function.count, c.requires.long, c.args.function.canonical.fits, inside _ _ _ _ c.args.function.canonical _ c.requires.long _ c.slot_of-at.ensures)

pub returns : goal.returns
returns c = record { remembers = kept_put _ _ _ _ c.args.function.canonical _ c.requires.long _ c.slot_of-at.ensures c.requires.remembers c.requires.harmless _ c.copy_words.ensures _ (omega arith) }
