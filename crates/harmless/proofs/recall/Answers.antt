-- `recall`: another count, or the words compared.
use Rattle.std.proofs.Common.{arith, ◌≡◌, ◌+◌, ◌-◌, ◌*◌, take, drop, sym, ap, ◌∙◌}
use Rattle.theory.specs.Words.{stride}
use Rattle.harmless.proofs.SlotLaws.{words_equal, inside, hit}
use Rattle.harmless.proofs.recall.Goals as goal

pub bounds-known-at : goal.bounds-known-at
bounds-known-at c = omega (arith, c.requires.long, inside _ _ _ _ c.args.function.canonical _ c.requires.long _ c.slot_of-at.ensures)

pub slice_bounds-eq-end : goal.slice_bounds-eq-end
slice_bounds-eq-end c = omega (arith, c.requires.long, c.args.function.canonical.fits, inside _ _ _ _ c.args.function.canonical _ c.requires.long _ c.slot_of-at.ensures)

pub returns : goal.returns
returns c = λ e.
    let at = c.slot_of-at.result in
    let n : at + 1 + stride * c.args.function.count - (at + 1) ≡ stride * c.args.function.count = omega arith in
    hit _ _ _ _ c.args.function.canonical _ c.requires.long _ c.slot_of-at.ensures c.requires.remembers c.if-known-at.false
    (ap (λ i. take i (drop (at + 1) c.args.known.now)) (sym n) ∙ words_equal _ _ (sym c.eq.ensures ∙ e))
