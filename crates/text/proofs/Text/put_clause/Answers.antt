use Rattle.std.proofs.Common.{arith, ◌≡◌, ◌+◌, suc, ◌∷◌, []}
use Rattle.std.proofs.Math.ListN.{length-append}
use Rattle.theory.specs.Clause.{clause}
use Rattle.text.specs.Text.{cell_chars}
use Rattle.text.proofs.TextLaws.{length-cells, cells-step}
use Rattle.text.proofs.WritingLaws.{appends_none, appends_then}
use Rattle.text.proofs.Text.put_clause.Goals as goal

pub loop-mark-init : goal.loop-mark-init
loop-mark-init c = unfold cell_chars in appends_none _

pub put_byte-requires : goal.put_byte-requires
put_byte-requires c =
    let m = clause c.args.v.fixed c.args.v.values in
    omega (arith, c.requires.1, length-append (cell_chars c.args.n m) (10 ∷ []), length-cells c.args.n m, length-cells c.loop-mark.mark m, c.loop-mark.invariant.end, c.loop-mark.invariant.long)

pub loop-mark-preserved : goal.loop-mark-preserved
loop-mark-preserved c =
    let s : c.loop-mark.mark + 1 ≡ suc c.loop-mark.mark = omega arith in
    rw (s, cells-step (clause c.args.v.fixed c.args.v.values) c.loop-mark.mark, ← c.cell_char.ensures) (appends_then _ _ _ _ _ c.loop-mark.invariant c.put_byte.ensures)
