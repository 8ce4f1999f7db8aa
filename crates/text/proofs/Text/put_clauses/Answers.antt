use Rattle.std.proofs.Common.{arith, rules, ◌≡◌, ◌+◌, suc}
use Rattle.cube.specs.Cube.{clause_at}
use Rattle.text.specs.Text.{clause_lines}
use Rattle.text.proofs.TextLaws.{length-line, lines_step, lines-within}
use Rattle.text.proofs.WritingLaws.{appends_none, appends_then}
use Rattle.text.proofs.Text.put_clauses.Goals as goal

pub loop-i-init : goal.loop-i-init
loop-i-init c = unfold clause_lines in appends_none _

pub put_clause-requires : goal.put_clause-requires
put_clause-requires c = (
  c.requires.0,
  omega (
    arith,
    c.requires.2,
    c.loop-i.invariant.end,
    c.loop-i.invariant.long,
    lines-within c.args.n c.args.list.now c.args.count c.loop-i.i (search rules),
    length-line c.args.n (clause_at c.args.list.now c.loop-i.i),
  ),
)

pub loop-i-preserved : goal.loop-i-preserved
loop-i-preserved c =
    let s : c.loop-i.i + 1 ≡ suc c.loop-i.i = omega arith in
    rw (s, lines_step c.args.n c.args.list.now c.loop-i.i) (appends_then _ _ _ _ _ c.loop-i.invariant c.put_clause.ensures)
