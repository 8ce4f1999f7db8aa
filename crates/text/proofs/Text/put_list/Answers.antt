use Rattle.std.proofs.Common.{arith}
use Rattle.std.proofs.Math.ListN.{length-append}
use Rattle.text.specs.Text.{clause_lines, count_line}
use Rattle.text.proofs.WritingLaws.{appends_then}
use Rattle.text.proofs.Text.put_list.Goals as goal

pub put_count-requires : goal.put_count-requires
put_count-requires c = omega (arith, c.requires.2, length-append (count_line c.args.word.now c.args.count) (clause_lines c.args.n c.args.list.now c.args.count))

pub put_clauses-requires : goal.put_clauses-requires
put_clauses-requires c =
    (c.requires.0, c.requires.1, omega (arith, c.requires.2, length-append (count_line c.args.word.now c.args.count) (clause_lines c.args.n c.args.list.now c.args.count), c.put_count.ensures.end, c.put_count.ensures.long))

pub returns : goal.returns
returns c = appends_then _ _ _ _ _ c.put_count.ensures c.put_clauses.ensures
