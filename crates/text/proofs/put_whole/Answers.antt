use Rattle.std.proofs.Common.{arith, rules, refl}
use Rattle.text.specs.Text.{count_line, list_text, vars_word, nodes_word, dnf_word, cnf_word, whole_text}
use Rattle.text.proofs.TextLaws.{count-short, list-short}
use Rattle.text.proofs.WritingLaws.{appends_then, prints}
use Rattle.text.proofs.put_whole.Goals as goal

pub put_count-requires : goal.put_count-requires
put_count-requires c = omega (arith, c.requires.5, count-short vars_word c.args.n (omega arith))

pub put_count-requires-2 : goal.put_count-requires-2
put_count-requires-2 c = omega (arith, c.requires.5, count-short vars_word c.args.n (omega arith), c.put_count.ensures.end, c.put_count.ensures.long, count-short nodes_word c.args.count (omega arith))

pub put_list-requires : goal.put_list-requires
put_list-requires c = (c.requires.0, c.requires.1, omega (arith, c.requires.5, count-short vars_word c.args.n (omega arith), c.put_count.ensures.end, c.put_count.ensures.long, count-short nodes_word c.args.count (omega arith), c.put_count-2.ensures.end, c.put_count-2.ensures.long, list-short dnf_word c.args.n c.args.dnf_count c.args.dnf.now c.requires.0 c.requires.3))

pub put_list-requires-2 : goal.put_list-requires-2
put_list-requires-2 c = (c.requires.0, c.requires.2, omega (arith, c.requires.5, count-short vars_word c.args.n (omega arith), c.put_count.ensures.end, c.put_count.ensures.long, count-short nodes_word c.args.count (omega arith), c.put_count-2.ensures.end, c.put_count-2.ensures.long, list-short dnf_word c.args.n c.args.dnf_count c.args.dnf.now c.requires.0 c.requires.3, c.put_list.ensures.end, c.put_list.ensures.long, list-short cnf_word c.args.n c.args.cnf_count c.args.cnf.now c.requires.0 c.requires.4))

pub returns : goal.returns
unfolding whole_text
returns c =
    let behind = appends_then (count_line nodes_word c.args.count) _ _ _ _ c.put_count-2.ensures (appends_then (list_text dnf_word c.args.n c.args.dnf_count c.args.dnf.now) _ _ _ _ c.put_list.ensures c.put_list-2.ensures) in
    prints _ _ _ _ _ _ refl refl (omega (arith, c.requires.5, count-short vars_word c.args.n (omega arith), c.put_count.ensures.end, c.put_count.ensures.long, count-short nodes_word c.args.count (omega arith), c.put_count-2.ensures.end, c.put_count-2.ensures.long, list-short dnf_word c.args.n c.args.dnf_count c.args.dnf.now c.requires.0 c.requires.3, c.put_list.ensures.end, c.put_list.ensures.long, list-short cnf_word c.args.n c.args.cnf_count c.args.cnf.now c.requires.0 c.requires.4, c.put_list-2.ensures.end, c.put_list-2.ensures.long)) (appends_then (count_line vars_word c.args.n) _ _ _ _ c.put_count.ensures behind) (search rules) (search rules)
