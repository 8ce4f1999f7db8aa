use Rattle.std.proofs.Common.{rules}
use mathlib.Core.Bool.{false}
use Rattle.milling.proofs.MillLaws.{tells_refused, prints-is, listed-few, listed-within, cnf-refused, cnf-goes}
use Rattle.milling.proofs.mill_cnf.Goals as goal

pub returns-in_err-listed : goal.returns-in_err-listed
returns-in_err-listed c = tells_refused _ _ _ (cnf-refused c.args.n c.args.count c.args.table.now c.args.dnf_count c.args.dnf.now _ c.in_err-listed.ensures.result_value) _ (search rules)

pub put_whole-requires : goal.put_whole-requires
put_whole-requires c =
    let few = listed-few false c.args.n c.args.count c.args.table.now _ c.in_ok-listed.ensures.result_value in
    let within = listed-within false c.args.n c.args.count c.args.table.now _ c.in_ok-listed.ensures.result_value c.to_cnf.new.out c.to_cnf.auto.out in
    (c.requires.0, c.requires.2, within, c.requires.1, few, c.requires.3)

pub returns : goal.returns
returns c = prints-is _ _ _ _ _ (cnf-goes c.args.n c.args.count c.args.table.now c.args.dnf_count c.args.dnf.now _ c.in_ok-listed.ensures.result_value _ c.to_cnf.ensures.out_after) c.put_whole.ensures
