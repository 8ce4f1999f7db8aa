use Rattle.std.proofs.Common.{rules}
use mathlib.Core.Bool.{true}
use Rattle.milling.proofs.MillLaws.{tells_refused, tells-is, listed-few, listed-within, dnf-refused, dnf-goes}
use Rattle.milling.proofs.mill_table.Goals as goal

pub returns-in_err-listed : goal.returns-in_err-listed
returns-in_err-listed c = tells_refused _ _ _ (dnf-refused c.args.n c.args.count c.args.table.now _ c.in_err-listed.ensures.result_value) _ (search rules)

pub mill_cnf-requires : goal.mill_cnf-requires
mill_cnf-requires c =
    let few = listed-few true c.args.n c.args.count c.args.table.now _ c.in_ok-listed.ensures.result_value in
    let within = listed-within true c.args.n c.args.count c.args.table.now _ c.in_ok-listed.ensures.result_value c.to_dnf.new.out c.to_dnf.auto.out in
    (c.requires.0, few, within, c.requires.1)

pub returns : goal.returns
returns c = tells-is _ _ _ _ _ (dnf-goes c.args.n c.args.count c.args.table.now _ c.in_ok-listed.ensures.result_value _ c.to_dnf.ensures.out_after) c.mill_cnf.ensures
