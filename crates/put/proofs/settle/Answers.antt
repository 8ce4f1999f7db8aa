use Rattle.std.proofs.lemmas.Bool.{eqb-true}
use Rattle.std.proofs.Common.{sym, ◌∙◌}
use mathlib.Core.Path.{refl}
use Rattle.put.proofs.SettleLaws.{slot_in, a_small, same-settled, root_in, made_settled}
use Rattle.put.proofs.settle.Goals as goal

pub keep-requires : goal.keep-requires
keep-requires c = (slot_in _ _ _ _ _ _ _ c.requires c.args.work.now refl, c.requires.noded.pushing.few, c.requires.stamp, a_small _ _ _ _ _ _ _ c.requires)

pub returns-then-eq-2 : goal.returns-then-eq-2
returns-then-eq-2 c = same-settled _ _ _ _ _ _ _ c.requires (eqb-true _ _ (sym c.eq.ensures ∙ c.if-eq.true)) (eqb-true _ _ (sym c.eq-then-eq.ensures ∙ c.if-eq-2.true)) _ c.keep.ensures

pub keep-requires-2 : goal.keep-requires-2
keep-requires-2 c = let h = c.in_ok-r.ensures in
    (slot_in _ _ _ _ _ _ _ c.requires c.make_node.new.work c.make_node.auto.work, c.requires.noded.pushing.few, c.requires.stamp, root_in _ _ _ _ _ _ _ c.requires _ _ _ h.holds)

pub returns : goal.returns
returns c = let h = c.in_ok-r.ensures in
    made_settled _ _ _ _ _ _ _ c.requires c.make_node.new.work c.in_ok-r.r.0 c.in_ok-r.more h c.make_node.auto.work _ c.keep-2.ensures
