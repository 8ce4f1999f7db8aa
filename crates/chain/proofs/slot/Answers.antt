use mathlib.Core.Path.{refl}
use native.Mathlib.Nat.{mod-lt}
use Rattle.chain.specs.Chain.{slot_of}
use Rattle.chain.proofs.slot.Goals as goal

pub returns : goal.returns
unfolding slot_of
returns c = (refl, mod-lt _ c.requires)
