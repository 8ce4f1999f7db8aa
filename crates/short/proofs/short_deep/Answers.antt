-- `short_deep`: the test itself.
use Rattle.short.proofs.AdmitLaws.{deep_is}
use Rattle.short.proofs.short_deep.Goals as goal

pub returns : goal.returns
returns c = deep_is _ _ _
