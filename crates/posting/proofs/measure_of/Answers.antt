use mathlib.Core.Path.{refl}
use Rattle.posting.specs.Posting.{measure}
use Rattle.posting.proofs.measure_of.Goals as goal

pub returns : goal.returns
unfolding measure
returns c = refl
