use Rattle.std.proofs.Common.{ap, ◌++◌, drop, replicate}
use Rattle.walk.specs.Path.{pointer, places}
use Rattle.walk.proofs.PathLaws.{cut_state}
use Rattle.walk.proofs.cut.Goals as goal

pub returns : goal.returns
returns c = cut_state _ _ _ c.requires.0 c.requires.1 (ap (λ x. x ++ drop c.args.keep (replicate places (pointer 0))) c.copy_from_slice.ensures.after)
