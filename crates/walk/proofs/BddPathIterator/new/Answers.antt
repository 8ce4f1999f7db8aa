use Rattle.std.proofs.Common.{ap, refl}
use Rattle.walk.specs.Path.{in_array}
use Rattle.walk.specs.Step.{PathStart}
use Rattle.walk.proofs.StartLaws.{words_found, words_refused}
use Rattle.walk.proofs.Holding.{came_start}
use Rattle.walk.proofs.BddPathIterator.new.Goals as goal

pub invariant_of-result : goal.invariant_of-result
unfolding in_array
invariant_of-result c = record { came = came_start _ _ _ _ _ (words_refused _ _ _ _ c.in-Err.ensures) (ap (λ (z : PathStart). z.first) c.in-Err.ensures) }

pub returns-in-Err : goal.returns-in-Err
unfolding in_array
returns-in-Err c = (words_refused _ _ _ _ c.in-Err.ensures, refl, c.in-Err.ensures)

pub invariant_of-result-2 : goal.invariant_of-result-2
invariant_of-result-2 c = record { came = came_start _ _ _ _ _ (words_found _ _ _ _ c.in-Ok.ensures) (ap (λ (z : PathStart). z.first) c.in-Ok.ensures) }

pub returns : goal.returns
returns c = (words_found _ _ _ _ c.in-Ok.ensures, refl, c.in-Ok.ensures)
