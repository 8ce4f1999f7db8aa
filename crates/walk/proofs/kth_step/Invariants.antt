use Rattle.std.proofs.Common.{◌≡◌, ◌-◌}
use Rattle.walk.specs.Walk.{path_in}
use Rattle.walk.specs.Step.{start_of, words_of, path_of, path_after}
use Rattle.walk.proofs.kth_step.Given as goal

abbrev pub invariant-loop-i : goal.invariant-loop-i
invariant-loop-i l = (l.walk.bdd.now ≡ words_of l.n l.count l.nodes) × (path_in l.walk ≡ path_after l._i (words_of l.n l.count l.nodes) (path_of (start_of l.n l.count l.nodes)))

abbrev pub decreases-loop-i : goal.decreases-loop-i
decreases-loop-i l = l.k - l._i
