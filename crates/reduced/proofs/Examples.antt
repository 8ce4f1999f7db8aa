-- Small tables, computed.
use mathlib.Core.Path.{◌≡◌, refl}
use mathlib.Core.List.{[], ◌∷◌}
use Rattle.theory.specs.Table.{node_ok, link_ok}
use Rattle.theory.specs.Words.{nodes}
use Rattle.refusal.specs.Number.{order, REDUCED}
use Rattle.refusal.specs.First.{first_failing}
use Rattle.refusal.specs.Verdict.{refused, first_of, tried, judged}
use Rattle.table.specs.Inspection.{over_limit, too_short, first_bad, root_of}
use Rattle.reduced.specs.Reduced.{leads, reachable, repeated, node_reduced, first_unreduced, admits_walk}

-- nodes 2 and 3 are not reachable, though node 2 has a parent: the lowest is the place
parent : admits_walk 3 5 (3 ∷ 0 ∷ 0 ∷ 3 ∷ 1 ∷ 1 ∷ 2 ∷ 0 ∷ 1 ∷ 1 ∷ 0 ∷ 2 ∷ 0 ∷ 0 ∷ 1 ∷ []) ≡ refused REDUCED 2
unfolding admits_walk judged tried order first_of over_limit too_short first_bad first_unreduced first_failing node_ok link_ok node_reduced repeated reachable leads nodes
parent = refl

-- equal links
equal_links : admits_walk 1 3 (1 ∷ 0 ∷ 0 ∷ 1 ∷ 1 ∷ 1 ∷ 0 ∷ 1 ∷ 1 ∷ []) ≡ refused REDUCED 2
unfolding admits_walk judged tried order first_of over_limit too_short first_bad first_unreduced first_failing node_ok link_ok node_reduced repeated reachable leads nodes
equal_links = refl

-- a reduced table of another numbering is let in
other_numbering : admits_walk 2 5 (2 ∷ 0 ∷ 0 ∷ 2 ∷ 1 ∷ 1 ∷ 1 ∷ 1 ∷ 0 ∷ 1 ∷ 0 ∷ 1 ∷ 0 ∷ 3 ∷ 2 ∷ []) ≡ root_of 5
unfolding admits_walk judged tried order first_of over_limit too_short first_bad first_unreduced first_failing node_ok link_ok node_reduced repeated reachable leads nodes
other_numbering = refl
