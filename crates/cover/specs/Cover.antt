-- What the cover check answers, for any input at all: its findings, its opening runs, and the first case that list and table tell apart.
use Rattle.std.specs.Prelude.{Bool, false, true, cond, ◌||◌, List, [], ◌∷◌, ℕ, zero, suc, ◌+◌, ◌*◌, ◌/◌, ◌≤◌, max, ltb}
use Rattle.std.specs.Bool.{beq}
use Rattle.theory.specs.Mask.{odd}
use Rattle.theory.specs.Tree.{Tree, leaf, fork, same_tree}
use Rattle.theory.specs.Table.{meaning}
use Rattle.theory.specs.Words.{nodes}
use Rattle.refusal.specs.Number.{LIMIT, SHORT, CLAUSE, NODES}
use Rattle.refusal.specs.Limits.{max_nodes, max_clauses}
use Rattle.refusal.specs.Verdict.{Finding, finding, Verdict, answered, judged}
use Rattle.table.specs.Inspection.{over_limit, too_short, not_ordered}
use Rattle.making.specs.Room.{over_room, short_work}
use Rattle.cube.specs.Cube.{clause_at}
use Rattle.builders.specs.Builders.{over_list, short_list, first_bad_entry, run_means, shortest_over}
use Rattle.cover.specs.declared.Cover.{Cover}
use Rattle.cover.specs.declared.Cover.TheVariants.{Agrees, Differs}

-- agreement is 0, a difference 1 and the case
abbrev pub cover_words : Cover → List ℕ
cover_words Agrees = 0 ∷ []
cover_words (Differs c) = 1 ∷ c ∷ []

-- LIMIT: over 60 marks, a table count outside 1..4096, over 1,024 clauses, or a room outside 2..4096
unfoldable pub over_cover : ℕ → ℕ → ℕ → ℕ → Bool
over_cover n count clauses room = over_limit n count || over_list n clauses || over_room room

-- SHORT: the table or the list ends before its count, or the work is too small for the larger of room and node count
unfoldable pub short_cover : ℕ → List ℕ → ℕ → List ℕ → ℕ → List ℕ → Bool
short_cover count words clauses list room work = too_short count words || short_list false clauses list || short_work (max room count) work

-- counts and room within the limits
pub record Within (count clauses room : ℕ) : Type 0 where
  pub count-few : count ≤ max_nodes
  pub clauses-few : clauses ≤ max_clauses
  pub room-few : room ≤ max_nodes

-- what may be wrong with a table, a list, a room and work
abbrev pub cover_findings : ℕ → ℕ → List ℕ → ℕ → List ℕ → ℕ → List ℕ → List Finding
cover_findings n count words clauses list room work =
    finding LIMIT (over_cover n count clauses room) 0
    ∷ finding SHORT (short_cover count words clauses list room work) 0
    ∷ finding CLAUSE (ltb (first_bad_entry false n clauses list) clauses) (first_bad_entry false n clauses list)
    ∷ not_ordered n count words
    ∷ []

-- of two cases of k marks, which comes first: the lowest mark in which they differ decides, 0 before 1
unfoldable pub earlier : ℕ → ℕ → ℕ → Bool
earlier zero c d = false
earlier (suc k) c d = cond (beq (odd c) (odd d)) (earlier k (c / 2) (d / 2)) (odd d)

-- the first case in that order that two functions tell apart: with the mark at 0 if they differ there, else at 1
unfoldable pub first_differing : Tree → Tree → ℕ
first_differing (leaf a) u = 0
first_differing (fork lo hi) (leaf b) = 0
first_differing (fork lo hi) (fork lo' hi') = cond (same_tree lo lo') (2 * first_differing hi hi' + 1) (2 * first_differing lo lo')

abbrev pub agreement : Verdict
agreement = answered (0 ∷ []) []

abbrev pub difference : ℕ → Verdict
difference c = answered (1 ∷ c ∷ []) []

-- two functions compared
unfoldable pub cover_answer : Tree → Tree → Verdict
cover_answer t u = cond (same_tree t u) agreement (difference (first_differing t u))

-- past inspection: NODES where some opening run's table exceeds room, at the shortest's length; else list and table compared
unfoldable pub covers : ℕ → ℕ → List ℕ → ℕ → List ℕ → ℕ → Verdict
covers n count words clauses list room =
    judged
    (finding NODES (ltb (shortest_over true n clauses (clause_at list) room) (suc clauses)) (shortest_over true n clauses (clause_at list) room) ∷ [])
    (cover_answer (run_means true n (clause_at list) clauses) (meaning n (nodes count words)))

unfoldable pub checks_cover : ℕ → ℕ → List ℕ → ℕ → List ℕ → ℕ → List ℕ → Verdict
checks_cover n count words clauses list room work = judged (cover_findings n count words clauses list room work) (covers n count words clauses list room)
