-- The specification's starred cases, computed from the entries' own verdicts: one table of rows under one claim.
use mathlib.Core.Path.{◌≡◌, refl}
use mathlib.Core.List.{List, [], ◌∷◌, map}
use Prim.Native.Nat.{ℕ, ◌*◌}
use lib.ListN.{length, replicate}
use Rattle.theory.specs.Table.{Table, node, constants, step, tree_of, meaning, node_ok, link_ok, find, grow, mk, walk, canon}
use Rattle.theory.specs.Tree.{tabulate, pointwise, cofactor, case_count, konst, same_tree, support_of}
use Rattle.theory.specs.Mask.{bit, set_bit}
use Rattle.theory.specs.Words.{nodes, words_of}
use Rattle.theory.specs.Clause.{clause, empty_clause, set_cell, unset_cell, marks_of, malformed}
use Rattle.refusal.specs.Number.{NODES, REDUCED, order}
use Rattle.refusal.specs.Limits.{plain_work, deep_work}
use Rattle.refusal.specs.First.{first_failing}
use Rattle.refusal.specs.Verdict.{Verdict, refused, judged, tried, first_of}
use Rattle.table.specs.Inspection.{over_limit, too_short, first_bad}
use Rattle.making.specs.Made.{makes, table_answer}
use Rattle.making.specs.Room.{over_room, short_output, short_work}
use Rattle.cube.specs.Cube.{every_mark, some_mark, all_hold, one_holds, dnf, cnf, opening}
use Rattle.paths.specs.Paths.{path_list, paths_from, path_count}
use Rattle.listing.specs.Listed.{clause_words, list_answer, lists}
use Rattle.lists.specs.Lists.{lists_dnf, lists_cnf}
use Rattle.rule.specs.Rule.{more_cases, larger, most_cases, core_of, has_core, remainder, dropped, drop_marks, rest_of, fewer_nodes, smaller, fewest_nodes, chosen, mark_of, solved, inside, cleared, trimmed_by, trimmed, short_list, tried_exists, restrictions, for_alls, rest_calls, step_calls, called, all_fit, short_fits}
use Rattle.short.specs.Short.{short_deep, lists_short}
use Rattle.reduced.specs.Reduced.{leads, reachable, repeated, node_reduced, first_unreduced, admits_walk}
use Rattle.builders.specs.Builders.{over_list, short_list as endsEarly, bad_entry, first_bad_entry, shortest_over, makes_dnf, makes_cnf}

-- what an entry answers, and what the specification says
record Row : Type 0 where
  answers : Verdict
  says : Verdict

row : Verdict → Verdict → Row
row a s = record { answers = a; says = s }

-- builds with the smallest buffers: clauses as words, fixed marks then values
dnf_of : ℕ → List ℕ → ℕ → ℕ → Verdict
dnf_of n clauses count room = makes_dnf n count clauses room (replicate (3 * room) 7) (replicate (plain_work room) 7)

cnf_of : ℕ → List ℕ → ℕ → ℕ → Verdict
cnf_of n clauses count room = makes_cnf n count clauses room (replicate (3 * room) 7) (replicate (plain_work room) 7)

-- path lists of a table, with an output of two clauses
dnf_list_of : ℕ → Table → Verdict
dnf_list_of n table = lists_dnf n (length table) (words_of table) (replicate 4 7) (replicate (plain_work (length table)) 7)

cnf_list_of : ℕ → Table → Verdict
cnf_list_of n table = lists_cnf n (length table) (words_of table) (replicate 4 7) (replicate (plain_work (length table)) 7)

-- its short list, in a room of five nodes
short_list_of : ℕ → Table → Verdict
short_list_of n table = lists_short n (length table) (words_of table) 5 (replicate 4 7) (replicate (deep_work 5 n) 7)

-- x0 and x1; one of them, not both; one of them or both
both : Table
both = node 2 0 0 ∷ node 2 1 1 ∷ node 1 0 1 ∷ node 0 0 2 ∷ []

xor : Table
xor = node 2 0 0 ∷ node 2 1 1 ∷ node 1 0 1 ∷ node 1 1 0 ∷ node 0 2 3 ∷ []

either : Table
either = node 2 0 0 ∷ node 2 1 1 ∷ node 1 0 1 ∷ node 0 2 1 ∷ []

-- a node that is of no use
useless : Table
useless = node 1 0 0 ∷ node 1 1 1 ∷ node 0 1 1 ∷ []

no : Table
no = node 2 0 0 ∷ []

yes : Table
yes = constants 2

rows : List Row
rows =
    row (dnf_of 2 [] 0 2) (table_answer no)
    ∷ row (dnf_list_of 2 no) (list_answer [])
    ∷ row (cnf_list_of 2 no) (list_answer (clause 0 0 ∷ []))
    ∷ row (cnf_of 2 [] 0 2) (table_answer yes)
    ∷ row (dnf_list_of 2 yes) (list_answer (clause 0 0 ∷ []))
    ∷ row (cnf_list_of 2 yes) (list_answer [])
    ∷ row (cnf_of 2 (0 ∷ 0 ∷ []) 1 2) (table_answer no)
    ∷ row (dnf_of 0 (0 ∷ 0 ∷ []) 1 2) (table_answer (constants 0))
    ∷ row (dnf_of 2 (3 ∷ 3 ∷ []) 1 3) (refused NODES 1)
    ∷ row (dnf_of 2 (3 ∷ 3 ∷ []) 1 4) (table_answer both)
    ∷ row (dnf_of 2 (3 ∷ 1 ∷ 3 ∷ 2 ∷ []) 2 5) (table_answer xor)
    ∷ row (dnf_list_of 2 xor) (list_answer (clause 3 2 ∷ clause 3 1 ∷ []))
    ∷ row (cnf_list_of 2 xor) (list_answer (clause 3 3 ∷ clause 3 0 ∷ []))
    ∷ row (dnf_of 2 (1 ∷ 1 ∷ 2 ∷ 2 ∷ []) 2 4) (table_answer either)
    ∷ row (dnf_list_of 2 either) (list_answer (clause 3 2 ∷ clause 1 1 ∷ []))
    ∷ row (dnf_of 1 (1 ∷ 1 ∷ 1 ∷ 1 ∷ []) 2 3) (table_answer (node 1 0 0 ∷ node 1 1 1 ∷ node 0 0 1 ∷ []))
    ∷ row (dnf_of 1 (1 ∷ 0 ∷ 1 ∷ 1 ∷ []) 2 2) (refused NODES 1)
    ∷ row (dnf_of 1 (1 ∷ 0 ∷ 1 ∷ 1 ∷ []) 2 3) (table_answer (constants 1))
    ∷ row (short_list_of 2 either) (list_answer (clause 2 2 ∷ clause 1 1 ∷ []))
    ∷ row (short_list_of 2 xor) (list_answer (clause 3 1 ∷ clause 3 2 ∷ []))
    ∷ row (dnf_list_of 1 useless) (list_answer (clause 1 0 ∷ clause 1 1 ∷ []))
    ∷ row (admits_walk 1 (length useless) (words_of useless)) (refused REDUCED 2)
    ∷ []

starred : map (λ (r : Row). r.answers) rows ≡ map (λ (r : Row). r.says) rows
unfolding rows row dnf_of cnf_of dnf_list_of cnf_list_of short_list_of short_deep meaning tree_of step short_list solved trimmed trimmed_by cleared inside mark_of chosen fewest_nodes smaller fewer_nodes rest_of drop_marks dropped remainder has_core core_of most_cases larger more_cases support_of marks_of same_tree pointwise cofactor case_count konst unset_cell short_fits all_fit called step_calls rest_calls for_alls restrictions tried_exists admits_walk first_unreduced node_reduced repeated reachable leads both xor either useless no yes lists list_answer clause_words path_list paths_from set_cell empty_clause set_bit nodes node_ok link_ok over_limit too_short first_bad path_count makes_dnf makes_cnf makes table_answer judged tried first_of order over_list endsEarly bad_entry first_bad_entry first_failing shortest_over malformed over_room short_output short_work canon tabulate walk mk grow find bit words_of every_mark some_mark all_hold one_holds dnf cnf opening
starred = refl
