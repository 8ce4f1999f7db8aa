-- The specification's starred short lists, computed.
use mathlib.Core.Path.{◌≡◌, refl}
use mathlib.Core.Bool.{Bool, true, false, not, ◌&&◌, ◌||◌, beq}
use mathlib.Core.List.{[], ◌∷◌}
use Prim.Native.Nat.{ℕ}
use Rattle.theory.specs.Mask.{bit, set_bit}
use Rattle.theory.specs.Tree.{tabulate, pointwise, cofactor, case_count, konst, same_tree, support_of}
use Rattle.theory.specs.Table.{canon, walk, mk, grow, find}
use Rattle.theory.specs.Clause.{clause, empty_clause, set_cell, unset_cell, marks_of}
use Rattle.rule.specs.Rule.{more_cases, larger, most_cases, core_of, has_core, remainder, dropped, drop_marks, rest_of, fewer_nodes, smaller, fewest_nodes, chosen, mark_of, solved, inside, cleared, trimmed_by, trimmed, short_list, tried_exists, restrictions, for_alls, rest_calls, step_calls, called, all_fit, short_fits}

or2 : ℕ → Bool
or2 c = bit 0 c || bit 1 c

xor2 : ℕ → Bool
xor2 c = not (beq (bit 0 c) (bit 1 c))

-- x0 ∨ x1: -1, 1-
short-or : short_list 2 (tabulate 2 or2) ≡ clause 2 2 ∷ clause 1 1 ∷ []
unfolding short_list solved trimmed trimmed_by cleared inside mark_of chosen fewest_nodes smaller fewer_nodes rest_of drop_marks dropped remainder has_core core_of most_cases larger more_cases support_of marks_of same_tree tabulate pointwise cofactor case_count konst canon walk mk grow find bit set_bit empty_clause set_cell unset_cell or2
short-or = refl

-- xor: 10, 01
short-xor : short_list 2 (tabulate 2 xor2) ≡ clause 3 1 ∷ clause 3 2 ∷ []
unfolding short_list solved trimmed trimmed_by cleared inside mark_of chosen fewest_nodes smaller fewer_nodes rest_of drop_marks dropped remainder has_core core_of most_cases larger more_cases support_of marks_of same_tree tabulate pointwise cofactor case_count konst canon walk mk grow find bit set_bit empty_clause set_cell unset_cell xor2
short-xor = refl

-- in the room of their own tables, and not in less
fits_xor : short_fits 5 2 (tabulate 2 xor2) ≡ true
unfolding short_fits all_fit called step_calls rest_calls for_alls restrictions tried_exists mark_of chosen fewest_nodes smaller fewer_nodes rest_of drop_marks dropped remainder has_core core_of most_cases larger more_cases support_of marks_of same_tree tabulate pointwise cofactor case_count konst canon walk mk grow find bit set_bit xor2
fits_xor = refl

over-xor : short_fits 4 2 (tabulate 2 xor2) ≡ false
unfolding short_fits all_fit called step_calls rest_calls for_alls restrictions tried_exists mark_of chosen fewest_nodes smaller fewer_nodes rest_of drop_marks dropped remainder has_core core_of most_cases larger more_cases support_of marks_of same_tree tabulate pointwise cofactor case_count konst canon walk mk grow find bit set_bit xor2
over-xor = refl

-- the equality test does not count: of "not x0, and not both x1 and x2" no called table has more than 5 nodes, but "that result or the core" once has 7
apart3 : ℕ → Bool
apart3 c = not (bit 0 c) && not (bit 1 c && bit 2 c)

fits-apart : short_fits 5 3 (tabulate 3 apart3) ≡ true
unfolding short_fits all_fit called step_calls rest_calls for_alls restrictions tried_exists mark_of chosen fewest_nodes smaller fewer_nodes rest_of drop_marks dropped remainder has_core core_of most_cases larger more_cases support_of marks_of same_tree tabulate pointwise cofactor case_count konst canon walk mk grow find bit set_bit apart3
fits-apart = refl
