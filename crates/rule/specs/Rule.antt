-- The short list of a function, by the specification's rule: the clauses, and the tables that the rule calls for.
use Rattle.std.specs.Prelude.{Bool, true, false, cond, not, ◌||◌, ◌&&◌, List, [], ◌∷◌, ◌++◌, map, ℕ, zero, suc, ◌+◌, ltb, leb, length}
use Rattle.std.specs.Bool.{beq}
use Rattle.theory.specs.Mask.{bit}
use Rattle.theory.specs.Tree.{Tree, leaf, fork, pointwise, and_not, cofactor, exists_mark, for_all_mark, same_tree, support_of, case_count, konst}
use Rattle.theory.specs.Table.{canon}
use Rattle.theory.specs.Clause.{Clause, empty_clause, set_cell, unset_cell, marks_of}

-- "support rising": the marks that the answer depends on, a mask read upwards
abbrev pub support_marks : ℕ → Tree → List ℕ
support_marks n f = marks_of n (support_of n f)

-- ---- "1. For-all each mark; the core is the one with most cases, if above 0. A tie keeps the first."
unfoldable pub more_cases : Tree → Tree → Bool
more_cases e best = ltb (case_count best) (case_count e)

unfoldable pub larger : Tree → Tree → Tree
larger best e = cond (more_cases e best) e best

unfoldable pub most_cases : Tree → List ℕ → Tree → Tree
most_cases f [] best = best
most_cases f (x ∷ xs) best = most_cases f xs (larger best (for_all_mark x f))

unfoldable pub core_of : ℕ → Tree → Tree
core_of n f = most_cases f (support_marks n f) (konst n false)

unfoldable pub has_core : ℕ → Tree → Bool
has_core n f = ltb 0 (case_count (core_of n f))

-- ---- "2. With a core, solve it first. Remainder = f and not core. For each mark of the core's support, rising, let it drop out of the
-- remainder by exists if that result or the core still equals f."
unfoldable pub remainder : ℕ → Tree → Tree
remainder n f = pointwise and_not f (core_of n f)

unfoldable pub dropped : Tree → Tree → ℕ → Tree → Tree
dropped f core x r = cond (same_tree (pointwise ◌||◌ (exists_mark x r) core) f) (exists_mark x r) r

unfoldable pub drop_marks : Tree → Tree → List ℕ → Tree → Tree
drop_marks f core [] r = r
drop_marks f core (x ∷ xs) r = drop_marks f core xs (dropped f core x r)

-- ---- "3. Let g be the remainder, or f without a core. Over the support of f (not of g), choose the mark whose two restrictions of g have the
-- smallest node total. A tie keeps the first. Solve g with it true, then false."
unfoldable pub rest_of : ℕ → Tree → Tree
rest_of n f = cond (has_core n f) (drop_marks f (core_of n f) (support_marks n (core_of n f)) (remainder n f)) f

abbrev pub node_total : ℕ → Tree → ℕ → ℕ
node_total n g x = length (canon n (cofactor x true g)) + length (canon n (cofactor x false g))

unfoldable pub fewer_nodes : ℕ → Tree → ℕ → ℕ → Bool
fewer_nodes n g x best = ltb (node_total n g x) (node_total n g best)

unfoldable pub smaller : ℕ → Tree → ℕ → ℕ → ℕ
smaller n g best x = cond (fewer_nodes n g x best) x best

unfoldable pub fewest_nodes : ℕ → Tree → List ℕ → ℕ → ℕ
fewest_nodes n g [] best = best
fewest_nodes n g (x ∷ xs) best = fewest_nodes n g xs (smaller n g best x)

unfoldable pub chosen : ℕ → Tree → List ℕ → ℕ
chosen n g [] = 0
chosen n g (x ∷ xs) = fewest_nodes n g xs x

unfoldable pub mark_of : ℕ → Tree → ℕ
mark_of n f = chosen n (rest_of n f) (support_marks n f)

-- ---- "false gives none, true one clause, the literals chosen so far"; d bounds the depth, and n + 1 is enough
unfoldable pub solved : ℕ → ℕ → Tree → Clause → List Clause
solved zero n f literals = []
solved (suc d) n f literals =
    cond (same_tree f (konst n false)) []
    (cond (same_tree f (konst n true)) (literals ∷ [])
    (cond (has_core n f) (solved d n (core_of n f) literals) []
    ++ (solved d n (cofactor (mark_of n f) true (rest_of n f)) (set_cell literals (mark_of n f) true)
    ++ solved d n (cofactor (mark_of n f) false (rest_of n f)) (set_cell literals (mark_of n f) false))))

-- ---- "Last, per mark of the input's support: if the function is positive in it, clear literals 0; if negative, literals 1."
-- wherever e says yes, f does
unfoldable pub inside : Tree → Tree → Bool
inside (leaf a) (leaf b) = not a || b
inside (leaf a) (fork lo hi) = false
inside (fork lo hi) (leaf b) = false
inside (fork lo hi) (fork lo' hi') = inside lo lo' && inside hi hi'

-- the function with the mark at b is inside it with the mark at not b: positive for b = false, negative for b = true
abbrev pub spare : Tree → ℕ → Bool → Bool
spare f x b = inside (cofactor x b f) (cofactor x (not b) f)

-- the clause without its literal of the mark, if that has the value b
unfoldable pub cleared : ℕ → Bool → Clause → Clause
cleared x b y = cond (bit x y.fixed && beq (bit x y.values) b) (unset_cell y x) y

unfoldable pub trimmed_by : Tree → ℕ → List Clause → List Clause
trimmed_by f x ys = cond (spare f x false) (map (cleared x false) ys) (cond (spare f x true) (map (cleared x true) ys) ys)

unfoldable pub trimmed : Tree → List ℕ → List Clause → List Clause
trimmed f [] ys = ys
trimmed f (x ∷ xs) ys = trimmed f xs (trimmed_by f x ys)

-- the short list
unfoldable pub short_list : ℕ → Tree → List Clause
short_list n f = trimmed f (support_marks n f) (solved (n + 1) n f empty_clause)

-- ---- NODES: "the input, or any for_all, remainder, exists or restriction which the rule calls for with unlimited room"
-- each exists that is tried, accepted or not, of the remainder as it then is
unfoldable pub tried_exists : Tree → Tree → List ℕ → Tree → List Tree
tried_exists f core [] r = []
tried_exists f core (x ∷ xs) r = exists_mark x r ∷ tried_exists f core xs (dropped f core x r)

unfoldable pub restrictions : Tree → List ℕ → List Tree
restrictions g [] = []
restrictions g (x ∷ xs) = cofactor x true g ∷ cofactor x false g ∷ restrictions g xs

unfoldable pub for_alls : Tree → List ℕ → List Tree
for_alls f [] = []
for_alls f (x ∷ xs) = for_all_mark x f ∷ for_alls f xs

-- by step 2
unfoldable pub rest_calls : ℕ → Tree → List Tree
rest_calls n f = cond (has_core n f) (remainder n f ∷ tried_exists f (core_of n f) (support_marks n (core_of n f)) (remainder n f)) []

-- by the three steps at one function
unfoldable pub step_calls : ℕ → Tree → List Tree
step_calls n f = for_alls f (support_marks n f) ++ (rest_calls n f ++ restrictions (rest_of n f) (support_marks n f))

-- by the whole run from a function on
unfoldable pub called : ℕ → ℕ → Tree → List Tree
called zero n f = []
called (suc d) n f =
    cond (same_tree f (konst n false)) []
    (cond (same_tree f (konst n true)) []
    (step_calls n f
    ++ (cond (has_core n f) (called d n (core_of n f)) []
    ++ (called d n (cofactor (mark_of n f) true (rest_of n f))
    ++ called d n (cofactor (mark_of n f) false (rest_of n f))))))

abbrev pub fits : ℕ → ℕ → Tree → Bool
fits room n t = leb (length (canon n t)) room

unfoldable pub all_fit : ℕ → ℕ → List Tree → Bool
all_fit room n [] = true
all_fit room n (t ∷ ts) = fits room n t && all_fit room n ts

-- every table that the short list calls for is within the room
unfoldable pub short_fits : ℕ → ℕ → Tree → Bool
short_fits room n f = all_fit room n (f ∷ called (n + 1) n f)
