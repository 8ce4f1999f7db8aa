-- Which of two clause lists is posted.
use Rattle.std.specs.Prelude.{Bool, cond, List, ℕ, ◌*◌, ◌/◌, leb, length, take}

-- what a list of clauses costs: the number of its whole clauses, two words each
unfoldable pub measure : List ℕ → ℕ
measure words = length words / 2

-- the whole clauses of a list; an odd word at its end is not part of one
unfoldable pub whole_clauses : List ℕ → List ℕ
whole_clauses words = take (2 * (length words / 2)) words

-- the DNF is posted unless the CNF costs less: a tie gives the DNF
unfoldable pub posts_dnf : List ℕ → List ℕ → Bool
posts_dnf dnf cnf = leb (measure dnf) (measure cnf)

-- the whole clauses of the list that costs less
unfoldable pub posting : List ℕ → List ℕ → List ℕ
posting dnf cnf = cond (posts_dnf dnf cnf) (whole_clauses dnf) (whole_clauses cnf)
