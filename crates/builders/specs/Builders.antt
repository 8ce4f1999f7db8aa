-- What each builder answers, for any input at all: its findings, its opening runs, and the function of its list.
use Rattle.std.specs.Prelude.{Bool, true, false, not, ◌||◌, List, ◌∷◌, ℕ, zero, suc, ◌+◌, ◌*◌, eqb, ltb, length, get_or}
use Rattle.theory.specs.Tree.{Tree}
use Rattle.theory.specs.Table.{canon}
use Rattle.theory.specs.Clause.{Clause, malformed}
use Rattle.refusal.specs.Number.{LIMIT, SHORT, VARIABLE, CLAUSE}
use Rattle.refusal.specs.Limits.{max_marks, max_clauses}
use Rattle.refusal.specs.First.{first_failing}
use Rattle.refusal.specs.Verdict.{Finding, finding, Verdict}
use Rattle.table.specs.Case.{over_case}
use Rattle.making.specs.Room.{over_room, short_output, short_work, room_findings}
use Rattle.making.specs.Made.{makes}
use Rattle.cube.specs.Cube.{list_means, clause_at, case_at, opening}

-- LIMIT: over 60 marks, or over 1,024 input clauses or cases
unfoldable pub over_list : ℕ → ℕ → Bool
over_list n count = ltb max_marks n || ltb max_clauses count

-- SHORT: the list ends before its count; a case is one word, a clause two
unfoldable pub short_list : Bool → ℕ → List ℕ → Bool
short_list true count list = ltb (length list) count
short_list false count list = ltb (length list) (2 * count)

-- a case with a bit from n up; a malformed clause
unfoldable pub bad_entry : Bool → ℕ → List ℕ → ℕ → Bool
bad_entry true n list i = over_case n (get_or list i 0)
bad_entry false n list i = malformed n (get_or list (2 * i) 0) (get_or list (2 * i + 1) 0)

-- the first such entry's index, or the count where there is none
unfoldable pub first_bad_entry : Bool → ℕ → ℕ → List ℕ → ℕ
first_bad_entry cases n count list = first_failing (λ i. not (bad_entry cases n list i)) count

-- the case is among the first k of a list
unfoldable pub listed_case : List ℕ → ℕ → ℕ → Bool
listed_case list zero case = false
listed_case list (suc k) case = listed_case list k case || eqb (get_or list k 0) case

-- VARIABLE for a list of cases, CLAUSE for a list of clauses
abbrev pub entry_number : Bool → ℕ
entry_number true = VARIABLE
entry_number false = CLAUSE

-- what may be wrong with a list, a room, an output and work
abbrev pub list_findings : Bool → ℕ → ℕ → List ℕ → ℕ → List ℕ → List ℕ → List Finding
list_findings cases n count list room out work =
    finding LIMIT (over_list n count) 0
    ∷ finding SHORT (short_list cases count list) 0
    ∷ finding (entry_number cases) (ltb (first_bad_entry cases n count list) count) (first_bad_entry cases n count list)
    ∷ room_findings room out room work

-- the function of the opening run of k entries: of a DNF for b = true, of a CNF for b = false
abbrev pub run_means : Bool → ℕ → (ℕ → Clause) → ℕ → Tree
run_means b n entry k = list_means b n (opening entry k)

-- the length of the shortest opening run whose reduced table exceeds room, or count + 1 where none does
unfoldable pub shortest_over : Bool → ℕ → ℕ → (ℕ → Clause) → ℕ → ℕ
shortest_over b n count entry room = first_failing (λ k. not (ltb room (length (canon n (run_means b n entry k))))) (suc count)

-- a build's verdict: NODES where some opening run's table exceeds room, at the shortest's length; else the canonical table of the whole list
abbrev pub builds : List Finding → Bool → ℕ → ℕ → (ℕ → Clause) → ℕ → Verdict
builds fs b n count entry room =
    makes fs (ltb (shortest_over b n count entry room) (suc count)) (shortest_over b n count entry room) (canon n (run_means b n entry count))

unfoldable pub makes_dnf : ℕ → ℕ → List ℕ → ℕ → List ℕ → List ℕ → Verdict
makes_dnf n count clauses room out work = builds (list_findings false n count clauses room out work) true n count (clause_at clauses) room

unfoldable pub makes_cnf : ℕ → ℕ → List ℕ → ℕ → List ℕ → List ℕ → Verdict
makes_cnf n count clauses room out work = builds (list_findings false n count clauses room out work) false n count (clause_at clauses) room

unfoldable pub makes_dnf_valuation : ℕ → ℕ → List ℕ → ℕ → List ℕ → List ℕ → Verdict
makes_dnf_valuation n count cases room out work = builds (list_findings true n count cases room out work) true n count (case_at n cases) room

unfoldable pub makes_cnf_valuation : ℕ → ℕ → List ℕ → ℕ → List ℕ → List ℕ → Verdict
makes_cnf_valuation n count cases room out work = builds (list_findings true n count cases room out work) false n count (case_at n cases) room
