-- What each entry on partial valuations answers, for any words at all.
use Rattle.std.specs.Prelude.{Bool, cond, ◌&&◌, List, [], ◌∷◌, ℕ, ◌/◌, eqb, leb, ltb, length, get_or}
use Rattle.std.proofs.Math.Option.{Option, none, some}
use Rattle.theory.specs.Mask.{bit}
use Rattle.theory.specs.Clause.{Clause, malformed, cell, empty_clause, set_cell, unset_cell, marks_of, last_mark, extending, entries_of, gather}
use Rattle.refusal.specs.Number.{VARIABLE, CLAUSE}
use Rattle.refusal.specs.Limits.{max_marks}
use Rattle.refusal.specs.First.{first_failing}
use Rattle.refusal.specs.Verdict.{Verdict, answered, Finding, finding, judged}
use Rattle.valuation.specs.declared.BddPartialValuation.{BddPartialValuation}
use Rattle.valuation.specs.declared.Cell.{Cell}
use Rattle.valuation.specs.declared.Cell.TheVariants.{Unset, Value}

-- a valuation's clause: the only place where masks are words
abbrev pub clause_of : BddPartialValuation → Clause
clause_of v = record { fixed = v.fixed; values = v.values }

-- a cell: unset, or a value
abbrev pub cell_of : Cell → Option Bool
cell_of Unset = none
cell_of (Value b) = some b

-- VARIABLE: a mark argument that is not below 60; the place is the mark
abbrev pub bad_mark : ℕ → Finding
bad_mark m = finding VARIABLE (leb max_marks m) m

-- CLAUSE: a malformed valuation; the place is its index
abbrev pub bad_clause : Clause → ℕ → Finding
bad_clause c i = finding CLAUSE (malformed max_marks c.fixed c.values) i

-- the findings of a call with one valuation, with one and a mark, with two, and with a list of values
abbrev pub of_one : Clause → List Finding
of_one c = bad_clause c 0 ∷ []

abbrev pub of_mark : Clause → ℕ → List Finding
of_mark c m = bad_mark m ∷ bad_clause c 0 ∷ []

abbrev pub of_two : Clause → Clause → List Finding
of_two c d = bad_clause c 0 ∷ bad_clause d 1 ∷ []

-- the index of the first entry whose mark is not below 60, or the length
unfoldable pub first_bad_mark : List ℕ → ℕ
first_bad_mark ws = first_failing (λ i. ltb (get_or ws i 0 / 2) max_marks) (length ws)

abbrev pub of_list : List ℕ → List Finding
of_list ws = finding VARIABLE (ltb (first_bad_mark ws) (length ws)) (first_bad_mark ws) ∷ []

-- what only checks has nothing to answer
abbrev pub checked : List Finding → Verdict
checked fs = judged fs (answered [] [])

abbrev pub says_truth : Bool → Verdict
says_truth b = answered (cond b 1 0 ∷ []) []

abbrev pub says_clause : Clause → Verdict
says_clause c = answered (c.fixed ∷ c.values ∷ []) []

-- unset, or a value
unfoldable pub says_cell : Option Bool → Verdict
says_cell none = answered (0 ∷ []) []
says_cell (some b) = answered (1 ∷ cond b 1 0 ∷ []) []

-- nothing, or a mark
unfoldable pub says_mark : Option ℕ → Verdict
says_mark none = answered (0 ∷ []) []
says_mark (some m) = answered (1 ∷ m ∷ []) []

-- a count, then the words
abbrev pub says_entries : List ℕ → Verdict
says_entries ws = answered (length ws ∷ ws) []

-- is_empty: yes exactly if no mark is fixed
unfoldable pub asks_empty : Clause → Verdict
asks_empty c = judged (of_one c) (says_truth (eqb c.fixed 0))

-- cardinality: the number of fixed marks
unfoldable pub counts_fixed : Clause → Verdict
counts_fixed c = judged (of_one c) (answered (length (marks_of max_marks c.fixed) ∷ []) [])

-- last_fixed_variable: the greatest fixed mark, if there is one
unfoldable pub finds_last : Clause → Verdict
finds_last c = judged (of_one c) (says_mark (last_mark max_marks c.fixed))

-- from_values: the entries set their marks one after another, from nothing; the last wins
unfoldable pub gathers_values : List ℕ → Verdict
gathers_values ws = judged (of_list ws) (says_clause (gather empty_clause ws))

-- to_values: the number of fixed marks, then their words, rising
unfoldable pub lists_values : Clause → Verdict
lists_values c = judged (of_one c) (says_entries (entries_of max_marks c))

-- get_value: the cell at the mark
unfoldable pub gets_value : Clause → ℕ → Verdict
gets_value c m = judged (of_mark c m) (says_cell (cell c m))

-- has_value: whether the mark is fixed
unfoldable pub asks_value : Clause → ℕ → Verdict
asks_value c m = judged (of_mark c m) (says_truth (bit m c.fixed))

-- set_value: the valuation with the mark fixed at the value
unfoldable pub sets_value : Clause → ℕ → Bool → Verdict
sets_value c m b = judged (of_mark c m) (says_clause (set_cell c m b))

-- unset_value: the valuation with the mark unset
unfoldable pub unsets_value : Clause → ℕ → Verdict
unsets_value c m = judged (of_mark c m) (says_clause (unset_cell c m))

-- extends: yes exactly if every cell fixed in the second is fixed in the first with the same value
unfoldable pub asks_extends : Clause → Clause → Verdict
asks_extends c d = judged (of_two c d) (says_truth (extending max_marks c d))

unfoldable pub same_words : Clause → Clause → Bool
same_words c d = eqb c.fixed d.fixed && eqb c.values d.values

-- eq: yes exactly if both words are equal
unfoldable pub asks_equal : Clause → Clause → Verdict
asks_equal c d = judged (of_two c d) (says_truth (same_words c d))
