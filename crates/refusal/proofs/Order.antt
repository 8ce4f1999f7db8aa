-- The order of checking, computed on calls with several things wrong.
use mathlib.Core.Path.{◌≡◌, refl}
use mathlib.Core.Bool.{true, false}
use mathlib.Core.List.{[], ◌∷◌}
use Rattle.refusal.specs.Number.{order, LIMIT, SHORT, VARIABLE, CLAUSE, TABLE, REDUCED, NODES, CLAUSES, SHEET}
use Rattle.refusal.specs.Verdict.{Verdict, refused, finding, first_of, tried, judged}

-- a case bit from n up comes before a broken table, and a malformed clause does too
variable_first : (v : Verdict) → judged (finding TABLE true 7 ∷ finding CLAUSE true 5 ∷ finding VARIABLE true 3 ∷ []) v ≡ refused VARIABLE 3
unfolding judged tried order first_of
variable_first v = refl

clause-first : (v : Verdict) → judged (finding TABLE true 7 ∷ finding CLAUSE true 5 ∷ finding VARIABLE false 3 ∷ []) v ≡ refused CLAUSE 5
unfolding judged tried order first_of
clause-first v = refl

-- for a sheet, SHEET comes first, then the rest
sheet_first : (v : Verdict) → judged (finding LIMIT true 0 ∷ finding SHEET true 0 ∷ []) v ≡ refused SHEET 0
unfolding judged tried order first_of
sheet_first v = refl

limit-first : (v : Verdict) → judged (finding SHORT true 0 ∷ finding LIMIT true 0 ∷ []) v ≡ refused LIMIT 0
unfolding judged tried order first_of
limit-first v = refl

reduced-last : (v : Verdict) → judged (finding REDUCED true 2 ∷ finding TABLE true 4 ∷ []) v ≡ refused TABLE 4
unfolding judged tried order first_of
reduced-last v = refl

-- NODES outranks CLAUSES
nodes-first : (v : Verdict) → judged (finding CLAUSES true 9 ∷ finding NODES true 1 ∷ []) v ≡ refused NODES 1
unfolding judged tried order first_of
nodes-first v = refl

-- with two tables, the first is inspected first at each number
first-table-first : (v : Verdict) → judged (finding TABLE true 6 ∷ finding TABLE true 2 ∷ []) v ≡ refused TABLE 6
unfolding judged tried order first_of
first-table-first v = refl
