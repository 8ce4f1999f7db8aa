-- The refusal numbers, in the specification's words, and the order of checking.
use Rattle.std.specs.Prelude.{List, [], ◌∷◌, ℕ}
use Rattle.refusal.specs.declared.RefusalKind.{RefusalKind}
use Rattle.refusal.specs.declared.RefusalKind.TheVariants.{Limit, Short, Variable, Clause, Table, Reduced, Nodes, Clauses, Sheet}

abbrev pub LIMIT : ℕ
LIMIT = 1

abbrev pub SHORT : ℕ
SHORT = 2

abbrev pub VARIABLE : ℕ
VARIABLE = 3

abbrev pub CLAUSE : ℕ
CLAUSE = 4

abbrev pub TABLE : ℕ
TABLE = 5

abbrev pub REDUCED : ℕ
REDUCED = 6

abbrev pub NODES : ℕ
NODES = 7

abbrev pub CLAUSES : ℕ
CLAUSES = 8

abbrev pub SHEET : ℕ
SHEET = 9

-- in order of checking: for a sheet SHEET comes first, then the rest rising; a new number is a new line here
unfoldable pub order : List ℕ
order = SHEET ∷ LIMIT ∷ SHORT ∷ VARIABLE ∷ CLAUSE ∷ TABLE ∷ REDUCED ∷ NODES ∷ CLAUSES ∷ []

abbrev pub number_of : RefusalKind → ℕ
number_of Limit = LIMIT
number_of Short = SHORT
number_of Variable = VARIABLE
number_of Clause = CLAUSE
number_of Table = TABLE
number_of Reduced = REDUCED
number_of Nodes = NODES
number_of Clauses = CLAUSES
number_of Sheet = SHEET
