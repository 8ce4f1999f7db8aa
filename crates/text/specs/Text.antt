-- The lines that the program prints, in ASCII.
use Rattle.std.specs.Prelude.{Bool, true, false, cond, List, [], ◌∷◌, ◌++◌, ℕ, zero, suc, ◌+◌, ◌/◌, ◌%◌, ltb}
use Rattle.std.proofs.Math.Option.{Option, none, some}
use Rattle.theory.specs.Clause.{Clause, cell}
use Rattle.cube.specs.Cube.{clause_at}

abbrev pub line_end : ℕ
line_end = 10

abbrev pub space : ℕ
space = 32

-- the character of a digit
abbrev pub digit : ℕ → ℕ
digit d = 48 + d

-- a number's digits, most significant first, where it has at most k of them
unfoldable pub digits : ℕ → ℕ → List ℕ
digits zero w = []
digits (suc k) w = cond (ltb w 10) (digit w ∷ []) (digits k (w / 10) ++ (digit (w % 10) ∷ []))

-- a number in decimal, with no leading zero: w + 1 digits are always enough
unfoldable pub decimal : ℕ → List ℕ
decimal w = digits (suc w) w

-- a mark's character in a clause line: - for unset, else its value
unfoldable pub cell_char : Option Bool → ℕ
cell_char none = 45
cell_char (some false) = digit 0
cell_char (some true) = digit 1

-- the characters of the first n marks
unfoldable pub cell_chars : ℕ → Clause → List ℕ
cell_chars zero c = []
cell_chars (suc m) c = cell_chars m c ++ (cell_char (cell c m) ∷ [])

abbrev pub clause_line : ℕ → Clause → List ℕ
clause_line n c = cell_chars n c ++ (line_end ∷ [])

-- a line for each of the first k clauses in the words
unfoldable pub clause_lines : ℕ → List ℕ → ℕ → List ℕ
clause_lines n words zero = []
clause_lines n words (suc k) = clause_lines n words k ++ clause_line n (clause_at words k)

-- a word, a number, and the line's end
abbrev pub count_line : List ℕ → ℕ → List ℕ
count_line word w = word ++ (decimal w ++ (line_end ∷ []))

-- a list's count and its clauses
abbrev pub list_text : List ℕ → ℕ → ℕ → List ℕ → List ℕ
list_text word n k words = count_line word k ++ clause_lines n words k

-- "vars ", "nodes ", "dnf ", "cnf ", "refused "
abbrev pub vars_word : List ℕ
vars_word = 118 ∷ 97 ∷ 114 ∷ 115 ∷ 32 ∷ []

abbrev pub nodes_word : List ℕ
nodes_word = 110 ∷ 111 ∷ 100 ∷ 101 ∷ 115 ∷ 32 ∷ []

abbrev pub dnf_word : List ℕ
dnf_word = 100 ∷ 110 ∷ 102 ∷ 32 ∷ []

abbrev pub cnf_word : List ℕ
cnf_word = 99 ∷ 110 ∷ 102 ∷ 32 ∷ []

abbrev pub refused_word : List ℕ
refused_word = 114 ∷ 101 ∷ 102 ∷ 117 ∷ 115 ∷ 101 ∷ 100 ∷ 32 ∷ []

-- what is printed of a table and its two lists
unfoldable pub whole_text : ℕ → ℕ → ℕ → List ℕ → ℕ → List ℕ → List ℕ
whole_text n count dnfs dnf cnfs cnf = count_line vars_word n ++ (count_line nodes_word count ++ (list_text dnf_word n dnfs dnf ++ list_text cnf_word n cnfs cnf))

-- what is printed of a refusal
unfoldable pub refused_text : ℕ → ℕ → List ℕ
refused_text number place = refused_word ++ (decimal number ++ (space ∷ (decimal place ++ (line_end ∷ []))))

-- the bytes that any of these texts needs, and more
abbrev pub text_room : ℕ
text_room = 131072
