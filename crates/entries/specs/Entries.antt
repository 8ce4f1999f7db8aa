-- The form of a list as a Bool and as a constant, and where its entries lie.
use Rattle.std.specs.Prelude.{Bool, true, false, List, ℕ, ◌+◌, ◌*◌, ◌<◌, ◌≤◌, length}
use Rattle.entries.specs.declared.Form.{Form}
use Rattle.entries.specs.declared.Form.TheVariants.{Cnf, Dnf}

-- what a table says on the cube of a clause: yes for a DNF, no for a CNF
abbrev pub says : Form → Bool
says Cnf = false
says Dnf = true

-- the constant that says so
abbrev pub term_of : Form → ℕ
term_of Cnf = 0
term_of Dnf = 1

-- entry i lies in the list: a case is one word, a clause two
abbrev pub Within : Bool → ℕ → List ℕ → Type 0
Within true i list = i < length list
Within false i list = 2 * i + 1 < length list

-- so do the first k
abbrev pub Given : Bool → ℕ → List ℕ → Type 0
Given true k list = k ≤ length list
Given false k list = 2 * k ≤ length list
