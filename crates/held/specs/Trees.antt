-- The function that a held table means, and what operations leave.
use Rattle.std.specs.Prelude.{List, ℕ, Option}
use Rattle.theory.specs.Tree.{Tree}
use Rattle.held.specs.declared.Function.{Function}
use Rattle.held.specs.Held.{tree_in, Gives}

abbrev pub tree_of : Function → Tree
tree_of f = tree_in f.n f.words.now f.count

-- the table of g beside f's, or it is over room
abbrev pub Makes : Function → Tree → List ℕ → Option ℕ → Type 0
Makes f g out r = Gives f.n f.room out g r
