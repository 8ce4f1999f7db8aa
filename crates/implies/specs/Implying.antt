-- What the descent that makes no node asks and ensures.
use Rattle.std.specs.Prelude.{◌≡◌, Bool, true, false, List, ℕ, ◌-◌}
use Rattle.theory.specs.Tree.{Tree, konst}
use Rattle.theory.specs.Table.{constants}
use Rattle.join.specs.declared.Job.{Job}
use Rattle.join.specs.Task.{Task, pair_tree}
use Rattle.join.specs.Joining.{task_of, Operands, Knows}

-- the pair's operation is no for every case
abbrev pub Empty : Task → ℕ → ℕ → ℕ → Type 0
Empty T l x y = pair_tree T l x y ≡ konst (T.marks - l) false

-- the memory holds only what is so
pub record Ready (a b m : List ℕ) (j : Job) : Type 0 where
  pub operands : Operands a b m j
  pub known : Knows (task_of a b j) m (constants j.n)

abbrev pub SaysEmpty : List ℕ → List ℕ → Job → ℕ → ℕ → ℕ → Bool → Type 0
SaysEmpty a b j l x y true = Empty (task_of a b j) l x y
SaysEmpty a b j l x y false = Empty (task_of a b j) l x y → ⊥

-- ---- the whole
abbrev pub Asking : List ℕ → List ℕ → List ℕ → Job → Type 0
Asking a b m j = Operands a b m j

-- yes exactly if the function of n marks says no of every case
abbrev pub SaysNo : ℕ → Tree → Bool → Type 0
SaysNo n g true = g ≡ konst n false
SaysNo n g false = g ≡ konst n false → ⊥
