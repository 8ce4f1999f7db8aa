-- Two tables descended together: what a pair of nodes stands for.
use Rattle.std.specs.Prelude.{◌≡◌, Bool, ◌&&◌, ◌||◌, cond, List, ℕ, ◌+◌, ◌-◌, ◌*◌, min, eqb}
use Rattle.theory.specs.Mask.{bit}
use Rattle.theory.specs.Tree.{Tree, pointwise, and_not}
use Rattle.theory.specs.Table.{Table, at, child_of, num, tree_of}
use Rattle.theory.specs.Words.{node_at}
use Rattle.theory.proofs.Again.{tree_set}
use Rattle.theory.proofs.Step.{Stands}
use Rattle.join.specs.declared.Operation.{Operation}
use Rattle.join.specs.declared.Operation.TheVariants.{And, Or, AndNot}

-- an operand: a table, and the mark that is set to a value on the way down (n: none)
pub record Operand : Type 0 where
  pub table : Table
  pub mark : ℕ
  pub value : Bool

-- what is joined, over so many marks
pub record Task : Type 0 where
  pub marks : ℕ
  pub op : Bool → Bool → Bool
  pub left : Operand
  pub right : Operand

-- an operation's truth table
abbrev pub truth_table : Operation → ℕ
truth_table And = 8
truth_table Or = 14
truth_table AndNot = 4

-- what an operation answers
abbrev pub answer_of : Operation → Bool → Bool → Bool
answer_of And = ◌&&◌
answer_of Or = ◌||◌
answer_of AndNot = and_not

-- an operation from its truth table: bit 2x + y answers x and y
unfoldable pub op_of : ℕ → Bool → Bool → Bool
op_of op x y = bit (2 * num x + num y) op

-- where node p goes when mark v is set to b
unfoldable pub step_in : List ℕ → ℕ → Bool → ℕ → ℕ
step_in w v b p = cond (eqb (node_at w p).mark v) (child_of b (node_at w p)) p

-- the function of the k marks from l on that node p of an operand stands for
abbrev pub tree_by : Operand → ℕ → ℕ → ℕ → Tree
tree_by A k l p = tree_set A.mark A.value k A.table l p

-- the operation of what two nodes stand for
unfoldable pub pair_of : Task → ℕ → ℕ → ℕ → ℕ → Tree
pair_of T k l x y = pointwise T.op (tree_by T.left k l x) (tree_by T.right k l y)

-- over all the marks from l on
abbrev pub pair_tree : Task → ℕ → ℕ → ℕ → Tree
pair_tree T l x y = pair_of T (T.marks - l) l x y

-- the first mark at which one of them is split
abbrev pub top : Task → ℕ → ℕ → ℕ
top T x y = min (at T.left.table x).mark (at T.right.table y).mark

-- node r of s means what the pair means
pub record Means (T : Task) (s : Table) (x y r : ℕ) : Type 0 where
  pub stands : Stands s (top T x y) r
  pub means : tree_of (T.marks - top T x y) s (top T x y) r ≡ pair_tree T (top T x y) x y
