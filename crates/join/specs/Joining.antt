-- What the functions of the join ask and ensure.
use Rattle.std.specs.Prelude.{◌≡◌, Bool, true, false, Option, Some, None, List, ℕ, suc, ◌+◌, ◌-◌, ◌*◌, ◌/◌, ◌<◌, ◌≤◌, min, length}
use Rattle.theory.specs.Tree.{Tree, fork, pointwise, cofactor}
use Rattle.theory.specs.Table.{Table, truth, num, walk, meaning, Good}
use Rattle.theory.specs.Words.{stride, node_at, nodes}
use Rattle.theory.proofs.Step.{Stands}
use Rattle.refusal.specs.Limits.{min_room, max_marks, max_nodes}
use Rattle.table.specs.declared.BddPointer.{BddPointer}
use Rattle.table.specs.Inspection.{SoundTable}
use Rattle.pool.specs.Pool.{Pushing, Holds}
use Rattle.join.specs.declared.Job.{Job}
use Rattle.join.specs.declared.Pair.{Pair}
use Rattle.join.specs.declared.Cut.{Cut}
use Rattle.join.specs.declared.Step.{Step}
use Rattle.join.specs.declared.Step.TheVariants.{Known, Fork}
use Rattle.join.specs.Task.{Task, op_of, step_in, pair_tree, top, Means}
use Rattle.join.specs.Memo.{ways, Remembers}

-- the job over its two tables
abbrev pub task_of : List ℕ → List ℕ → Job → Task
task_of a b j = record {
  marks = j.n;
  op = op_of j.op;
  left = record { table = nodes j.left.count a; mark = j.left.variable.0; value = j.left.value };
  right = record { table = nodes j.right.count b; mark = j.right.variable.0; value = j.right.value };
}

-- the function that the whole join makes
abbrev pub joined_by : List ℕ → List ℕ → Job → Tree
joined_by a b j =
    pointwise (op_of j.op)
    (cofactor j.left.variable.0 j.left.value (meaning j.n (nodes j.left.count a)))
    (cofactor j.right.variable.0 j.right.value (meaning j.n (nodes j.right.count b)))

-- ---- what is known at once
-- one answer for both cases
abbrev pub Agrees : ℕ → ℕ → Option BddPointer → Type 0
Agrees x y (Some r) = (r.0 ≡ x) × (r.0 ≡ y)
Agrees x y None = Unit {0}

-- why r is the pair's answer
pub data Sure (op : ℕ) (x y r : ℕ) : Type 0 where
  both : x < 2 → y < 2 → r ≡ num (op_of op (truth x) (truth y)) → Sure op x y r
  by_left : x < 2 → ((v : Bool) → r ≡ num (op_of op (truth x) v)) → Sure op x y r
  by_right : y < 2 → ((v : Bool) → r ≡ num (op_of op v (truth y))) → Sure op x y r

abbrev pub Deciding : ℕ → ℕ → ℕ → Option BddPointer → Type 0
Deciding op x y (Some r) = Sure op x y r.0
Deciding op x y None = x < 2 → y < 2 → ⊥

pub data Answered (op : ℕ) (m : List ℕ) (x y r : ℕ) : Type 0 where
  sure : Sure op x y r → Answered op m x y r
  remembered : Remembers m x y r → Answered op m x y r

abbrev pub Knowing : ℕ → List ℕ → ℕ → ℕ → Option BddPointer → Type 0
Knowing op m x y (Some r) = Answered op m x y r.0
Knowing op m x y None = x < 2 → y < 2 → ⊥

-- ---- a pair split
-- a node that lies in the words, with its mark within the limit
pub record Placed (w : List ℕ) (p : ℕ) : Type 0 where
  pub lies : stride * p + 2 < length w
  pub mark : (node_at w p).mark ≤ max_marks

pub record Cuts (a b : List ℕ) (p : Pair) (c : Cut) : Type 0 where
  pub level : c.level.0 ≡ min (node_at a p.left.0).mark (node_at b p.right.0).mark
  pub pair : c.pair ≡ p
  pub low-left : c.low.left.0 ≡ step_in a c.level.0 false p.left.0
  pub low-right : c.low.right.0 ≡ step_in b c.level.0 false p.right.0
  pub high-left : c.high.left.0 ≡ step_in a c.level.0 true p.left.0
  pub high-right : c.high.right.0 ≡ step_in b c.level.0 true p.right.0

-- two ordered tables, and a memory with a place for each right node
pub record Operands (a b m : List ℕ) (j : Job) : Type 0 where
  pub left : SoundTable j.n j.left.count a (j.left.count - 1)
  pub right : SoundTable j.n j.right.count b (j.right.count - 1)
  pub slots : j.right.count ≤ length m / ways

pub record Splitting (a b m : List ℕ) (j : Job) (x y : ℕ) : Type 0 where
  pub operands : Operands a b m j
  pub x_in : x < j.left.count
  pub y_in : y < j.right.count

-- what the memory holds, the table means
abbrev pub Knows : Task → List ℕ → Table → Type 0
Knows T m s = (x y r : ℕ) → x < length T.left.table → y < length T.right.table → Remembers m x y r → Means T s x y r

-- whatever table is grown: it has the pair's node already
abbrev pub Has : Task → List ℕ → ℕ → ℕ → ℕ → Type 0
Has T m x y r = (s : Table) → Good T.marks s → Knows T m s → (l : ℕ) → l ≤ top T x y → walk s l (pair_tree T l x y) ≡ (s, r)

-- whatever table is grown: the pair's node stands over those of two pairs
pub record Parted (T : Task) (x y : ℕ) (c : Cut) : Type 0 where
  pub left_in : c.pair.left.0 < length T.left.table
  pub right_in : c.pair.right.0 < length T.right.table
  pub from : top T x y ≤ c.level.0
  pub below : c.level.0 < T.marks
  pub level : c.level.0 ≡ top T c.pair.left.0 c.pair.right.0
  pub low-left : Stands T.left.table (suc c.level.0) c.low.left.0
  pub low-right : Stands T.right.table (suc c.level.0) c.low.right.0
  pub high-left : Stands T.left.table (suc c.level.0) c.high.left.0
  pub high-right : Stands T.right.table (suc c.level.0) c.high.right.0
  pub forks : pair_tree T c.level.0 c.pair.left.0 c.pair.right.0
      ≡ fork (pair_tree T (suc c.level.0) c.low.left.0 c.low.right.0) (pair_tree T (suc c.level.0) c.high.left.0 c.high.right.0)
  pub walks : (s : Table) → Good T.marks s → (l : ℕ) → l ≤ top T x y → walk s l (pair_tree T l x y) ≡ walk s c.level.0 (pair_tree T c.level.0 c.pair.left.0 c.pair.right.0)

abbrev pub Splits : List ℕ → List ℕ → List ℕ → Job → ℕ → ℕ → Step → Type 0
Splits a b m j x y (Known r) = Has (task_of a b j) m x y r.0
Splits a b m j x y (Fork c) = Parted (task_of a b j) x y c

-- ---- the descent
pub record Joining (a b out m : List ℕ) (j : Job) (l k x y : ℕ) : Type 0 where
  pub operands : Operands a b m j
  pub few : j.room ≤ max_nodes
  pub pushing : Pushing out j.room k
  pub good : Good j.n (nodes k out)
  pub left : Stands (nodes j.left.count a) l x
  pub right : Stands (nodes j.right.count b) l y
  pub known : Knows (task_of a b j) m (nodes k out)

-- what the descent holds at every pair
pub record Ready (a b out m : List ℕ) (j : Job) (k : ℕ) : Type 0 where
  pub operands : Operands a b m j
  pub few : j.room ≤ max_nodes
  pub pushing : Pushing out j.room k
  pub good : Good j.n (nodes k out)
  pub known : Knows (task_of a b j) m (nodes k out)

-- a pair that both tables have, from a level on
abbrev pub Standing : List ℕ → List ℕ → Job → ℕ → ℕ → ℕ → Type 0
Standing a b j l x y = Stands (nodes j.left.count a) l x × Stands (nodes j.right.count b) l y

-- the pair's node, and the output with k' nodes; or no room for it
abbrev pub Walks : List ℕ → List ℕ → List ℕ → List ℕ → Job → ℕ → ℕ → ℕ → ℕ → ℕ → Option BddPointer → Type 0
Walks a b out out' j l k k' x y (Some r) = walk (nodes k out) l (pair_tree (task_of a b j) l x y) ≡ (nodes k' out', r.0)
Walks a b out out' j l k k' x y None = j.room < length (walk (nodes k out) l (pair_tree (task_of a b j) l x y)).0

pub record Joined (a b out out' m' : List ℕ) (j : Job) (l k x y r k' : ℕ) : Type 0 where
  pub holds : Holds (walk (nodes k out) l (pair_tree (task_of a b j) l x y)) j.room out' r k'
  pub known : Knows (task_of a b j) m' (nodes k' out')

abbrev pub Joins : List ℕ → List ℕ → List ℕ → List ℕ → List ℕ → Job → ℕ → ℕ → ℕ → ℕ → Option (BddPointer × ℕ) → Type 0
Joins a b out out' m' j l k x y (Some (r, k')) = Joined a b out out' m' j l k x y r.0 k'
Joins a b out out' m' j l k x y None = j.room < length (walk (nodes k out) l (pair_tree (task_of a b j) l x y)).0

-- ---- the whole
pub record Given (a b out m : List ℕ) (j : Job) : Type 0 where
  pub operands : Operands a b m j
  pub some : min_room ≤ j.room
  pub few : j.room ≤ max_nodes
  pub long : stride * j.room ≤ length out
