-- What carrying, adding a clause and building ask and ensure.
use Rattle.std.specs.Prelude.{◌≡◌, List, ℕ, ◌+◌, ◌-◌, ◌*◌, ◌/◌, ◌%◌, ◌^◌, ◌<◌, ◌≤◌, length, get_or, Option, Some, None, Result, Ok, Err}
use Rattle.theory.specs.Tree.{Tree}
use Rattle.theory.specs.Table.{Table, at, tree_of, walk, constants, canon, Good}
use Rattle.theory.specs.Words.{nodes}
use Rattle.theory.proofs.Step.{Stands}
use Rattle.theory.specs.Clause.{Clause}
use Rattle.cube.specs.Cube.{opening, built, set_cube}
use Rattle.table.specs.declared.BddPointer.{BddPointer}
use Rattle.entries.specs.declared.Form.{Form}
use Rattle.entries.specs.Entries.{says}
use Rattle.put.specs.declared.Job.{Job}
use Rattle.pool.specs.Pool.{Holds}
use Rattle.chain.specs.Chain.{Chained}
use Rattle.put.specs.Put.{memo_base, stamp_limit, word, Young}
use Rattle.build.specs.declared.Goal.{Goal}

-- node a of the table s, walked into o from its own level on
abbrev pub carried : ℕ → Table → Table → ℕ → Table × ℕ
carried n s o a = walk o (at s a).mark (tree_of (n - (at s a).mark) s (at s a).mark a)

-- what the memo knows of a node, the walk finds in out as it is
abbrev pub Known : List ℕ → List ℕ → Goal → ℕ → ℕ → Type 0
Known w out g k m = (x : ℕ) → x < g.run.cap → word w g.run.cap x / memo_base ≡ g.run.stamp
    → (x < k) × (carried g.run.n (nodes k w) (nodes m out) x ≡ (nodes m out, word w g.run.cap x % memo_base))

-- node i of out was made for a node of the pool, and the memo says for which
pub record Source (w out : List ℕ) (g : Goal) (k m i : ℕ) : Type 0 where
  pub x : ℕ
  pub lies : x < k
  pub stamp : word w g.run.cap x / memo_base ≡ g.run.stamp
  pub says : word w g.run.cap x % memo_base ≡ i
  pub mark : (at (nodes k w) x).mark ≡ (at (nodes m out) i).mark

abbrev pub Origin : List ℕ → List ℕ → Goal → ℕ → ℕ → Type 0
Origin w out g k m = (i : ℕ) → 2 ≤ i → i < m → Source w out g k m i

pub record Carrying (w out : List ℕ) (g : Goal) (k m a : ℕ) : Type 0 where
  pub marks : g.run.n ≤ 60
  pub stamp : g.run.stamp < stamp_limit
  pub few : g.run.cap ≤ memo_base
  pub small : g.room ≤ memo_base
  pub long : 4 * g.run.cap ≤ length w
  pub wide : 3 * g.room ≤ length out
  pub fits : k ≤ g.run.cap
  pub holds : m ≤ g.room
  pub pool : Good g.run.n (nodes k w)
  pub good : Good g.run.n (nodes m out)
  pub lies : a < k
  pub known : Known w out g k m
  pub origin : Origin w out g k m
  pub young : Young w g.run.cap g.run.stamp

pub record Carried (w w' out out' : List ℕ) (g : Goal) (k m a r m' : ℕ) : Type 0 where
  pub holds : Holds (carried g.run.n (nodes k w) (nodes m out) a) g.room out' r m'
  pub pool : nodes k w' ≡ nodes k w
  pub known : Known w' out' g k m'
  pub origin : Origin w' out' g k m'
  pub above : (y : ℕ) → a < y → word w' g.run.cap y ≡ word w g.run.cap y
  pub young : Young w' g.run.cap g.run.stamp

abbrev pub Carries : List ℕ → List ℕ → List ℕ → List ℕ → Goal → ℕ → ℕ → ℕ → Option (BddPointer × ℕ) → Type 0
Carries w w' out out' g k m a (Some (r, m')) = Carried w w' out out' g k m a r.0 m'
Carries w w' out out' g k m a None = g.room < length (carried g.run.n (nodes k w) (nodes m out) a).0

-- ---- a plain loop
pub record Copied (w w' t : List ℕ) (e : ℕ) : Type 0 where
  pub front : (i : ℕ) → i < e → get_or w' i 0 ≡ get_or t i 0
  pub back : (i : ℕ) → e ≤ i → get_or w' i 0 ≡ get_or w i 0

-- ---- a pool brought to one table
-- every stamp in the memo is an earlier one
abbrev pub Older : List ℕ → ℕ → ℕ → Type 0
Older w cap stamp = (x : ℕ) → x < cap → word w cap x / memo_base < stamp

pub record Compacting (w out : List ℕ) (g : Goal) (k a : ℕ) : Type 0 where
  pub marks : g.run.n ≤ 60
  pub stamp : g.run.stamp < stamp_limit
  pub few : g.run.cap ≤ memo_base
  pub cap : g.run.cap ≡ 2 * g.room
  pub some : 2 ≤ g.room
  pub long : 6 * g.run.cap ≤ length w
  pub wide : 3 * g.room ≤ length out
  pub fits : k ≤ g.run.cap
  pub good : Good g.run.n (nodes k w)
  pub stands : Stands (nodes k w) 0 a
  pub older : Older w g.run.cap g.run.stamp

-- the walk of node a's function into an empty table
abbrev pub fresh : ℕ → Table → ℕ → Table × ℕ
fresh n s a = walk ((constants n)) 0 (tree_of n s 0 a)

pub record Compacted (w w' : List ℕ) (g : Goal) (k a r m : ℕ) : Type 0 where
  pub holds : Holds (fresh g.run.n (nodes k w) a) g.room w' r m
  pub young : Young w' g.run.cap g.run.stamp
  pub chained : Chained w' g.run.cap m

abbrev pub Compacts : List ℕ → List ℕ → Goal → ℕ → ℕ → Option (BddPointer × ℕ) → Type 0
Compacts w w' g k a (Some (r, m)) = Compacted w w' g k a r.0 m
Compacts w w' g k a None = g.room < length (fresh g.run.n (nodes k w) a).0

-- ---- one clause
-- the pool holds at most room nodes, and its node root means t
pub record Pool (w : List ℕ) (n cap room count root stamp : ℕ) (t : Tree) : Type 0 where
  pub good : Good n (nodes count w)
  pub stands : Stands (nodes count w) 0 root
  pub means : tree_of n (nodes count w) 0 root ≡ t
  pub fits : count ≤ room
  pub older : Older w cap stamp
  pub chained : Chained w cap count

pub record Adding (w out : List ℕ) (j : Job) (room k a : ℕ) : Type 0 where
  pub marks : j.run.n ≤ 60
  pub fixed : j.clause.fixed < 2 ^ j.run.n
  pub stamp : j.run.stamp + 1 < stamp_limit
  pub cap : j.run.cap ≡ 2 * room
  pub some : 2 ≤ room
  pub few : room ≤ 4096
  pub long : 12 * room ≤ length w
  pub wide : 3 * room ≤ length out
  pub pool : Pool w j.run.n j.run.cap room k a j.run.stamp (tree_of j.run.n (nodes k w) 0 a)

-- what the clause makes of node a
abbrev pub target : Job → Table → ℕ → Tree
target j s a = set_cube (says j.form) j.clause.fixed j.clause.values (tree_of j.run.n s 0 a)

pub record Added (w w' : List ℕ) (j : Job) (room k a r c : ℕ) : Type 0 where
  pub pool : Pool w' j.run.n j.run.cap room c r (j.run.stamp + 2) (target j (nodes k w) a)
  pub small : length (canon j.run.n (target j (nodes k w) a)) ≤ room

abbrev pub Adds : List ℕ → List ℕ → Job → ℕ → ℕ → ℕ → Option (BddPointer × ℕ) → Type 0
Adds w w' j room k a (Some (r, c)) = Added w w' j room k a r.0 c
Adds w w' j room k a None = room < length (canon j.run.n (target j (nodes k w) a))

-- ---- the table at last
pub record Exporting (w out : List ℕ) (g : Goal) (k a : ℕ) : Type 0 where
  pub compacting : Compacting w out g k a
  pub small : k ≤ g.room

pub record Exported (w out : List ℕ) (g : Goal) (k a r : ℕ) : Type 0 where
  pub table : nodes r out ≡ canon g.run.n (tree_of g.run.n (nodes k w) 0 a)
  pub fits : r ≤ g.room

-- ---- the list
-- the function of the opening run of k entries
abbrev pub run_of : ℕ → Form → (ℕ → Clause) → ℕ → Tree
run_of n form entry k = built (says form) n (opening entry k)

pub record Building (n : ℕ) (entry : ℕ → Clause) (k room : ℕ) (out w : List ℕ) : Type 0 where
  pub marks : n ≤ 60
  pub some : 2 ≤ room
  pub few : room ≤ 4096
  pub count : k ≤ 65536
  pub masks : (i : ℕ) → i < k → (entry i).fixed < 2 ^ n
  pub long : 12 * room ≤ length w
  pub wide : 3 * room ≤ length out

-- every opening run's table has its place
abbrev pub Fit : ℕ → (ℕ → Clause) → Form → ℕ → ℕ → Type 0
Fit n entry form room k = (i : ℕ) → i ≤ k → length (canon n (run_of n form entry i)) ≤ room

pub record Counted (n : ℕ) (entry : ℕ → Clause) (k : ℕ) (form : Form) (room : ℕ) (out : List ℕ) (c : ℕ) : Type 0 where
  pub table : nodes c out ≡ canon n (run_of n form entry k)
  pub small : c ≤ room
  pub fit : Fit n entry form room k

-- the run of m entries is the shortest that has no place
pub record Refused (n : ℕ) (entry : ℕ → Clause) (k : ℕ) (form : Form) (room m : ℕ) : Type 0 where
  pub some : 0 < m
  pub within : m ≤ k
  pub over : room < length (canon n (run_of n form entry m))
  pub least : (i : ℕ) → i < m → length (canon n (run_of n form entry i)) ≤ room

abbrev pub Builds : ℕ → (ℕ → Clause) → ℕ → Form → ℕ → List ℕ → Result ℕ ℕ → Type 0
Builds n entry k form room out (Ok c) = Counted n entry k form room out c
Builds n entry k form room out (Err m) = Refused n entry k form room m
