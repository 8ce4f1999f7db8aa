-- What the functions of the pool ask and ensure.
use Rattle.std.specs.Prelude.{◌≡◌, Bool, true, false, not, ◌&&◌, ◌⊎◌, List, ℕ, suc, ◌+◌, ◌-◌, ◌*◌, ◌/◌, ◌%◌, ◌^◌, ◌<◌, ◌≤◌, length, get_or, Option, Some, None}
use Rattle.std.specs.Bool.{beq}
use Rattle.theory.specs.Tree.{Tree, fork}
use Rattle.theory.specs.Mask.{odd}
use Rattle.theory.specs.Table.{Table, at, step, mk, walk, Good}
use Rattle.theory.specs.Words.{nodes}
use Rattle.theory.proofs.Step.{Stands}
use Rattle.cube.specs.Cube.{part}
use Rattle.entries.specs.Entries.{says}
use Rattle.put.specs.declared.Run.{Run}
use Rattle.put.specs.declared.Job.{Job}
use Rattle.put.specs.declared.Side.{Side}
use Rattle.put.specs.declared.Side.TheVariants.{Low, High, Both}
use Rattle.put.specs.declared.Cut.{Cut}
use Rattle.table.specs.declared.BddPointer.{BddPointer}
use Rattle.pool.specs.Pool.{Noding, Holds}
use Rattle.chain.specs.Chain.{Chained}
use Rattle.put.specs.declared.Step.{Step}
use Rattle.put.specs.declared.Step.TheVariants.{Done, Split}

-- ---- a clause
abbrev pub rest : Job → ℕ → ℕ
rest j l = j.clause.fixed / 2 ^ l

abbrev pub upper : Job → ℕ → Bool
upper j l = beq (odd (j.clause.values / 2 ^ l)) (says j.form)

abbrev pub off_low : Job → ℕ → Bool
off_low j l = odd (rest j l) && upper j l

abbrev pub off_high : Job → ℕ → Bool
off_high j l = odd (rest j l) && not (upper j l)

-- whether the side is kept, alone or with the other; of Both, whether both are
abbrev pub keeps : Side → Option Side → Bool
keeps Low None = false
keeps Low (Some Low) = true
keeps Low (Some High) = false
keeps Low (Some Both) = true
keeps High None = false
keeps High (Some Low) = false
keeps High (Some High) = true
keeps High (Some Both) = true
keeps Both None = false
keeps Both (Some Low) = false
keeps Both (Some High) = false
keeps Both (Some Both) = true

-- node a's tree at level l with the rest of the clause set
abbrev pub tree : Job → Table → ℕ → ℕ → Bool → Tree
tree j s l a off = part (says j.form) j.clause.fixed j.clause.values s (j.run.n - l) l a off

-- ---- the memo
-- a word is a stamp times this, and a node number below it; a u32 holds it for stamps below the limit
abbrev pub memo_base : ℕ
memo_base = 16384

abbrev pub stamp_limit : ℕ
stamp_limit = 262144

abbrev pub word : List ℕ → ℕ → ℕ → ℕ
word w cap x = get_or w (3 * cap + x) 0

abbrev pub word_of : ℕ → ℕ → ℕ
word_of stamp r = stamp * memo_base + r

abbrev pub Recalls : ℕ → ℕ → Option BddPointer → Type 0
Recalls e stamp (Some r) = (e / memo_base ≡ stamp) × (r.0 ≡ e % memo_base)
Recalls e stamp None = e / memo_base ≡ stamp → ⊥

-- what the memo knows of a node, the walk finds in the pool as it is
abbrev pub Known : List ℕ → Job → ℕ → Type 0
Known w j k = (x : ℕ) → x < j.run.cap → word w j.run.cap x / memo_base ≡ j.run.stamp
    → (x < k) × (walk (nodes k w) (at (nodes k w) x).mark (tree j (nodes k w) (at (nodes k w) x).mark x false) ≡ (nodes k w, word w j.run.cap x % memo_base))

-- no stamp is a later clause's
abbrev pub Young : List ℕ → ℕ → ℕ → Type 0
Young w cap stamp = (x : ℕ) → x < cap → word w cap x / memo_base ≤ stamp

pub record Ready (w : List ℕ) (j : Job) (l k a : ℕ) : Type 0 where
  pub marks : j.run.n ≤ 60
  pub fixed : j.clause.fixed < 2 ^ j.run.n
  pub stamp : j.run.stamp < stamp_limit
  pub few : j.run.cap ≤ memo_base
  pub long : 6 * j.run.cap ≤ length w
  pub level : l ≤ j.run.n
  pub fits : k ≤ j.run.cap
  pub good : Good j.run.n (nodes k w)
  pub stands : Stands (nodes k w) l a
  pub known : Known w j k
  pub young : Young w j.run.cap j.run.stamp
  pub chained : Chained w j.run.cap k

-- ---- a node split
pub record Parted (w : List ℕ) (j : Job) (l k a : ℕ) (off : Bool) (c : Cut) : Type 0 where
  pub from : l ≤ c.variable.0
  pub below : c.variable.0 < j.run.n
  pub low : c.low.0 ≡ step (nodes k w) c.variable.0 false a
  pub high : c.high.0 ≡ step (nodes k w) c.variable.0 true a
  pub fits : Stands (nodes k w) c.variable.0 a
  pub walks : walk (nodes k w) l (tree j (nodes k w) l a off)
      ≡ walk (nodes k w) c.variable.0 (fork (tree j (nodes k w) (suc c.variable.0) c.low.0 (keeps Low c.kept)) (tree j (nodes k w) (suc c.variable.0) c.high.0 (keeps High c.kept)))
  pub to : walk (nodes k w) l (tree j (nodes k w) l a off) ≡ walk (nodes k w) c.variable.0 (tree j (nodes k w) c.variable.0 a false)
  pub owns : c.own ≡ true → (at (nodes k w) a).mark ≡ c.variable.0

abbrev pub Splits : List ℕ → Job → ℕ → ℕ → ℕ → Bool → Step → Type 0
Splits w j l k a off (Done r) = walk (nodes k w) l (tree j (nodes k w) l a off) ≡ (nodes k w, r.0)
Splits w j l k a off (Split c) = Parted w j l k a off c × (keeps Both c.kept ≡ false)

-- ---- a node over two sides
pub record Settling (w : List ℕ) (run : Run) (k : ℕ) (c : Cut) (a p q : ℕ) : Type 0 where
  pub noded : Noding w run.n run.cap k c.variable.0 p q
  pub long : 6 * run.cap ≤ length w
  pub low : c.low.0 ≡ step (nodes k w) c.variable.0 false a
  pub high : c.high.0 ≡ step (nodes k w) c.variable.0 true a
  pub fits : Stands (nodes k w) c.variable.0 a
  pub stamp : run.stamp < stamp_limit
  pub chained : Chained w run.cap k

pub record Settled (w w' : List ℕ) (run : Run) (k : ℕ) (c : Cut) (a p q r k' : ℕ) : Type 0 where
  pub holds : Holds (mk (nodes k w) c.variable.0 p q) run.cap w' r k'
  pub memo : (x : ℕ) → x < run.cap → (word w' run.cap x ≡ word w run.cap x) ⊎ ((c.own ≡ true) × (x ≡ a) × (word w' run.cap x ≡ word_of run.stamp r))
  pub chained : Chained w' run.cap k'

abbrev pub Settles : List ℕ → List ℕ → Run → ℕ → Cut → ℕ → ℕ → ℕ → Option (BddPointer × ℕ) → Type 0
Settles w w' run k c a p q (Some (r, k')) = Settled w w' run k c a p q r.0 k'
Settles w w' run k c a p q None = run.cap < length (mk (nodes k w) c.variable.0 p q).0

-- ---- put
pub record Put (w w' : List ℕ) (j : Job) (l k a : ℕ) (off : Bool) (r k' : ℕ) : Type 0 where
  pub holds : Holds (walk (nodes k w) l (tree j (nodes k w) l a off)) j.run.cap w' r k'
  pub known : Known w' j k'
  pub young : Young w' j.run.cap j.run.stamp
  pub chained : Chained w' j.run.cap k'

abbrev pub Puts : List ℕ → List ℕ → Job → ℕ → ℕ → ℕ → Bool → Option (BddPointer × ℕ) → Type 0
Puts w w' j l k a off (Some (r, k')) = Put w w' j l k a off r.0 k'
Puts w w' j l k a off None = j.run.cap < length (walk (nodes k w) l (tree j (nodes k w) l a off)).0

-- ---- a node that is split by the cut c
pub record Forking (w : List ℕ) (j : Job) (k a : ℕ) (c : Cut) : Type 0 where
  pub ready : Ready w j c.variable.0 k a
  pub parted : Parted w j c.variable.0 k a false c
