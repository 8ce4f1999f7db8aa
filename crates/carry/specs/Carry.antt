-- What carrying a table into another asks and ensures.
use Rattle.std.specs.Prelude.{◌≡◌, ◌≢◌, ◌⊎◌, Bool, true, false, not, Option, Some, None, List, ℕ, ◌*◌, ◌-◌, ◌≤◌, ◌<◌, length, get_or}
use Rattle.theory.specs.Table.{Table, at, child_of, truth, num, walk, Ordered, Good}
use Rattle.theory.specs.Words.{stride, node_at, nodes}
use Rattle.theory.proofs.Again.{turn}
use Rattle.theory.proofs.Turned.{turned}
use Rattle.refusal.specs.Limits.{max_marks, max_nodes}
use Rattle.table.specs.declared.BddPointer.{BddPointer}
use Rattle.pool.specs.Pool.{Pushing, Holds}
use Rattle.carry.specs.declared.Way.{Way}
use Rattle.carry.specs.declared.Cut.{Cut}
use Rattle.carry.specs.declared.Step.{Step}
use Rattle.carry.specs.declared.Step.TheVariants.{Done, Split}

-- yes and no exchanged, or not
abbrev pub flip : Bool → Bool → Bool
flip true b = not b
flip false b = b

-- the table as it is, over n marks into room nodes
abbrev pub plain : ℕ → ℕ → Way
plain n room = record { exchange = false; n = n; room = room; variable = record { 0 = n }; value = false }

-- node a of the table s, walked into o from its own level on
abbrev pub carried : Way → Table → Table → ℕ → Table × ℕ
carried w s o a = walk o (at s a).mark (turned w.variable.0 w.value (flip w.exchange) (w.n - (at s a).mark) s (at s a).mark a)

-- a word of the memo: one more than the number, or 0
abbrev pub Recalls : ℕ → Option BddPointer → Type 0
Recalls word (Some r) = (word ≢ 0) × (r.0 ≡ word - 1)
Recalls word None = word ≡ 0

-- what the memo knows of a node, the walk finds in the output as it is
abbrev pub Known : List ℕ → Way → Table → Table → ℕ → Type 0
Known memo w s o k = (x : ℕ) → x < k → get_or memo x 0 ≢ 0 → carried w s o x ≡ (o, get_or memo x 0 - 1)

-- node a of an ordered table of k nodes, with a word of memo for each
pub record Reading (bdd memo : List ℕ) (w : Way) (k a : ℕ) : Type 0 where
  pub marks : w.n ≤ max_marks
  pub few : k ≤ max_nodes
  pub long : stride * k ≤ length bdd
  pub wide : k ≤ length memo
  pub ordered : Ordered w.n (nodes k bdd)
  pub lies : a < k

-- known at once: a constant, or in the memo
abbrev pub Ends : List ℕ → Way → ℕ → ℕ → Type 0
Ends memo w a r = ((a < 2) × (r ≡ num (flip w.exchange (truth a)))) ⊎ ((get_or memo a 0 ≢ 0) × (r ≡ get_or memo a 0 - 1))

-- split: its mark, and its children on the way
pub record Parts (bdd : List ℕ) (w : Way) (a : ℕ) (c : Cut) : Type 0 where
  pub two : 2 ≤ a
  pub mark : c.variable.0 ≡ (node_at bdd a).mark
  pub low : c.low.0 ≡ child_of (turn w.variable.0 w.value c.variable.0 false) (node_at bdd a)
  pub high : c.high.0 ≡ child_of (turn w.variable.0 w.value c.variable.0 true) (node_at bdd a)

abbrev pub Splits : List ℕ → List ℕ → Way → ℕ → Step → Type 0
Splits bdd memo w a (Done r) = Ends memo w a r.0
Splits bdd memo w a (Split c) = Parts bdd w a c

-- an ordered table of k nodes, a word of memo for each, and a good table of m nodes in the output
pub record Begun (bdd out memo : List ℕ) (w : Way) (k m : ℕ) : Type 0 where
  pub marks : w.n ≤ max_marks
  pub few : k ≤ max_nodes
  pub long : stride * k ≤ length bdd
  pub wide : k ≤ length memo
  pub ordered : Ordered w.n (nodes k bdd)
  pub pushing : Pushing out w.room m
  pub good : Good w.n (nodes m out)

-- the same, with a memo that is right about the output
pub record Ready (bdd out memo : List ℕ) (w : Way) (k m : ℕ) : Type 0 where
  pub begun : Begun bdd out memo w k m
  pub known : Known memo w (nodes k bdd) (nodes m out) k

-- node a of the table walked: its number, and the output with m' nodes; or no room for it
abbrev pub Walks : List ℕ → List ℕ → List ℕ → Way → ℕ → ℕ → ℕ → ℕ → Option BddPointer → Type 0
Walks bdd out out' w k m m' a (Some r) = carried w (nodes k bdd) (nodes m out) a ≡ (nodes m' out', r.0)
Walks bdd out out' w k m m' a None = w.room < length (carried w (nodes k bdd) (nodes m out) a).0

pub record Carried (bdd out out' memo' : List ℕ) (w : Way) (k m a r m' : ℕ) : Type 0 where
  pub holds : Holds (carried w (nodes k bdd) (nodes m out) a) w.room out' r m'
  pub known : Known memo' w (nodes k bdd) (nodes m' out') k

abbrev pub Carries : List ℕ → List ℕ → List ℕ → List ℕ → Way → ℕ → ℕ → ℕ → Option (BddPointer × ℕ) → Type 0
Carries bdd out out' memo' w k m a (Some (r, m')) = Carried bdd out out' memo' w k m a r.0 m'
Carries bdd out out' memo' w k m a None = w.room < length (carried w (nodes k bdd) (nodes m out) a).0
