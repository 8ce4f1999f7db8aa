-- What inspection and evaluation answer, for any words at all.
use Rattle.std.specs.Prelude.{◌≡◌, Bool, ◌||◌, List, [], ◌∷◌, ℕ, ◌*◌, ◌-◌, ◌≤◌, ltb, length, Result, Ok, Err}
use Rattle.theory.specs.Table.{node_ok, Ordered}
use Rattle.theory.specs.Words.{stride, nodes}
use Rattle.refusal.specs.Number.{LIMIT, SHORT, TABLE}
use Rattle.refusal.specs.Limits.{max_marks, max_nodes}
use Rattle.refusal.specs.First.{first_failing}
use Rattle.refusal.specs.Verdict.{Reply, gives, refusal_reply, Finding, finding, Verdict, answered, judged}
use Rattle.refusal.specs.declared.Refusal.{Refusal}
use Rattle.table.specs.declared.BddPointer.{BddPointer}
use Rattle.table.specs.declared.Inspection.{Inspection}
use Rattle.table.specs.declared.Inspection.TheVariants.{Sound, Refused}

abbrev pub pointer : BddPointer → List ℕ
pointer p = p.0 ∷ []

-- a sound table's reply is its root
unfoldable pub inspection_reply : Inspection → Reply
inspection_reply (Sound p) = gives (pointer p)
inspection_reply (Refused r) = refusal_reply r

abbrev pub IsRefused : Inspection → Type 0
IsRefused (Sound p) = ⊥
IsRefused (Refused r) = Unit {0}

abbrev pub refused_by : Refusal → Inspection
refused_by r = Refused r

-- what the tests answer, as inspection's form
abbrev pub inspected : Result BddPointer Refusal → Inspection
inspected (Ok p) = Sound p
inspected (Err r) = Refused r

-- LIMIT: over 60 marks, or a table count outside 1..4096
unfoldable pub over_limit : ℕ → ℕ → Bool
over_limit n count = ltb max_marks n || ltb count 1 || ltb max_nodes count

-- SHORT: the slice ends before its count
unfoldable pub too_short : ℕ → List ℕ → Bool
too_short count words = ltb (length words) (stride * count)

-- the first node that is not as ordered asks, or the count where each is
unfoldable pub first_bad : ℕ → ℕ → List ℕ → ℕ
first_bad n count words = first_failing (node_ok n (nodes count words)) count

abbrev pub not_ordered : ℕ → ℕ → List ℕ → Finding
not_ordered n count words = finding TABLE (ltb (first_bad n count words) count) (first_bad n count words)

-- the answer of a table that passes: its root, the last node
abbrev pub root_of : ℕ → Verdict
root_of count = answered ((count - 1) ∷ []) []

-- the table's own test alone
abbrev pub roots : ℕ → ℕ → List ℕ → Verdict
roots n count words = judged (not_ordered n count words ∷ []) (root_of count)

-- what may be wrong with a table
abbrev pub table_findings : ℕ → ℕ → List ℕ → List Finding
table_findings n count words = finding LIMIT (over_limit n count) 0 ∷ finding SHORT (too_short count words) 0 ∷ not_ordered n count words ∷ []

-- sound exactly for ordered tables within the limits
unfoldable pub inspects : ℕ → ℕ → List ℕ → Verdict
inspects n count words = judged (table_findings n count words) (root_of count)

-- what is known of a table that passed: inner functions ask for it
pub record SoundTable (n count : ℕ) (words : List ℕ) (root : ℕ) : Type 0 where
  pub marks : n ≤ max_marks
  pub some : 1 ≤ count
  pub few : count ≤ max_nodes
  pub long : stride * count ≤ length words
  pub ordered : Ordered n (nodes count words)
  pub last : root ≡ count - 1
