-- What an entry that makes a table answers, and what becomes of its buffers.
use Rattle.std.specs.Prelude.{◌≡◌, Bool, true, false, List, [], ◌∷◌, ℕ, ◌*◌, ◌≤◌, ltb, length, get_or, take, Result, Ok, Err}
use Rattle.theory.specs.Tree.{Tree}
use Rattle.theory.specs.Table.{Table, canon}
use Rattle.theory.specs.Words.{stride, nodes, words_of}
use Rattle.refusal.specs.Number.{NODES}
use Rattle.refusal.specs.Buffers.{padded}
use Rattle.refusal.specs.Verdict.{Finding, finding, Verdict, answered, judged}
use Rattle.refusal.specs.declared.Refusal.{Refusal}
use Rattle.refusal.specs.declared.RefusalKind.TheVariants.{Nodes}

-- the table is the answer: its node count, and its words in the node output
unfoldable pub table_answer : Table → Verdict
table_answer t = answered (length t ∷ []) (words_of t ∷ [])

-- after the admission's findings comes NODES, with its place; without it the table is the answer
unfoldable pub makes : List Finding → Bool → ℕ → Table → Verdict
makes fs over place t = judged fs (judged (finding NODES over place ∷ []) (table_answer t))

-- an operator's verdict: the canonical table of the function g of n marks; NODES where it exceeds room
abbrev pub operates : List Finding → ℕ → ℕ → Tree → Verdict
operates fs n room g = makes fs (ltb room (length (canon n g))) 0 (canon n g)

-- the words from node k on are as before
abbrev pub Beyond : ℕ → List ℕ → List ℕ → Type 0
Beyond k w w' = (i : ℕ) → stride * k ≤ i → get_or w' i 0 ≡ get_or w i 0

-- what a core leaves in the node output: the table, or the place of NODES
abbrev pub Leaves : Bool → ℕ → Table → List ℕ → Result ℕ ℕ → Type 0
Leaves over place t out (Ok c) = (stride * c ≤ length out) × (nodes c out ≡ t) × (over ≡ false)
Leaves over place t out (Err p) = (over ≡ true) × (place ≡ p)

-- what settling asks: the table lies within the output
abbrev pub Settling : Result ℕ ℕ → List ℕ → Type 0
Settling (Ok c) out = stride * c ≤ length out
Settling (Err p) out = Unit {0}

-- what settling leaves
pub record Kept (c : ℕ) (out out' work work' : List ℕ) (r : Result ℕ Refusal) : Type 0 where
  pub answer : r ≡ Ok c
  pub output : out' ≡ padded (take (stride * c) out) (length out)
  pub memory : work' ≡ padded [] (length work)

pub record Cleared (p : ℕ) (out out' work work' : List ℕ) (r : Result ℕ Refusal) : Type 0 where
  pub answer : r ≡ Err (record { kind = Nodes; place = p })
  pub output : out' ≡ padded [] (length out)
  pub memory : work' ≡ padded [] (length work)

abbrev pub Settles : Result ℕ ℕ → List ℕ → List ℕ → List ℕ → List ℕ → Result ℕ Refusal → Type 0
Settles (Ok c) out out' work work' r = Kept c out out' work work' r
Settles (Err p) out out' work work' r = Cleared p out out' work work' r
