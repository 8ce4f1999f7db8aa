-- Reduced tables, node by node, and what a walk's start finds wrong.
use Rattle.std.specs.Prelude.{◌≡◌, Bool, true, false, cond, not, ◌&&◌, ◌||◌, List, ◌∷◌, ℕ, zero, suc, ◌-◌, ◌≤◌, ◌<◌, eqb, ltb, leb, length, get_or, set}
use Rattle.theory.specs.Table.{Node, Table, at, same, num}
use Rattle.theory.specs.Words.{node_at, nodes}
use Rattle.refusal.specs.Number.{REDUCED}
use Rattle.refusal.specs.First.{first_failing}
use Rattle.refusal.specs.Verdict.{Finding, finding, Verdict, judged}
use Rattle.table.specs.Inspection.{table_findings, root_of}

-- at most k links lead from node p to node i
unfoldable pub leads : ℕ → Table → ℕ → ℕ → Bool
leads zero s p i = eqb p i
leads (suc k) s p i = eqb p i || (leads k s (at s p).low i || leads k s (at s p).high i)

-- reachable from the root: by a path, of at most n links
unfoldable pub reachable : ℕ → Table → ℕ → Bool
reachable n s i = leads n s (length s - 1) i

-- a node from 2 up and before node j has the triple x
unfoldable pub repeated : Table → Node → ℕ → Bool
repeated s x zero = false
repeated s x (suc j) = (leb 2 j && same (at s j) x) || repeated s x j

-- reduced, as the start of a walk tests it: a node from 2 up has two different links, repeats no earlier triple, and is reachable
unfoldable pub node_reduced : ℕ → Table → ℕ → Bool
node_reduced n s i =
    cond (ltb i 2) true
    (not (eqb (at s i).low (at s i).high) && not (repeated s (at s i) i) && reachable n s i)

-- the lowest offending node, or the count where there is none
unfoldable pub first_unreduced : ℕ → ℕ → List ℕ → ℕ
first_unreduced n count words = first_failing (node_reduced n (nodes count words)) count

abbrev pub not_reduced : ℕ → ℕ → List ℕ → Finding
not_reduced n count words = finding REDUCED (ltb (first_unreduced n count words) count) (first_unreduced n count words)

-- what a walk's start checks: as inspection, then REDUCED; the root where nothing is wrong
unfoldable pub admits_walk : ℕ → ℕ → List ℕ → Verdict
admits_walk n count words = judged (not_reduced n count words ∷ table_findings n count words) (root_of count)

-- the marks with those of a marked node's links set
unfoldable pub links_marked : List ℕ → ℕ → List ℕ → List ℕ
links_marked w p marks = cond (eqb (get_or marks p 0) 0) marks (set (set marks (node_at w p).low 1) (node_at w p).high 1)

-- the marks say which nodes are reachable
pub record Marked (n count : ℕ) (w marks : List ℕ) : Type 0 where
  pub long : count ≤ length marks
  pub right : (i : ℕ) → i < count → get_or marks i 0 ≡ num (reachable n (nodes count w) i)
