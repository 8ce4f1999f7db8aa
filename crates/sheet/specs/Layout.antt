-- A sheet in the specification's layout, and that its section can be given back.
use Rattle.std.specs.Prelude.{◌≡◌, Bool, List, ℕ, ◌+◌, ◌*◌, ◌<◌, ◌≤◌, length}
use Rattle.theory.specs.Clause.{WellFormed}
use Rattle.theory.specs.Table.{Ordered}
use Rattle.theory.specs.Words.{stride, nodes}
use Rattle.cube.specs.Cube.{clause_at}
use Rattle.refusal.specs.Limits.{max_marks, max_nodes, max_clauses}
use Rattle.sheet.specs.declared.Header.{Header}
use Rattle.sheet.specs.Sheet.{table_kind, clause_kind, header_bytes, clause_bytes, node_bytes, decode_header, clause_words, node_words}

-- a header of version 1 whose total is the input's length
pub record Whole (bytes : List ℕ) : Type 0 where
  pub enough : header_bytes ≤ length bytes
  pub version_is : (decode_header bytes).version ≡ 1
  pub total-is : (decode_header bytes).total ≡ length bytes

-- the section starts at 32, the other has count 0 and offset 0, and the total is exact
pub record Placed (each count offset other other_offset total : ℕ) : Type 0 where
  pub offset_is : offset ≡ header_bytes
  pub other-is : other ≡ 0
  pub other_offset_is : other_offset ≡ 0
  pub total-is : total ≡ header_bytes + each * count

-- a list within the limits, each clause well formed, for an output that holds it
pub record ClauseSheet (dnf : Bool) (bytes clauses : List ℕ) (h : Header) : Type 0 where
  pub kind_is : h.kind ≡ clause_kind dnf
  pub placed : Placed clause_bytes h.clause_count h.clause_offset h.node_count h.node_offset h.total
  pub marks : h.n ≤ max_marks
  pub few : h.clause_count ≤ max_clauses
  pub formed : (i : ℕ) → i < h.clause_count → WellFormed h.n (clause_at (clause_words h bytes) i)
  pub room : 2 * h.clause_count ≤ length clauses

-- an ordered table within the limits, for an output that holds it
pub record TableSheet (bytes node-output : List ℕ) (h : Header) : Type 0 where
  pub kind_is : h.kind ≡ table_kind
  pub placed : Placed node_bytes h.node_count h.node_offset h.clause_count h.clause_offset h.total
  pub marks : h.n ≤ max_marks
  pub some : 1 ≤ h.node_count
  pub few : h.node_count ≤ max_nodes
  pub ordered : Ordered h.n (nodes h.node_count (node_words h bytes))
  pub room : stride * h.node_count ≤ length node-output
