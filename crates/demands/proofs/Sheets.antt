-- The sheet reader, over its entry's own verdict: it reads exactly the sheets of the layout, what it gives back are the section's words, and its promise leaves one
-- possible answer.
use mathlib.Core.Path.{◌≡◌}
use mathlib.Core.Logic.{◌⊎◌}
use mathlib.Core.Bool.{Bool, true, false}
use mathlib.Core.List.{List, [], ◌∷◌}
use Prim.Native.Nat.{ℕ}
use Rattle.refusal.specs.Verdict.{answered}
use Rattle.refusal.proofs.Single.{Single}
use Rattle.refusal.specs.Told.{reply_of}
use Rattle.sheet.specs.Sheet.{table_kind, section_words, clause_kind, decode_header, clause_words, node_words, reads_sheet}
use Rattle.sheet.specs.Layout.{Whole, ClauseSheet, TableSheet}
use Rattle.sheet.proofs.Reading as of

module _ (bytes clauses nodes : List ℕ) where
  -- a sheet of clauses
  clauses_read : Whole bytes → (dnf : Bool) → ClauseSheet dnf bytes clauses (decode_header bytes)
      → reads_sheet bytes clauses nodes ≡ answered (clause_kind dnf ∷ (decode_header bytes).n ∷ (decode_header bytes).clause_count ∷ []) (clause_words (decode_header bytes) bytes ∷ [] ∷ [])
  clauses_read = of.clauses_read bytes clauses nodes

  -- a sheet with a table
  table_read : Whole bytes → TableSheet bytes nodes (decode_header bytes)
      → reads_sheet bytes clauses nodes ≡ answered (table_kind ∷ (decode_header bytes).n ∷ (decode_header bytes).node_count ∷ []) ([] ∷ node_words (decode_header bytes) bytes ∷ [])
  table_read = of.table_read bytes clauses nodes

  -- and nothing else
  only_sheets : (values : List ℕ) (outs : List (List ℕ)) → reads_sheet bytes clauses nodes ≡ answered values outs
      → Whole bytes
      × (ClauseSheet true bytes clauses (decode_header bytes) ⊎ (ClauseSheet false bytes clauses (decode_header bytes) ⊎ TableSheet bytes nodes (decode_header bytes)))
  only_sheets = of.only_sheets bytes clauses nodes

  read_sheet-single : Single (reply_of section_words) (reads_sheet bytes clauses nodes)
  read_sheet-single = of.sheet_single bytes clauses nodes
