-- What the short list's entry answers, for any words at all.
use Rattle.std.specs.Prelude.{Bool, not, List, [], ◌∷◌, ◌++◌, ℕ, ◌≤◌, max, ltb, length, Result}
use Rattle.theory.specs.Tree.{Tree}
use Rattle.theory.specs.Table.{meaning}
use Rattle.theory.specs.Words.{nodes}
use Rattle.refusal.specs.Limits.{deep_work}
use Rattle.refusal.specs.Number.{LIMIT, SHORT, NODES}
use Rattle.refusal.specs.Verdict.{Finding, finding, Verdict}
use Rattle.table.specs.Inspection.{table_findings}
use Rattle.making.specs.Room.{over_room}
use Rattle.making.proofs.RoomLaws.{Roomy}
use Rattle.rule.specs.Rule.{short_list, short_fits}
use Rattle.listing.specs.Listed.{over_clauses, lists, Leaves}
use Rattle.refusal.specs.declared.Refusal.{Refusal}
use Rattle.refusal.specs.declared.RefusalKind.{RefusalKind}

-- SHORT: work too small
unfoldable pub short_deep : ℕ → ℕ → List ℕ → Bool
short_deep widest n work = ltb (length work) (deep_work widest n)

-- what may be wrong with a table, a room and the short list's work
abbrev pub short_findings : ℕ → ℕ → List ℕ → ℕ → List ℕ → List Finding
short_findings n count words room work =
    table_findings n count words ++ (finding LIMIT (over_room room) 0 ∷ finding SHORT (short_deep (max room count) n work) 0 ∷ [])

-- NODES: a table that the rule calls for is over room; CLAUSES: the list is longer than the output. Both have place 0
abbrev pub short_overs : ℕ → ℕ → Tree → List ℕ → List Finding
short_overs n room f out = finding NODES (not (short_fits room n f)) 0 ∷ over_clauses out (length (short_list n f)) 0 ∷ []

-- to_optimized_dnf: the short list of the table's function
abbrev pub lists_short : ℕ → ℕ → List ℕ → ℕ → List ℕ → List ℕ → Verdict
lists_short n count words room out work =
    lists (short_findings n count words room work) (short_overs n room (meaning n (nodes count words)) out) (short_list n (meaning n (nodes count words)))

-- what the core asks and leaves
pub record Shortening (n count room : ℕ) (work : List ℕ) : Type 0 where
  pub rooms : Roomy room
  pub long : deep_work (max room count) n ≤ length work

abbrev pub ListsShort : ℕ → ℕ → List ℕ → ℕ → List ℕ → List ℕ → Result ℕ Refusal → Type 0
ListsShort n count words room out out' written = Leaves (short_overs n room (meaning n (nodes count words)) out) (short_list n (meaning n (nodes count words))) out' written

-- a refusal with place 0
abbrev pub over : RefusalKind → Refusal
over kind = record { kind = kind; place = 0 }
