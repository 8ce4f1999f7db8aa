-- What the reader answers, for any bytes at all.
use Rattle.std.specs.Prelude.{◌≡◌, Bool, true, false, cond, not, ◌||◌, List, [], ◌∷◌, ℕ, ◌+◌, ◌*◌, ◌≤◌, eqb, ltb, length, Result}
use Rattle.theory.specs.Words.{stride}
use Rattle.refusal.specs.Number.{LIMIT, SHORT, CLAUSE, CLAUSES, SHEET}
use Rattle.refusal.specs.Limits.{max_marks}
use Rattle.refusal.specs.Buffers.{output_after}
use Rattle.refusal.specs.Told.{reply_of}
use Rattle.refusal.specs.Verdict.{Finding, finding, Verdict, answered, judged, replied}
use Rattle.refusal.specs.declared.Refusal.{Refusal}
use Rattle.table.specs.Inspection.{over_limit, too_short, not_ordered}
use Rattle.entries.specs.Entries.{says}
use Rattle.builders.specs.Builders.{over_list, first_bad_entry}
use Rattle.sheet.specs.Bytes.{le_word, le_words}
use Rattle.sheet.specs.declared.Header.{Header}
use Rattle.sheet.specs.declared.Kind.{Kind}
use Rattle.sheet.specs.declared.Kind.TheVariants.{Clauses, Table}
use Rattle.sheet.specs.declared.Section.{Section}

-- the kinds of sheet; 4 to 15 are reserved
abbrev pub dnf_kind : ℕ
dnf_kind = 1

abbrev pub cnf_kind : ℕ
cnf_kind = 2

abbrev pub table_kind : ℕ
table_kind = 3

abbrev pub clause_kind : Bool → ℕ
clause_kind true = dnf_kind
clause_kind false = cnf_kind

abbrev pub kind_number : Kind → ℕ
kind_number (Clauses f) = clause_kind (says f)
kind_number Table = table_kind

-- a section's values: its kind, n and its count
abbrev pub section_words : Section → List ℕ
section_words s = kind_number s.kind ∷ s.n ∷ s.count ∷ []

-- the bytes of the header, of a clause and of a node
abbrev pub header_bytes : ℕ
header_bytes = 32

abbrev pub clause_bytes : ℕ
clause_bytes = 16

abbrev pub node_bytes : ℕ
node_bytes = 12

-- word i of the header, a u32
abbrev pub header_word : List ℕ → ℕ → ℕ
header_word bytes i = le_word 4 bytes (4 * i)

-- the eight words in their order
abbrev pub decode_header : List ℕ → Header
decode_header bytes = record {
  version = header_word bytes 0;
  n = header_word bytes 1;
  clause_count = header_word bytes 2;
  clause_offset = header_word bytes 3;
  node_count = header_word bytes 4;
  node_offset = header_word bytes 5;
  total = header_word bytes 6;
  kind = header_word bytes 7;
}

-- SHEET: no whole header, another version, or another length than the total says
unfoldable pub headless : List ℕ → Bool
headless bytes = ltb (length bytes) header_bytes || not (eqb (decode_header bytes).version 1) || not (eqb (decode_header bytes).total (length bytes))

-- SHEET: a section of that count does not start behind the header, the other is not of count 0 at offset 0, or the total is not exact
unfoldable pub misplaced : ℕ → ℕ → ℕ → ℕ → ℕ → ℕ → Bool
misplaced each count offset other other_offset total =
    not (eqb offset header_bytes) || not (eqb other 0) || not (eqb other_offset 0) || not (eqb total (header_bytes + each * count))

abbrev pub clauses_misplaced : Header → Bool
clauses_misplaced h = misplaced clause_bytes h.clause_count h.clause_offset h.node_count h.node_offset h.total

abbrev pub nodes_misplaced : Header → Bool
nodes_misplaced h = misplaced node_bytes h.node_count h.node_offset h.clause_count h.clause_offset h.total

-- the section's words: two u64 a clause, three u32 a node
abbrev pub clause_words : Header → List ℕ → List ℕ
clause_words h bytes = le_words 8 (2 * h.clause_count) bytes header_bytes

abbrev pub node_words : Header → List ℕ → List ℕ
node_words h bytes = le_words 4 (stride * h.node_count) bytes header_bytes

-- the first malformed clause, or the count where there is none
abbrev pub first_malformed : Header → List ℕ → ℕ
first_malformed h bytes = first_bad_entry false h.n h.clause_count (clause_words h bytes)

-- what may be wrong with a section of clauses
abbrev pub clause_findings : Header → List ℕ → List Finding
clause_findings h bytes =
    finding SHEET (clauses_misplaced h) 0
    ∷ finding LIMIT (over_list h.n h.clause_count) 0
    ∷ finding CLAUSE (ltb (first_malformed h bytes) h.clause_count) (first_malformed h bytes)
    ∷ []

-- what may be wrong with a section of nodes, and with the node output
abbrev pub node_findings : Header → List ℕ → List ℕ → List Finding
node_findings h bytes nodes =
    finding SHEET (nodes_misplaced h) 0
    ∷ finding LIMIT (over_limit h.n h.node_count) 0
    ∷ finding SHORT (too_short h.node_count nodes) 0
    ∷ not_ordered h.n h.node_count (node_words h bytes)
    ∷ []

abbrev pub holds_clauses : ℕ → Bool
holds_clauses kind = eqb kind dnf_kind || eqb kind cnf_kind

-- the section that the kind names; a kind that names none is SHEET
unfoldable pub kind_findings : Header → List ℕ → List ℕ → List Finding
kind_findings h bytes nodes =
    cond (holds_clauses h.kind) (clause_findings h bytes) (cond (eqb h.kind table_kind) (node_findings h bytes nodes) (finding SHEET true 0 ∷ []))

abbrev pub sheet_findings : List ℕ → List ℕ → List Finding
sheet_findings bytes nodes = finding SHEET (headless bytes) 0 ∷ kind_findings (decode_header bytes) bytes nodes

-- CLAUSES where the lent output does not hold them; else they are the answer, and the node output gets no word
abbrev pub gives_clauses : Header → List ℕ → List ℕ → Verdict
gives_clauses h bytes clauses =
    judged (finding CLAUSES (ltb (length clauses) (2 * h.clause_count)) h.clause_count ∷ [])
    (answered (h.kind ∷ h.n ∷ h.clause_count ∷ []) (clause_words h bytes ∷ [] ∷ []))

-- the table as written is the answer, and the clause output gets no word
abbrev pub gives_table : Header → List ℕ → Verdict
gives_table h bytes = answered (table_kind ∷ h.n ∷ h.node_count ∷ []) ([] ∷ node_words h bytes ∷ [])

unfoldable pub gives_section : Header → List ℕ → List ℕ → Verdict
gives_section h bytes clauses = cond (holds_clauses h.kind) (gives_clauses h bytes clauses) (gives_table h bytes)

-- what is read of a sheet: its kind, n and count, and the section's words
unfoldable pub reads_sheet : List ℕ → List ℕ → List ℕ → Verdict
reads_sheet bytes clauses nodes = judged (sheet_findings bytes nodes) (gives_section (decode_header bytes) bytes clauses)

-- what a call leaves, as its verdict says
pub record Outcome (v : Verdict) (r : Result Section Refusal) (clauses clauses' nodes nodes' : List ℕ) : Type 0 where
  pub reply : reply_of section_words r ≡ replied v
  pub list : clauses' ≡ output_after 0 v clauses
  pub table : nodes' ≡ output_after 1 v nodes

-- what is known once the header is read
pub record Headed (bytes : List ℕ) (h : Header) : Type 0 where
  pub header : h ≡ decode_header bytes
  pub whole : false ≡ headless bytes

-- what is known of a section that passed
pub record Giving (h : Header) (count most each : ℕ) (bytes : List ℕ) : Type 0 where
  pub marks : h.n ≤ max_marks
  pub few : count ≤ most
  pub long : header_bytes + each * count ≤ length bytes
