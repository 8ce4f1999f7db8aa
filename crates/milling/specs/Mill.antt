-- What the program prints, as a function of the bytes that it reads.
use Rattle.std.specs.Prelude.{◌≡◌, Bool, cond, not, ◌&&◌, ◌||◌, List, [], ℕ, ◌*◌, eqb, ltb, length, get_or, replicate, Result, Ok, Err}
use Rattle.theory.specs.Words.{stride}
use Rattle.refusal.specs.Number.{SHEET, number_of}
use Rattle.refusal.specs.declared.Refusal.{Refusal}
use Rattle.refusal.specs.Limits.{plain_work}
use Rattle.refusal.specs.Buffers.{padded}
use Rattle.refusal.specs.Verdict.{Verdict, refused, answered}
use Rattle.builders.specs.Builders.{makes_dnf, makes_cnf}
use Rattle.lists.specs.Lists.{lists_dnf, lists_cnf}
use Rattle.text.specs.Text.{whole_text, refused_text}
use Rattle.text.specs.Writing.{Prints}
use Rattle.sheet.specs.Sheet.{dnf_kind, cnf_kind, table_kind, header_bytes, decode_header, reads_sheet}

-- the longest input
abbrev pub input_limit : ℕ
input_limit = 65536

-- room 1,024 nodes and 1,024 clauses, as words
abbrev pub node_room : ℕ
node_room = 1024

abbrev pub node_buffer : ℕ
node_buffer = stride * node_room

abbrev pub work_buffer : ℕ
work_buffer = plain_work node_room

abbrev pub clause_buffer : ℕ
clause_buffer = 2 * 1024

-- a buffer as it is first lent
abbrev pub blank : ℕ → List ℕ
blank k = replicate k 0

-- SHEET before anything is read: over 65,536 bytes, or a sheet of kind 3
unfoldable pub not_taken : List ℕ → Bool
not_taken bytes = ltb input_limit (length bytes) || (not (ltb (length bytes) header_bytes) && eqb (decode_header bytes).kind table_kind)

-- a step's refusal is all that is printed; after an answer it goes on with the values and the words that it gave
unfoldable pub or_refused : Verdict → (List ℕ → List (List ℕ) → List ℕ) → List ℕ
or_refused (refused k p) next = refused_text k p
or_refused (answered vs outs) next = next vs outs

-- a clause list's kind names its builder
unfoldable pub builds_kind : ℕ → ℕ → ℕ → List ℕ → Verdict
builds_kind kind n count clauses =
    cond (eqb kind dnf_kind) (makes_dnf n count clauses node_room (blank node_buffer) (blank work_buffer))
    (cond (eqb kind cnf_kind) (makes_cnf n count clauses node_room (blank node_buffer) (blank work_buffer)) (refused SHEET 0))

-- the last step: the CNF, then the whole text
unfoldable pub cnf_text : ℕ → ℕ → List ℕ → ℕ → List ℕ → List ℕ
cnf_text n count table dnfs dnf =
    or_refused (lists_cnf n count table (blank clause_buffer) (blank work_buffer)) (λ vs outs. whole_text n count dnfs dnf (get_or vs 0 0) (padded (get_or outs 0 []) clause_buffer))

-- the third: the DNF
unfoldable pub table_text : ℕ → ℕ → List ℕ → List ℕ
table_text n count table =
    or_refused (lists_dnf n count table (blank clause_buffer) (blank work_buffer)) (λ vs outs. cnf_text n count table (get_or vs 0 0) (padded (get_or outs 0 []) clause_buffer))

-- the second: the build
unfoldable pub list_text : ℕ → ℕ → ℕ → List ℕ → List ℕ
list_text kind n count clauses = or_refused (builds_kind kind n count clauses) (λ vs outs. table_text n (get_or vs 0 0) (padded (get_or outs 0 []) node_buffer))

-- the first: the reading
unfoldable pub mill_text : List ℕ → List ℕ
mill_text bytes =
    cond (not_taken bytes) (refused_text SHEET 0)
    (or_refused (reads_sheet bytes (blank clause_buffer) (blank node_buffer)) (λ vs outs. list_text (get_or vs 0 0) (get_or vs 1 0) (get_or vs 2 0) (padded (get_or outs 0 []) clause_buffer)))

-- a step's text stands in the buffer; or it is a refusal's, which is still to be printed, and the buffer is as it was
abbrev pub Tells : List ℕ → List ℕ → List ℕ → Result ℕ Refusal → Type 0
Tells text out out' (Ok r) = Prints text out out' r
Tells text out out' (Err r) = (text ≡ refused_text (number_of r.kind) r.place) × (out' ≡ out)
