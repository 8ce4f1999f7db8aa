-- The program's steps: a refusal is printed, an answer goes on.
use mathlib.Core.Path.{◌≡◌, refl, sym, ap, ap₂, subst, ◌∙◌}
use mathlib.Core.Logic.{inl, inr}
use mathlib.Core.Bool.{Bool, true, false, cond}
use mathlib.Core.List.{List, [], ◌∷◌}
use Prim.Native.Nat.{ℕ, ◌*◌, ◌≤◌, ◌<◌}
use native.Mathlib.Omega.{arith}
use lib.Dec.{eqb, ltb}
use lib.ListN.{length, get_or, length-replicate}
use borrow.Author.Tests.{lt-ltb, le-ltb, ltb-false}
use Rattle.theory.specs.Words.{nodes}
use Rattle.std.specs.Prelude.{Result, Ok, Err}
use Rattle.refusal.specs.Number.{order, SHEET, number_of}
use Rattle.refusal.specs.Limits.{max_marks}
use Rattle.refusal.specs.Buffers.{padded, buffer_after, output_after}
use Rattle.refusal.specs.Verdict.{Verdict, refused, answered, Finding, first_of, tried, judged, Reply, replied, gives, refusal_reply}
use Rattle.refusal.specs.declared.Refusal.{Refusal}
use Rattle.refusal.proofs.Judged.{judged-either, passes}
use Rattle.refusal.proofs.Single.{no-values, no_values, one_value}
use Rattle.admission.specs.Admission.{work_findings}
use Rattle.making.specs.Made.{makes, table_answer}
use Rattle.entries.specs.declared.Form.{Form}
use Rattle.entries.specs.declared.Form.TheVariants.{Dnf, Cnf}
use Rattle.entries.specs.Entries.{says}
use Rattle.builders.specs.Builders.{makes_dnf, makes_cnf}
use Rattle.listing.specs.Listed.{capacity, lists, list_answer}
use Rattle.paths.specs.Paths.{path_list}
use Rattle.lists.specs.Lists.{lists_paths, lists_dnf, lists_cnf}
use Rattle.text.specs.Text.{whole_text, refused_text}
use Rattle.text.specs.Writing.{Prints}
use Rattle.sheet.specs.declared.Header.{Header}
use Rattle.sheet.specs.declared.Section.{Section}
use Rattle.sheet.specs.Sheet.{kind_number, section_words, clause_kind, holds_clauses, decode_header, gives_clauses, gives_table, gives_section, reads_sheet}
use Rattle.sheet.proofs.Reading.{marks-few}
use Rattle.milling.specs.Mill.{node_room, node_buffer, work_buffer, clause_buffer, blank, not_taken, or_refused, builds_kind, cnf_text, table_text, list_text, mill_text, Tells}

-- ---- verdicts whose answer has a value
Valued : Verdict → Type 0
Valued (refused k p) = Unit {0}
Valued (answered [] outs) = ⊥
Valued (answered (v ∷ vs) outs) = Unit {0}

valued_judged : (fs : List Finding) (v : Verdict) → Valued v → Valued (judged fs v)
unfolding Valued
valued_judged fs v h = elim (judged-either fs) [
  | inl clean ↦ subst Valued (sym (clean v)) h
  | inr c ↦ subst Valued (sym (c.always v)) tt
]

record Answer (v : Verdict) (k : ℕ) (vs : List ℕ) : Type 0 where
  outs : List (List ℕ)
  is : v ≡ answered (k ∷ vs) outs

answer : (v : Verdict) (k : ℕ) (vs : List ℕ) → gives (k ∷ vs) ≡ replied v → Answer v k vs
unfolding replied
answer (refused n p) k vs e = no_values n p k vs (sym e)
answer (answered us outs) k vs e = record { outs = outs; is = ap (λ (x : List ℕ). answered x outs) (sym (ap (λ (x : Reply). x.values) e)) }

refusal : (v : Verdict) → Valued v → (r : Refusal) → refusal_reply r ≡ replied v → v ≡ refused (number_of r.kind) r.place
unfolding Valued replied
refusal (refused n p) h r e = sym (λ i. refused (e i).number (e i).place)
refusal (answered [] outs) h r e = absurd h
refusal (answered (x ∷ xs) outs) h r e = no-values r x xs e

-- ---- a step
module _ (v : Verdict) (room : ℕ) (next : List ℕ → List ℕ → List ℕ) where
  abbrev step : List ℕ
  step = or_refused v (λ vs outs. next vs (padded (get_or outs 0 []) room))

  step-refused : Valued v → (r : Refusal) → refusal_reply r ≡ replied v → step ≡ refused_text (number_of r.kind) r.place
  unfolding or_refused
  step-refused h r e = ap (λ (x : Verdict). or_refused x (λ vs outs. next vs (padded (get_or outs 0 []) room))) (refusal v h r e)

  step-goes : (k : ℕ) (vs : List ℕ) → gives (k ∷ vs) ≡ replied v → (out : List ℕ) → out ≡ output_after 0 v (blank room) → next (k ∷ vs) out ≡ step
  unfolding or_refused buffer_after
  step-goes k vs e out is =
      let a = answer v k vs e in
      let w : out ≡ padded (get_or a.outs 0 []) room = is ∙ ap (λ (x : Verdict). output_after 0 x (blank room)) a.is ∙ ap (padded (get_or a.outs 0 [])) (length-replicate {A = ℕ} room 0) in
      ap (next (k ∷ vs)) w ∙ sym (ap (λ (x : Verdict). or_refused x (λ vs outs. next vs (padded (get_or outs 0 []) room))) a.is)

-- a step's text, where it goes on with another's
pub tells-is : (t u out out' : List ℕ) (r : Result ℕ Refusal) → t ≡ u → Tells t out out' r → Tells u out out' r
tells-is t u out out' (Ok k) e p = rw (← e) p
tells-is t u out out' (Err r) e p = (sym e ∙ p.0, p.1)

pub prints-is : (t u out out' : List ℕ) (r : ℕ) → t ≡ u → Prints t out out' r → Prints u out out' r
prints-is t u out out' r e p = rw (← e) p

-- a step refuses, and nothing is printed yet
pub tells_refused : (t out : List ℕ) (r : Refusal) → t ≡ refused_text (number_of r.kind) r.place → (a : Result ℕ Refusal) → a ≡ Err r → Tells t out out a
tells_refused t out r e a is = rw is (e, refl)

-- ---- the lists
lists_valued : (b : Bool) (n count : ℕ) (table out work : List ℕ) → Valued (lists_paths b n count table out work)
unfolding lists list_answer Valued
lists_valued b n count table out work = valued_judged _ _ (valued_judged _ _ tt)

module _ (b : Bool) (n count : ℕ) (table : List ℕ) (k : ℕ) (e : gives (k ∷ []) ≡ replied (lists_paths b n count table (blank clause_buffer) (blank work_buffer))) where
  -- no more clauses than the output holds
  pub listed-few : k ≤ 1024
  unfolding lists list_answer judged tried order first_of replied
  listed-few = elim (judged-either (work_findings n count table (blank work_buffer))) [
    | inl clean ↦
        let p : (ltb (capacity (blank clause_buffer)) (length (path_list b n (nodes count table))) ≡ false) × (gives (k ∷ []) ≡ replied (list_answer (path_list b n (nodes count table)))) =
        passes _ _ _ _ _ _ (e ∙ ap replied (clean _)) in
        omega (arith, one_value k (length (path_list b n (nodes count table))) p.1, ltb-false (capacity (blank clause_buffer)) (length (path_list b n (nodes count table))) p.0, length-replicate {A = ℕ} clause_buffer 0)
    | inr c ↦ no_values c.number c.place k [] (sym (e ∙ ap replied (c.always _)))
  ]

  pub listed-within : (out : List ℕ) → length out ≡ length (blank clause_buffer) → 2 * k ≤ length out
  listed-within out same = omega (arith, listed-few, length-replicate {A = ℕ} clause_buffer 0)

module _ (n count : ℕ) (table : List ℕ) where
  abbrev cnf_listed : Verdict
  cnf_listed = lists_cnf n count table (blank clause_buffer) (blank work_buffer)

  abbrev dnf_listed : Verdict
  dnf_listed = lists_dnf n count table (blank clause_buffer) (blank work_buffer)

  -- the CNF
  module _ (dnfs : ℕ) (dnf : List ℕ) where
    pub cnf-refused : (r : Refusal) → refusal_reply r ≡ replied cnf_listed → cnf_text n count table dnfs dnf ≡ refused_text (number_of r.kind) r.place
    unfolding cnf_text
    cnf-refused r e = step-refused _ clause_buffer (λ vs cnf. whole_text n count dnfs dnf (get_or vs 0 0) cnf) (lists_valued false n count table (blank clause_buffer) (blank work_buffer)) r e

    pub cnf-goes : (k : ℕ) → gives (k ∷ []) ≡ replied cnf_listed → (cnf : List ℕ) → cnf ≡ output_after 0 cnf_listed (blank clause_buffer) → whole_text n count dnfs dnf k cnf ≡ cnf_text n count table dnfs dnf
    unfolding cnf_text
    cnf-goes k e cnf w = step-goes _ clause_buffer (λ vs cnf. whole_text n count dnfs dnf (get_or vs 0 0) cnf) k [] e cnf w

  -- the DNF
  pub dnf-refused : (r : Refusal) → refusal_reply r ≡ replied dnf_listed → table_text n count table ≡ refused_text (number_of r.kind) r.place
  unfolding table_text
  dnf-refused r e = step-refused _ clause_buffer (λ vs dnf. cnf_text n count table (get_or vs 0 0) dnf) (lists_valued true n count table (blank clause_buffer) (blank work_buffer)) r e

  pub dnf-goes : (k : ℕ) → gives (k ∷ []) ≡ replied dnf_listed → (dnf : List ℕ) → dnf ≡ output_after 0 dnf_listed (blank clause_buffer) → cnf_text n count table k dnf ≡ table_text n count table
  unfolding table_text
  dnf-goes k e dnf w = step-goes _ clause_buffer (λ vs dnf. cnf_text n count table (get_or vs 0 0) dnf) k [] e dnf w

-- ---- the build
module _ (n count : ℕ) (clauses : List ℕ) where
  builds_valued : (dnf : Bool) → Valued (builds_kind (clause_kind dnf) n count clauses)
  unfolding builds_kind makes_dnf makes_cnf makes table_answer Valued
  builds_valued true = valued_judged _ _ (valued_judged _ _ tt)
  builds_valued false = valued_judged _ _ (valued_judged _ _ tt)

  -- the builder that the form names
  pub builds-dnf : (f : Form) → f ≡ Dnf → (out work : List ℕ) → out ≡ blank node_buffer → work ≡ blank work_buffer → makes_dnf n count clauses node_room out work ≡ builds_kind (clause_kind (says f)) n count clauses
  unfolding builds_kind
  builds-dnf f e out work a b = ap₂ (makes_dnf n count clauses node_room) a b ∙ sym (ap (λ d. builds_kind (clause_kind (says d)) n count clauses) e)

  pub builds-cnf : (f : Form) → f ≡ Cnf → (out work : List ℕ) → out ≡ blank node_buffer → work ≡ blank work_buffer → makes_cnf n count clauses node_room out work ≡ builds_kind (clause_kind (says f)) n count clauses
  unfolding builds_kind
  builds-cnf f e out work a b = ap₂ (makes_cnf n count clauses node_room) a b ∙ sym (ap (λ d. builds_kind (clause_kind (says d)) n count clauses) e)

  module _ (dnf : Bool) where
    pub build-refused : (r : Refusal) → refusal_reply r ≡ replied (builds_kind (clause_kind dnf) n count clauses) → list_text (clause_kind dnf) n count clauses ≡ refused_text (number_of r.kind) r.place
    unfolding list_text
    build-refused r e = step-refused _ node_buffer (λ vs table. table_text n (get_or vs 0 0) table) (builds_valued dnf) r e

    pub build-goes : (k : ℕ) → gives (k ∷ []) ≡ replied (builds_kind (clause_kind dnf) n count clauses) → (table : List ℕ) → table ≡ output_after 0 (builds_kind (clause_kind dnf) n count clauses) (blank node_buffer)
        → table_text n k table ≡ list_text (clause_kind dnf) n count clauses
    unfolding list_text
    build-goes k e table w = step-goes _ node_buffer (λ vs table. table_text n (get_or vs 0 0) table) k [] e table w

-- ---- the reading
module _ (bytes : List ℕ) where
  pub too_long : 65536 < length bytes → true ≡ not_taken bytes
  unfolding not_taken
  too_long h = rw (lt-ltb 65536 (length bytes) h)

  pub headless_taken : length bytes ≤ 65536 → length bytes < 32 → false ≡ not_taken bytes
  unfolding not_taken
  headless_taken h k = rw (le-ltb 65536 (length bytes) h, lt-ltb (length bytes) 32 k)

  pub kind_decides : length bytes ≤ 65536 → 32 ≤ length bytes → (h : Header) → h ≡ decode_header bytes → eqb h.kind 3 ≡ not_taken bytes
  unfolding not_taken
  kind_decides a b h e = rw (le-ltb 65536 (length bytes) a, le-ltb (length bytes) 32 b, ap (λ (x : Header). x.kind) e)

  pub mill-not_taken : true ≡ not_taken bytes → mill_text bytes ≡ refused_text SHEET 0
  unfolding mill_text
  mill-not_taken e = rw (← e)

  abbrev reading : Verdict
  reading = reads_sheet bytes (blank clause_buffer) (blank node_buffer)

  abbrev next : List ℕ → List ℕ → List ℕ
  next vs clauses = list_text (get_or vs 0 0) (get_or vs 1 0) (get_or vs 2 0) clauses

  reads_valued : Valued reading
  unfolding reads_sheet gives_section Valued
  reads_valued = valued_judged _ _ (elim (holds_clauses (decode_header bytes).kind) as (λ b. Valued (cond b (gives_clauses (decode_header bytes) bytes (blank clause_buffer)) (gives_table (decode_header bytes) bytes))) [
    | true ↦ valued_judged _ _ tt
    | false ↦ tt
  ])

  module _ (taken : false ≡ not_taken bytes) where
    reads_first : step reading clause_buffer next ≡ mill_text bytes
    unfolding mill_text
    reads_first = rw (← taken)

    pub read_refused : (r : Refusal) → refusal_reply r ≡ replied reading → mill_text bytes ≡ refused_text (number_of r.kind) r.place
    read_refused r e = sym reads_first ∙ step-refused reading clause_buffer next reads_valued r e

    module _ (s : Section) (e : gives (section_words s) ≡ replied reading) where
      pub section_marks : s.n ≤ max_marks
      section_marks =
          let v = answer reading (kind_number s.kind) (s.n ∷ s.count ∷ []) e in
          marks-few bytes (blank clause_buffer) (blank node_buffer) (kind_number s.kind) s.n (s.count ∷ []) v.outs v.is

      pub section_goes : (clauses : List ℕ) → clauses ≡ output_after 0 reading (blank clause_buffer) → list_text (kind_number s.kind) s.n s.count clauses ≡ mill_text bytes
      section_goes clauses w = step-goes reading clause_buffer next (kind_number s.kind) (s.n ∷ s.count ∷ []) e clauses w ∙ reads_first

      -- a table has no builder
      pub table-refused : kind_number s.kind ≡ 3 → (clauses : List ℕ) → clauses ≡ output_after 0 reading (blank clause_buffer) → mill_text bytes ≡ refused_text SHEET 0
      unfolding list_text builds_kind or_refused
      table-refused k clauses w = sym (section_goes clauses w) ∙ ap (λ x. list_text x s.n s.count clauses) k
