-- What the reader takes: exactly the sheets of the layout; and different answers have different replies.
use mathlib.Core.Path.{◌≡◌, refl, sym, ap, ◌∙◌}
use mathlib.Core.Logic.{◌⊎◌, inl, inr}
use mathlib.Core.Bool.{Bool, true, false, cond, not}
use mathlib.Core.List.{List, [], ◌∷◌}
use Prim.Native.Nat.{ℕ, ◌*◌, ◌<◌, ◌≤◌}
use native.Mathlib.Omega.{arith}
use native.Mathlib.Decide.{ℕ_discrete}
use lib.Dec.{ltb}
use lib.ListN.{length}
use borrow.Author.Tests.{le-ltb, ltb-false, not-true}
use Rattle.theory.specs.Clause.{WellFormed}
use Rattle.theory.proofs.Clauses.{formed, not-malformed}
use Rattle.theory.specs.Words.{stride}
use Rattle.cube.specs.Cube.{clause_at}
use Rattle.refusal.specs.Number.{order, SHEET}
use Rattle.refusal.specs.Limits.{max_marks}
use Rattle.refusal.specs.Verdict.{Verdict, refused, answered, first_of, tried, judged}
use Rattle.refusal.specs.Told.{reply_of}
use Rattle.refusal.proofs.Firsts.{first-before, first-none}
use Rattle.refusal.proofs.Single.{OneToOne, Single, single, reply-one}
use Rattle.table.specs.Inspection.{over_limit, too_short, first_bad}
use Rattle.table.proofs.InspectLaws.{within, long, none_bad, bad_none}
use Rattle.builders.specs.Builders.{over_list, bad_entry, first_bad_entry}
use Rattle.builders.proofs.ListLaws.{listed}
use Rattle.sheet.specs.declared.Header.{Header}
use Rattle.sheet.specs.declared.Section.{Section}
use Rattle.entries.specs.declared.Form.TheVariants.{Dnf, Cnf}
use Rattle.sheet.specs.declared.Kind.{Kind}
use Rattle.sheet.specs.declared.Kind.TheVariants.{Clauses, Table}
use Rattle.sheet.specs.Layout.{Whole, ClauseSheet, TableSheet}
use Rattle.sheet.specs.Sheet.{kind_number, section_words, table_kind, decode_header, headless, clauses_misplaced, nodes_misplaced, clause_words, node_words, first_malformed, clause_kind, clause_findings, node_findings, gives_clauses, gives_table, reads_sheet}
use Rattle.sheet.proofs.HeaderLaws.{placed, in_place, whole, has_header}
use Rattle.sheet.proofs.SheetLaws.{not-over, reads_with_lem, reads_clauses, reads_table, reads_none}

-- ---- one to one
kinds_apart : (a b : Kind) → kind_number a ≡ kind_number b → a ≡ b
kinds_apart (Clauses Dnf) (Clauses Dnf) e = refl
kinds_apart (Clauses Dnf) (Clauses Cnf) e = absurd (omega (arith, e))
kinds_apart (Clauses Dnf) Table e = absurd (omega (arith, e))
kinds_apart (Clauses Cnf) (Clauses Dnf) e = absurd (omega (arith, e))
kinds_apart (Clauses Cnf) (Clauses Cnf) e = refl
kinds_apart (Clauses Cnf) Table e = absurd (omega (arith, e))
kinds_apart Table (Clauses Dnf) e = absurd (omega (arith, e))
kinds_apart Table (Clauses Cnf) e = absurd (omega (arith, e))
kinds_apart Table Table e = refl

sections_apart : (s t : Section) → section_words s ≡ section_words t → s ≡ t
sections_apart s t e =
    let z : ◌≡◌ {A = List ℕ} (kind_number s.kind ∷ s.n ∷ s.count ∷ []) (kind_number t.kind ∷ t.n ∷ t.count ∷ []) = e in
    let a : kind_number s.kind ≡ kind_number t.kind = cc in
    let n : s.n ≡ t.n = cc in
    let k : s.count ≡ t.count = cc in
    λ i. record { kind = kinds_apart s.kind t.kind a i; n = n i; count = k i }

pub sheet_one : OneToOne (reply_of section_words)
sheet_one = reply-one section_words sections_apart

-- ---- the clauses of a section
module _ (n count : ℕ) (words : List ℕ) where
  none-malformed : count ≤ first_bad_entry false n count words → (i : ℕ) → i < count → WellFormed n (clause_at words i)
  unfolding first_bad_entry bad_entry
  none-malformed le i h = formed n (clause_at words i) (not-true _ (first-before (λ j. not (bad_entry false n words j)) count i (omega arith)))

  all-formed : ((i : ℕ) → i < count → WellFormed n (clause_at words i)) → first_bad_entry false n count words ≡ count
  unfolding first_bad_entry bad_entry
  all-formed f = first-none (λ j. not (bad_entry false n words j)) count (λ i h. ap not (not-malformed n (clause_at words i) (f i h)))

-- an answer passed each test on its way
answers : (b : Bool) (k p : ℕ) (v : Verdict) (vs : List ℕ) (outs : List (List ℕ)) → cond b (refused k p) v ≡ answered vs outs → (b ≡ false) × (v ≡ answered vs outs)
answers true k p v vs outs e = absurd (let z : ◌≡◌ {A = ℕ} 0 1 = cc in omega arith)
answers false k p v vs outs e = (refl, e)

module _ (bytes clauses nodes : List ℕ) where
  abbrev h : Header
  h = decode_header bytes

  -- a sheet of the layout is read: what comes back are its kind, n and count, and the section's words
  pub clauses_read : Whole bytes → (dnf : Bool) → ClauseSheet dnf bytes clauses h
      → reads_sheet bytes clauses nodes ≡ answered (clause_kind dnf ∷ h.n ∷ h.clause_count ∷ []) (clause_words h bytes ∷ [] ∷ [])
  unfolding judged tried order first_of
  clauses_read w dnf s =
      reads_clauses bytes clauses nodes h (record { header = refl; whole = has_header bytes w }) dnf s.kind_is
      ∙ rw (
        ← (in_place _ _ _ _ _ _ s.placed),
        ← (not-over h.n h.clause_count s.marks s.few),
        all-formed h.n h.clause_count (clause_words h bytes) s.formed,
        le-ltb h.clause_count h.clause_count (omega arith),
        le-ltb (length clauses) (2 * h.clause_count) s.room,
      )
      (ap (λ k. answered (k ∷ h.n ∷ h.clause_count ∷ []) (clause_words h bytes ∷ [] ∷ [])) s.kind_is)

  pub table_read : Whole bytes → TableSheet bytes nodes h → reads_sheet bytes clauses nodes ≡ answered (table_kind ∷ h.n ∷ h.node_count ∷ []) ([] ∷ node_words h bytes ∷ [])
  unfolding judged tried order first_of over_limit too_short
  table_read w s =
      reads_table bytes clauses nodes h (record { header = refl; whole = has_header bytes w }) s.kind_is
      ∙ rw (
        ← (in_place _ _ _ _ _ _ s.placed),
        le-ltb 60 h.n s.marks,
        le-ltb h.node_count 1 s.some,
        le-ltb 4096 h.node_count s.few,
        le-ltb (length nodes) (stride * h.node_count) s.room,
        bad_none h.n h.node_count (node_words h bytes) s.ordered,
        le-ltb h.node_count h.node_count (omega arith),
      )

  -- and nothing else is
  module _ (vs : List ℕ) (outs : List (List ℕ)) (e : reads_sheet bytes clauses nodes ≡ answered vs outs) where
    is_whole : false ≡ headless bytes
    is_whole = sym (answers (headless bytes) SHEET 0 _ vs outs (sym (reads_with_lem bytes clauses nodes h refl) ∙ e)).0

    clause_sheet : (dnf : Bool) → h.kind ≡ clause_kind dnf → ClauseSheet dnf bytes clauses h
    unfolding judged tried order first_of
    clause_sheet dnf k =
        let v : judged (clause_findings h bytes) (gives_clauses h bytes clauses) ≡ answered vs outs = sym (reads_clauses bytes clauses nodes h (record { header = refl; whole = is_whole }) dnf k) ∙ e in
        let p₁ = answers (clauses_misplaced h) _ _ _ vs outs v in
        let p₂ = answers (over_list h.n h.clause_count) _ _ _ vs outs p₁.1 in
        let p₃ = answers (ltb (first_malformed h bytes) h.clause_count) _ _ _ vs outs p₂.1 in
        let p₄ = answers (ltb (length clauses) (2 * h.clause_count)) _ _ _ vs outs p₃.1 in
        let l = listed h.n h.clause_count (sym p₂.0) in
        record {
          kind_is = k;
          placed = placed _ _ _ _ _ _ (sym p₁.0);
          marks = l.marks;
          few = l.few;
          formed = none-malformed h.n h.clause_count (clause_words h bytes) (ltb-false _ _ p₃.0);
          room = ltb-false _ _ p₄.0;
        }

    table_sheet : h.kind ≡ table_kind → TableSheet bytes nodes h
    unfolding judged tried order first_of
    table_sheet k =
        let v : judged (node_findings h bytes nodes) (gives_table h bytes) ≡ answered vs outs = sym (reads_table bytes clauses nodes h (record { header = refl; whole = is_whole }) k) ∙ e in
        let p₁ = answers (nodes_misplaced h) _ _ _ vs outs v in
        let p₂ = answers (over_limit h.n h.node_count) _ _ _ vs outs p₁.1 in
        let p₃ = answers (too_short h.node_count nodes) _ _ _ vs outs p₂.1 in
        let p₄ = answers (ltb (first_bad h.n h.node_count (node_words h bytes)) h.node_count) _ _ _ vs outs p₃.1 in
        let l = within h.n h.node_count (sym p₂.0) in
        record {
          kind_is = k;
          placed = placed _ _ _ _ _ _ (sym p₁.0);
          marks = l.marks;
          some = l.some;
          few = l.few;
          ordered = none_bad h.n h.node_count (node_words h bytes) l.some (ltb-false _ _ p₄.0);
          room = long _ _ (sym p₃.0);
        }

    pub only_sheets : Whole bytes × (ClauseSheet true bytes clauses h ⊎ (ClauseSheet false bytes clauses h ⊎ TableSheet bytes nodes h))
    only_sheets = (
      whole bytes is_whole,
      elim (ℕ_discrete h.kind 1) [
        | yes a ↦ inl (clause_sheet true a)
        | no a ↦ inr (elim (ℕ_discrete h.kind 2) [
          | yes b ↦ inl (clause_sheet false b)
          | no b ↦ inr (elim (ℕ_discrete h.kind 3) [
            | yes d ↦ table_sheet d
            | no d ↦ absurd (let z : ◌≡◌ {A = ℕ} 0 1 = cc (sym (reads_none bytes clauses nodes h (record { header = refl; whole = is_whole }) a b d) ∙ e) in omega arith)
          ])
        ])
      ],
    )

-- each call has one possible answer; its buffers have equations of their own
pub sheet_single : (bytes clauses nodes : List ℕ) → Single (reply_of section_words) (reads_sheet bytes clauses nodes)
sheet_single bytes clauses nodes = single (reply_of section_words) sheet_one (reads_sheet bytes clauses nodes)

-- a section that is read has at most 60 marks
pub marks-few : (bytes clauses nodes : List ℕ) (k n : ℕ) (vs : List ℕ) (outs : List (List ℕ)) → reads_sheet bytes clauses nodes ≡ answered (k ∷ n ∷ vs) outs → n ≤ max_marks
marks-few bytes clauses nodes k n vs outs e =
    let s = only_sheets bytes clauses nodes (k ∷ n ∷ vs) outs e in
    elim s.1 [
      | inl a ↦ within-marks 1 _ _ _ (sym (clauses_read bytes clauses nodes s.0 true a) ∙ e) a.marks
      | inr b ↦ elim b [
        | inl a ↦ within-marks 2 _ _ _ (sym (clauses_read bytes clauses nodes s.0 false a) ∙ e) a.marks
        | inr a ↦ within-marks 3 _ _ _ (sym (table_read bytes clauses nodes s.0 a) ∙ e) a.marks
      ]
    ]
  where
    within-marks : (j m : ℕ) (us : List ℕ) (ws : List (List ℕ)) → answered (j ∷ m ∷ us) ws ≡ answered (k ∷ n ∷ vs) outs → m ≤ max_marks → n ≤ max_marks
    within-marks j m us ws q h = let z : m ≡ n = cc in omega arith
