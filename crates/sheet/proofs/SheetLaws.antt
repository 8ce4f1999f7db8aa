-- The reader's verdict by kind, and what a call leaves.
use mathlib.Core.Path.{◌≡◌, refl, sym, ap, ap₂, ◌∙◌}
use mathlib.Core.Logic.{◌≢◌}
use mathlib.Core.Bool.{Bool, true, false, cond}
use mathlib.Core.List.{List, [], ◌∷◌}
use Prim.Native.Nat.{ℕ, ◌+◌, ◌*◌, ◌-◌, ◌<◌, ◌≤◌}
use native.Mathlib.Omega.{arith}
use borrow.Rule.Slice.PartMut.{put_mid}
use lib.ListN.{length, take, replicate}
use Rattle.std.proofs.Common.{rules}
use Rattle.std.proofs.lemmas.Grind.{common_steps}
use Rattle.refusal.proofs.Zeroing.{zeroed}
use borrow.Author.Tests.{eq-eqb, ne_eqb, lt-ltb, le-ltb}
use Rattle.theory.specs.Words.{stride}
use Rattle.std.specs.Prelude.{Result, Ok, Err}
use Rattle.refusal.specs.Number.{order, SHEET, CLAUSES, number_of}
use Rattle.refusal.specs.Told.{reply_of}
use Rattle.refusal.specs.Limits.{max_nodes, max_clauses}
use Rattle.refusal.specs.Buffers.{padded, zeroing, buffer_after}
use Rattle.refusal.specs.Verdict.{Verdict, refused, answered, Finding, first_of, tried, judged, replied, gives}
use Rattle.refusal.specs.declared.Refusal.{Refusal}
use Rattle.refusal.specs.declared.RefusalKind.TheVariants as kind
use Rattle.refusal.proofs.Judged.{Quiet, refused_quiet, passes, judged-either}
use Rattle.refusal.proofs.Single.{no_values}
use mathlib.Core.Logic.{inl, inr}
use Rattle.table.specs.Inspection.{over_limit, too_short, root_of}
use Rattle.table.proofs.InspectLaws.{within, long}
use Rattle.entries.specs.declared.Form.{Form}
use Rattle.entries.specs.Entries.{says}
use Rattle.builders.specs.Builders.{over_list}
use Rattle.builders.proofs.ListLaws.{listed}
use Rattle.sheet.specs.declared.Header.{Header}
use Rattle.sheet.specs.declared.Kind.TheVariants.{Clauses, Table}
use Rattle.sheet.specs.declared.Section.{Section}
use Rattle.sheet.specs.Sheet.{section_words, header_bytes, clause_bytes, misplaced, clause_words, node_bytes, decode_header, headless, clauses_misplaced, nodes_misplaced, node_words, clause_findings, node_findings, clause_kind, holds_clauses, kind_findings, gives_clauses, gives_table, gives_section, reads_sheet, Outcome, Headed, Giving}
use Rattle.sheet.proofs.HeaderLaws.{placed, whole}

-- ---- outcomes
-- a refusal that touches nothing
pub untouched : (v : Verdict) (r : Refusal) (clauses nodes : List ℕ) → v ≡ refused (number_of r.kind) r.place → zeroing (number_of r.kind) ≡ false → Outcome v (Err r) clauses clauses nodes nodes
unfolding replied buffer_after
untouched v r clauses nodes e q = rw e (record { reply = refl; list = rw q; table = rw q })

-- CLAUSES in the buffers
pub cleared : (v : Verdict) (p : ℕ) (clauses clauses' nodes nodes' : List ℕ) → v ≡ refused CLAUSES p → clauses' ≡ padded [] (length clauses) → nodes' ≡ padded [] (length nodes)
    → Outcome v (Err (record { kind = kind.Clauses; place = p })) clauses clauses' nodes nodes'
unfolding replied buffer_after zeroing
cleared v p clauses clauses' nodes nodes' e a b = rw e (record { reply = refl; list = a; table = b })

-- an answer in the buffers
pub written : (v : Verdict) (r : Result Section Refusal) (vs list table clauses clauses' nodes nodes' : List ℕ) → v ≡ answered vs (list ∷ table ∷ []) → reply_of section_words r ≡ gives vs
    → clauses' ≡ padded list (length clauses) → nodes' ≡ padded table (length nodes) → Outcome v r clauses clauses' nodes nodes'
unfolding replied buffer_after
written v r vs list table clauses clauses' nodes nodes' e s a b = rw e (record { reply = s; list = a; table = b })

-- ---- the verdict by kind
-- the verdict, of a header that is read
abbrev pub reads_with : Header → List ℕ → List ℕ → List ℕ → Verdict
reads_with h bytes clauses nodes = cond (headless bytes) (refused SHEET 0) (judged (kind_findings h bytes nodes) (gives_section h bytes clauses))

module _ (bytes clauses nodes : List ℕ) where
  sheet_first : (b : Bool) (fs : List Finding) (v : Verdict) → judged (record { number = SHEET; so = b; place = 0 } ∷ fs) v ≡ cond b (refused SHEET 0) (judged fs v)
  unfolding judged tried order first_of
  sheet_first true fs v = refl
  sheet_first false fs v = refl

  pub reads_with_lem : (h : Header) → h ≡ decode_header bytes → reads_sheet bytes clauses nodes ≡ reads_with h bytes clauses nodes
  unfolding reads_sheet
  reads_with_lem h e = sheet_first (headless bytes) (kind_findings (decode_header bytes) bytes nodes) _ ∙ ap (λ (x : Header). reads_with x bytes clauses nodes) (sym e)

  pub reads_headless : true ≡ headless bytes → reads_sheet bytes clauses nodes ≡ refused SHEET 0
  reads_headless e = reads_with_lem (decode_header bytes) refl ∙ ap (λ b. cond b (refused SHEET 0) (judged (kind_findings (decode_header bytes) bytes nodes) (gives_section (decode_header bytes) bytes clauses))) (sym e)

  module _ (h : Header) (headed : Headed bytes h) where
    reads_kind : reads_sheet bytes clauses nodes ≡ judged (kind_findings h bytes nodes) (gives_section h bytes clauses)
    reads_kind = reads_with_lem h headed.header ∙ ap (λ b. cond b (refused SHEET 0) (judged (kind_findings h bytes nodes) (gives_section h bytes clauses))) (sym headed.whole)

    holds : (dnf : Bool) → h.kind ≡ clause_kind dnf → holds_clauses h.kind ≡ true
    holds true e = ap holds_clauses e
    holds false e = ap holds_clauses e

    pub reads_clauses : (dnf : Bool) → h.kind ≡ clause_kind dnf → reads_sheet bytes clauses nodes ≡ judged (clause_findings h bytes) (gives_clauses h bytes clauses)
    unfolding kind_findings gives_section
    reads_clauses dnf e =
        reads_kind ∙ rw (holds dnf e)

    pub reads_table : h.kind ≡ 3 → reads_sheet bytes clauses nodes ≡ judged (node_findings h bytes nodes) (gives_table h bytes)
    unfolding kind_findings gives_section
    reads_table e =
        reads_kind ∙ rw (ne_eqb h.kind 1 (omega (arith, e)), ne_eqb h.kind 2 (omega (arith, e)), eq-eqb h.kind 3 e)

    pub reads_none : h.kind ≢ 1 → h.kind ≢ 2 → h.kind ≢ 3 → reads_sheet bytes clauses nodes ≡ refused SHEET 0
    unfolding kind_findings
    reads_none a b c =
        reads_kind ∙ rw (ne_eqb h.kind 1 a, ne_eqb h.kind 2 b, ne_eqb h.kind 3 c) (sheet_first true [] _)

-- ---- the admission's answer
module _ (v section : Verdict) (fs : List Finding) (is : v ≡ judged fs section) where
  pub section_refused : Quiet fs → (r : Refusal) → ((u : Verdict) → judged fs u ≡ refused (number_of r.kind) r.place) → (a : Result Section Refusal) → a ≡ Err r → (clauses nodes : List ℕ) → Outcome v a clauses clauses nodes nodes
  section_refused quiet r stays a e clauses nodes =
      rw e (untouched v r clauses nodes (is ∙ stays section) (refused_quiet [] [] (number_of r.kind) r.place fs quiet (stays (answered [] []))))

  pub section_given : judged fs section ≡ section → (r : Result Section Refusal) (clauses clauses' nodes nodes' : List ℕ) → Outcome section r clauses clauses' nodes nodes' → Outcome v r clauses clauses' nodes nodes'
  section_given goes r clauses clauses' nodes nodes' o = rw (is ∙ goes) o

-- what one answer passed, every other passes
pub answer_stays : (fs : List Finding) (v : Verdict) (root : ℕ) (u : Verdict) → gives (root ∷ []) ≡ replied (judged fs v) → judged fs u ≡ u
unfolding replied
answer_stays fs v root u e = elim (judged-either fs) [
  | inl clean ↦ clean u
  | inr c ↦ no_values c.number c.place root [] (sym (e ∙ ap replied (c.always v)))
]

pub clauses_quiet : (h : Header) (bytes : List ℕ) → Quiet (clause_findings h bytes)
unfolding Quiet zeroing
clauses_quiet h bytes = (refl, (refl, (refl, tt)))

pub nodes_quiet : (h : Header) (bytes nodes : List ℕ) → Quiet (node_findings h bytes nodes)
unfolding Quiet zeroing
nodes_quiet h bytes nodes = (refl, (refl, (refl, (refl, tt))))

-- a section in its place lies within the bytes
pub section_long : (h : Header) (bytes : List ℕ) → Headed bytes h → (each count offset other other_offset : ℕ) → false ≡ misplaced each count offset other other_offset h.total
    → header_bytes + each * count ≤ length bytes
section_long h bytes headed each count offset other other_offset e =
    omega (arith, (placed each count offset other other_offset h.total e).total-is, (whole bytes headed.whole).total-is, ap (λ (x : Header). x.total) headed.header)

pub not-over : (n count : ℕ) → n ≤ 60 → count ≤ 1024 → false ≡ over_list n count
unfolding over_list
not-over n count m h = rw (le-ltb 60 n m, le-ltb 1024 count h)

-- ---- a section that passed its tests
module _ (h : Header) (bytes : List ℕ) (headed : Headed bytes h) where
  pub clauses_giving : ((v : Verdict) → judged (clause_findings h bytes) v ≡ v) → Giving h h.clause_count max_clauses clause_bytes bytes
  unfolding judged tried order first_of
  clauses_giving goes =
      let v : gives (0 ∷ []) ≡ replied (judged (clause_findings h bytes) (root_of 1)) = unfold replied in sym (ap replied (goes (root_of 1))) in
      let p₁ : (clauses_misplaced h ≡ false) × (gives (0 ∷ []) ≡ replied _) = passes _ _ _ _ _ _ v in
      let p₂ : (over_list h.n h.clause_count ≡ false) × (gives (0 ∷ []) ≡ replied _) = passes _ _ _ _ _ _ p₁.1 in
      let l = listed h.n h.clause_count (sym p₂.0) in
      record {
        marks = l.marks;
        few = l.few;
        long = section_long h bytes headed _ _ _ _ _ (sym p₁.0);
      }

  pub nodes_giving : (nodes : List ℕ) (root : ℕ) → gives (root ∷ []) ≡ replied (judged (node_findings h bytes nodes) (root_of h.node_count)) → Giving h h.node_count max_nodes node_bytes bytes × (stride * h.node_count ≤ length nodes)
  unfolding judged tried order first_of
  nodes_giving nodes root v =
      let p₁ : (nodes_misplaced h ≡ false) × (gives (root ∷ []) ≡ replied _) = passes _ _ _ _ _ _ v in
      let p₂ : (over_limit h.n h.node_count ≡ false) × (gives (root ∷ []) ≡ replied _) = passes _ _ _ _ _ _ p₁.1 in
      let p₃ : (too_short h.node_count nodes ≡ false) × (gives (root ∷ []) ≡ replied _) = passes _ _ _ _ _ _ p₂.1 in
      let l = within h.n h.node_count (sym p₂.0) in
      (record { marks = l.marks; few = l.few; long = section_long h bytes headed _ _ _ _ _ (sym p₁.0) }, long _ _ (sym p₃.0))

-- ---- the section in its output
all_zeros : (k : ℕ) (z : List ℕ) → z ≡ replicate k 0 → z ≡ padded [] k
unfolding padded
all_zeros k z e = grind (rules, common_steps, e)

module _ (h : Header) (bytes clauses nodes nodes' : List ℕ) where
  pub give_over : length clauses < 2 * h.clause_count → (clauses' : List ℕ) → clauses' ≡ replicate (length clauses) 0 → nodes' ≡ replicate (length nodes) 0
      → Outcome (gives_clauses h bytes clauses) (Err (record { kind = kind.Clauses; place = h.clause_count })) clauses clauses' nodes nodes'
  unfolding judged tried order first_of
  give_over lt clauses' a b = cleared _ h.clause_count clauses clauses' nodes nodes' (rw (lt-ltb (length clauses) (2 * h.clause_count) lt)) (all_zeros _ _ a) (all_zeros _ _ b)

  pub give_clauses_lem : 2 * h.clause_count ≤ length clauses → (filled zeros : List ℕ) → take (2 * h.clause_count) filled ≡ clause_words h bytes → length filled ≡ length clauses
      → zeros ≡ replicate (length filled - 2 * h.clause_count) 0 → nodes' ≡ replicate (length nodes) 0 → (form : Form) → h.kind ≡ clause_kind (says form)
      → Outcome (gives_clauses h bytes clauses) (Ok (record { kind = Clauses form; n = h.n; count = h.clause_count })) clauses (put_mid (2 * h.clause_count) (length filled - 2 * h.clause_count) filled zeros) nodes nodes'
  unfolding judged tried order first_of
  give_clauses_lem le filled zeros is same z b form k =
      written _ _ (h.kind ∷ h.n ∷ h.clause_count ∷ []) (clause_words h bytes) [] clauses _ nodes nodes' (rw (le-ltb (length clauses) (2 * h.clause_count) le))
      (ap (λ x. gives (x ∷ h.n ∷ h.clause_count ∷ [])) (sym k)) (zeroed _ filled zeros (omega (arith, le, same)) z ∙ ap₂ padded is same) (all_zeros _ _ b)

pub give_table_lem : (h : Header) (bytes clauses clauses' nodes filled zeros : List ℕ) → stride * h.node_count ≤ length nodes → take (stride * h.node_count) filled ≡ node_words h bytes → length filled ≡ length nodes
    → zeros ≡ replicate (length filled - stride * h.node_count) 0 → clauses' ≡ replicate (length clauses) 0
    → Outcome (gives_table h bytes) (Ok (record { kind = Table; n = h.n; count = h.node_count })) clauses clauses' nodes (put_mid (stride * h.node_count) (length filled - stride * h.node_count) filled zeros)
give_table_lem h bytes clauses clauses' nodes filled zeros le is same z b =
    written _ _ (3 ∷ h.n ∷ h.node_count ∷ []) [] (node_words h bytes) clauses clauses' nodes _ refl refl (all_zeros _ _ b) (zeroed _ filled zeros (omega (arith, le, same)) z ∙ ap₂ padded is same)

-- ---- no sheet
pub none : (v : Verdict) (clauses nodes : List ℕ) → v ≡ refused SHEET 0 → Outcome v (Err (record { kind = kind.Sheet; place = 0 })) clauses clauses nodes nodes
unfolding zeroing
none v clauses nodes e = untouched v (record { kind = kind.Sheet; place = 0 }) clauses nodes e refl
