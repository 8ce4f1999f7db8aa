-- The short list's core and its entry: the table reduced into the first frame, and the three equations.
use mathlib.Core.Path.{◌≡◌, refl, sym, ap, subst, ◌∙◌}
use mathlib.Core.Bool.{true, false, cond, not}
use mathlib.Core.List.{List}
use Prim.Native.Nat.{ℕ, zero, suc, ◌<◌}
use native.Mathlib.Omega.{arith}
use lib.Dec.{ltb}
use lib.ListN.{length, get_or, replicate}
use borrow.Author.Tests.{lt-ltb, le-ltb, ltb-true, lt-leb}
use Rattle.theory.specs.Tree.{Tree}
use Rattle.theory.specs.Table.{canon, meaning}
use Rattle.theory.specs.Words.{nodes}
use Rattle.theory.proofs.Small.{meaning-deep}
use Rattle.refusal.specs.Number.{order, NODES, CLAUSES}
use Rattle.refusal.specs.Buffers.{zeroing}
use Rattle.refusal.specs.Verdict.{Verdict, refused, first_of, tried, judged, replied}
use Rattle.refusal.specs.declared.Refusal.{Refusal}
use Rattle.table.specs.declared.BddPointer.{BddPointer}
use Rattle.table.specs.declared.Inspection.{Inspection}
use Rattle.table.specs.declared.Inspection.TheVariants.{Sound, Refused}
use Rattle.table.specs.Inspection.{inspection_reply, root_of, SoundTable}
use Rattle.table.proofs.AdmissionLaws.{admission_refused, admission_clean}
use Rattle.carry.specs.Whole.{CanonLeft}
use Rattle.rule.specs.Rule.{short_list, all_fit, short_fits}
use Rattle.held.specs.Held.{tree_in, Tab}
use Rattle.held.proofs.HeldLaws.{tab-means, gives}
use Rattle.harmless.specs.Memory.{Remembers}
use Rattle.harmless.proofs.SlotLaws.{none-known}
use Rattle.listing.specs.Listed.{capacity, Settling, Settles}
use Rattle.listing.proofs.ListedLaws.{settling, lists-refused, lists-settled, Equations, equations}
use Rattle.trimming.specs.declared.Excess.{Excess}
use Rattle.trimming.specs.declared.Excess.TheVariants.{Nodes, Clauses}
use Rattle.trimming.specs.Trimming.{Shortens}
use Rattle.std.specs.Prelude.{Some, Result, Ok, Err}
use Rattle.refusal.specs.declared.RefusalKind.TheVariants as kind
use Rattle.short.specs.Short.{short_findings, short_overs, lists_short, over, Shortening, ListsShort}
use Rattle.short.proofs.AdmitLaws.{short_quiet, short_admitted}

-- ---- what the findings of the list decide
overs_decide : (n room : ℕ) (f : Tree) (out : List ℕ) (v : Verdict) → judged (short_overs n room f out) v
    ≡ cond (not (short_fits room n f)) (refused NODES 0) (cond (ltb (capacity out) (length (short_list n f))) (refused CLAUSES 0) v)
unfolding judged tried order first_of
overs_decide n room f out v = refl

nodes-over : (n count : ℕ) (words : List ℕ) (room : ℕ) (out out' : List ℕ) → short_fits room n (meaning n (nodes count words)) ≡ false → ListsShort n count words room out out' (Err (over kind.Nodes))
unfolding zeroing
nodes-over n count words room out out' e = record { refuses = λ v. overs_decide n room (meaning n (nodes count words)) out v ∙ rw e; zeroes = refl }

clauses-over : (n count : ℕ) (words : List ℕ) (room : ℕ) (out out' : List ℕ) → short_fits room n (meaning n (nodes count words)) ≡ true → capacity out < length (short_list n (meaning n (nodes count words)))
    → ListsShort n count words room out out' (Err (over kind.Clauses))
unfolding zeroing
clauses-over n count words room out out' e h = record { refuses = λ v. overs_decide n room (meaning n (nodes count words)) out v ∙ rw (e, lt-ltb (capacity out) (length (short_list n (meaning n (nodes count words)))) h); zeroes = refl }

-- ---- zeros
zeros_at : (k i : ℕ) → ◌≡◌ {A = ℕ} (get_or (replicate {A = ℕ} k 0) i 0) 0
zeros_at zero i = refl
zeros_at (suc k) zero = refl
zeros_at (suc k) (suc i) = zeros_at k i

pub none_known : (n room k : ℕ) (h : List ℕ) → h ≡ replicate k 0 → Remembers n room h
none_known n room k h e = none-known n room h (λ i. rw e (zeros_at k i))

-- ---- the table reduced
module _ (n count : ℕ) (words : List ℕ) (room : ℕ) (first : List ℕ) (r : Result ℕ ℕ) (left : CanonLeft n room (meaning n (nodes count words)) first r) where
  pub table_over : (p : ℕ) → r ≡ Err p → (out out' : List ℕ) → ListsShort n count words room out out' (Err (over kind.Nodes))
  unfolding short_fits all_fit
  table_over p e out out' =
      let a : (ltb room (length (canon n (meaning n (nodes count words)))) ≡ true) × (0 ≡ p) = subst (CanonLeft n room (meaning n (nodes count words)) first) e left in
      nodes-over n count words room out out' (rw (lt-leb (length (canon n (meaning n (nodes count words)))) room (ltb-true room (length (canon n (meaning n (nodes count words)))) a.0)))

  module _ (k : ℕ) (is : r ≡ Ok k) where
    pub tab : Tab n room first k (meaning n (nodes count words))
    tab = gives n room (meaning n (nodes count words)) (meaning-deep n (nodes count words)) first (Ok k) (subst (CanonLeft n room (meaning n (nodes count words)) first) is left) (Some k) refl

    -- ---- its short list
    module _ (out out' : List ℕ) (lo : length out' ≡ length out) where
      same : tree_in n first k ≡ meaning n (nodes count words)
      same = tab-means n room first k (meaning n (nodes count words)) tab

      pub done_nodes : (x : Excess) → x ≡ Nodes → Shortens n room (tree_in n first k) out' (Err x) → ListsShort n count words room out out' (Err (over kind.Nodes))
      done_nodes x e s =
          let a : Shortens n room (tree_in n first k) out' (Err Nodes) = subst (λ z. Shortens n room (tree_in n first k) out' (Err z)) e s in
          nodes-over n count words room out out' (ap (short_fits room n) (sym same) ∙ a)

      pub done_many : (x : Excess) → x ≡ Clauses → Shortens n room (tree_in n first k) out' (Err x) → ListsShort n count words room out out' (Err (over kind.Clauses))
      done_many x e s =
          let a : Shortens n room (meaning n (nodes count words)) out' (Err Clauses) = subst (λ f. Shortens n room f out' (Err Clauses)) same (subst (λ z. Shortens n room (tree_in n first k) out' (Err z)) e s) in
          clauses-over n count words room out out' a.0 (omega (arith, a.1))

      pub done_clauses : (c : ℕ) → Shortens n room (tree_in n first k) out' (Ok c) → ListsShort n count words room out out' (Ok c)
      done_clauses c s =
          let a : Shortens n room (meaning n (nodes count words)) out' (Ok c) = subst (λ f. Shortens n room f out' (Ok c)) same s in
          record {
            fits = a.1;
            number = sym a.2.number;
            words = a.2.words;
            clean = λ v. overs_decide n room (meaning n (nodes count words)) out v
                ∙ rw (a.0, le-ltb (capacity out) (length (short_list n (meaning n (nodes count words)))) (omega (arith, a.1, a.2.number)));
          }

-- ---- the entry
module _ (n count : ℕ) (words : List ℕ) (room : ℕ) (out work : List ℕ) (a : Inspection) (e : inspection_reply a ≡ replied (judged (short_findings n count words room work) (root_of count))) where
  pub entry-refused : (s : Refusal) → a ≡ Refused s → Equations (lists_short n count words room out work) (Err s) out out work work
  entry-refused s is =
      equations _ _ _ _ _ _
      (lists-refused (short_findings n count words room work) (short_overs n room (meaning n (nodes count words)) out) (short_list n (meaning n (nodes count words))) (short_quiet n count words room work) s
      (admission_refused (short_findings n count words room work) count a e s is) out work)

  module _ (p : BddPointer) (is : a ≡ Sound p) where
    pub entry-table : SoundTable n count words p.0 × Shortening n count room work
    entry-table = short_admitted n count words room work a e p is

    module _ (out₁ : List ℕ) (written : Result ℕ Refusal) (left : ListsShort n count words room out out₁ written) where
      pub entry-settling : Settling written out₁
      entry-settling = settling (short_overs n room (meaning n (nodes count words)) out) (short_list n (meaning n (nodes count words))) out₁ written left

      pub entry-settled : (out' work₁ work' : List ℕ) → length out₁ ≡ length out → length work₁ ≡ length work → (r : Result ℕ Refusal) → Settles written out₁ out' work₁ work' r
          → Equations (lists_short n count words room out work) r out out' work work'
      entry-settled out' work₁ work' same_out same-work r settled =
          equations _ _ _ _ _ _
          (lists-settled (short_findings n count words room work) (short_overs n room (meaning n (nodes count words)) out) (short_list n (meaning n (nodes count words))) (admission_clean (short_findings n count words room work) count a e p is).0
          out₁ out out' work₁ work work' same_out same-work written r left settled)
