-- The equations of the extractors, from their admission, their core and the settling.
use mathlib.Core.Path.{◌≡◌}
use mathlib.Core.Bool.{Bool}
use mathlib.Core.List.{List, [], ◌∷◌}
use Prim.Native.Nat.{ℕ, ◌*◌, ◌≤◌}
use native.Mathlib.Omega.{arith}
use lib.ListN.{length}
use Rattle.theory.specs.Words.{nodes}
use Rattle.refusal.specs.Limits.{plain_work}
use Rattle.refusal.specs.Verdict.{judged, replied}
use Rattle.refusal.specs.declared.Refusal.{Refusal}
use Rattle.table.specs.declared.BddPointer.{BddPointer}
use Rattle.table.specs.declared.Inspection.{Inspection}
use Rattle.table.specs.declared.Inspection.TheVariants.{Sound, Refused}
use Rattle.table.specs.Inspection.{inspection_reply, root_of, SoundTable}
use Rattle.table.proofs.AdmissionLaws.{admission_refused, admission_clean}
use Rattle.admission.specs.Admission.{work_findings}
use Rattle.admission.proofs.Admitted.{work_quiet, work_admitted}
use Rattle.counts.specs.Counts.{count_words}
use Rattle.paths.specs.Paths.{path_list}
use Rattle.std.specs.Prelude.{Result, Err}
use Rattle.listing.specs.Listed.{Settling, Settles}
use Rattle.listing.specs.Listing.{too_many_paths, ListsPaths}
use Rattle.listing.proofs.ListedLaws.{settling, lists-refused, lists-settled, Outcome}
use Rattle.lists.specs.Lists.{lists_paths}

module _ (b : Bool) (n count : ℕ) (words out work : List ℕ) (a : Inspection) (e : inspection_reply a ≡ replied (judged (work_findings n count words work) (root_of count))) where
  pub list-refused : (q : Refusal) → a ≡ Refused q → Outcome (lists_paths b n count words out work) (Err q) out out work work
  list-refused q is =
      lists-refused (work_findings n count words work) (too_many_paths b n count words out ∷ []) (path_list b n (nodes count words)) (work_quiet n count words work) q
      (admission_refused (work_findings n count words work) count a e q is) out work

  module _ (p : BddPointer) (is : a ≡ Sound p) where
    pub list-table : SoundTable n count words p.0 × (count_words * count ≤ length work)
    list-table = let t : SoundTable n count words p.0 × (plain_work count ≤ length work) = work_admitted n count words work a e p is in (t.0, omega (arith, t.1))

    module _ (out₁ : List ℕ) (written : Result ℕ Refusal) (left : ListsPaths b n count words out out₁ written) where
      pub list-settling : Settling written out₁
      list-settling = settling (too_many_paths b n count words out ∷ []) (path_list b n (nodes count words)) out₁ written left

      pub list-settled : (out' work₁ work' : List ℕ) → length out₁ ≡ length out → length work₁ ≡ length work → (r : Result ℕ Refusal) → Settles written out₁ out' work₁ work' r
          → Outcome (lists_paths b n count words out work) r out out' work work'
      list-settled out' work₁ work' same_out same-work r settled =
          lists-settled (work_findings n count words work) (too_many_paths b n count words out ∷ []) (path_list b n (nodes count words)) (admission_clean (work_findings n count words work) count a e p is).0
          out₁ out out' work₁ work work' same_out same-work written r left settled
