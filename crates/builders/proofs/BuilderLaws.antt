-- A builder's three equations, from its admission and the build.
use mathlib.Core.Path.{◌≡◌, refl, ap, ◌∙◌}
use mathlib.Core.Bool.{Bool, true, false, not}
use mathlib.Core.List.{List, []}
use Prim.Native.Nat.{ℕ, suc, ◌*◌, ◌<◌, ◌≤◌}
use native.Mathlib.Omega.{arith}
use lib.Dec.{ltb}
use lib.ListN.{length}
use borrow.Author.Tests.{lt-ltb, le-ltb}
use Rattle.theory.specs.Table.{canon}
use Rattle.theory.specs.Clause.{Clause}
use Rattle.refusal.specs.Number.{order}
use Rattle.refusal.specs.Verdict.{Finding, first_of, tried, judged, replied, answered, gives, refusal_reply}
use Rattle.refusal.specs.declared.Refusal.{Refusal}
use Rattle.refusal.proofs.Judged.{Clean, judged_refuses, judged_goes}
use Rattle.refusal.proofs.Firsts.{first-is, first-none}
use Rattle.std.specs.Prelude.{Result, Ok, Err}
use Rattle.making.specs.Made.{Leaves, Settles}
use Rattle.making.proofs.MakesLaws.{Outcome, makes-refused, makes-settled, clean_outcome}
use Rattle.cube.specs.Cube.{opening, entry_at}
use Rattle.cube.proofs.Runs.{built-means}
use Rattle.entries.specs.declared.Form.{Form}
use Rattle.entries.specs.Entries.{says, Given}
use Rattle.build.specs.Build.{run_of, Building, Builds}
use Rattle.builders.specs.Builders.{list_findings, run_means, shortest_over, builds}
use Rattle.builders.proofs.ListLaws.{list_quiet, list_building}

-- ---- what the build leaves, in the words of the verdict
module _ (n : ℕ) (entry : ℕ → Clause) (k : ℕ) (form : Form) (room : ℕ) (out : List ℕ) (wide : 3 * room ≤ length out) where
  abbrev b : Bool
  b = says form

  run_is : (i : ℕ) → run_of n form entry i ≡ run_means b n entry i
  run_is i = built-means b n (opening entry i)

  fits-is : (i : ℕ) → length (canon n (run_of n form entry i)) ≤ room → not (ltb room (length (canon n (run_means b n entry i)))) ≡ true
  fits-is i h = rw (← (run_is i), le-ltb _ _ h)

  over-is : (i : ℕ) → room < length (canon n (run_of n form entry i)) → not (ltb room (length (canon n (run_means b n entry i)))) ≡ false
  over-is i h = rw (← (run_is i), lt-ltb _ _ h)

  pub leaves : (tabled : Result ℕ ℕ) → Builds n entry k form room out tabled
      → Leaves (ltb (shortest_over b n k entry room) (suc k)) (shortest_over b n k entry room) (canon n (run_means b n entry k)) out tabled
  unfolding shortest_over
  leaves (Ok c) u =
      let none : shortest_over b n k entry room ≡ suc k = first-none _ (suc k) (λ i h. fits-is i (u.fit i (omega arith))) in
      let within : ltb (shortest_over b n k entry room) (suc k) ≡ false = le-ltb (shortest_over b n k entry room) (suc k) (omega (arith, none)) in
      (omega (arith, u.small), u.table ∙ ap (canon n) (run_is k), within)
  leaves (Err m) u =
      let is : shortest_over b n k entry room ≡ m = first-is _ (suc k) m (omega (arith, u.within)) (λ i h. fits-is i (u.least i h)) (over-is m u.over) in
      let over : ltb (shortest_over b n k entry room) (suc k) ≡ true = lt-ltb (shortest_over b n k entry room) (suc k) (omega (arith, is, u.within)) in
      (over, is)

-- the build, settled
pub built_outcome : (b : Bool) (n count : ℕ) (entry : ℕ → Clause) (room : ℕ) (out₁ out out' work₁ work work' : List ℕ) → length out₁ ≡ length out → length work₁ ≡ length work
    → (tabled : Result ℕ ℕ) (r : Result ℕ Refusal) → Leaves (ltb (shortest_over b n count entry room) (suc count)) (shortest_over b n count entry room) (canon n (run_means b n entry count)) out₁ tabled
    → Settles tabled out₁ out' work₁ work' r → Outcome (builds [] b n count entry room) r out out' work work'
unfolding judged tried order first_of
built_outcome b n count entry room out₁ out out' work₁ work work' eo ew tabled r left kept =
    makes-settled [] (ltb (shortest_over b n count entry room) (suc count)) (shortest_over b n count entry room) (canon n (run_means b n entry count)) (λ v. refl) out₁ out out' work₁ work work' eo ew tabled r left kept

-- ---- an entry, by its admission's answer
module _ (cases : Bool) (n count : ℕ) (list : List ℕ) (room : ℕ) (out work : List ℕ) where
  abbrev fs : List Finding
  fs = list_findings cases n count list room out work

  pub list_refused : (q : Refusal) → refusal_reply q ≡ replied (judged fs (answered [] [])) → (r : Result ℕ Refusal) → Err q ≡ r → (b : Bool) (entry : ℕ → Clause)
      → Outcome (builds fs b n count entry room) r out out work work
  list_refused q e r is b entry =
      rw (← is) (makes-refused fs (ltb (shortest_over b n count entry room) (suc count)) (shortest_over b n count entry room) (canon n (run_means b n entry count))
      (list_quiet cases n count list room out work) q (λ v. judged_refuses fs v q e) out work)

  module _ (e : gives [] ≡ replied (judged fs (answered [] []))) where
    clean : Clean (judged fs)
    clean v = judged_goes fs v e

    pub list_ready : Building n (entry_at cases n list) count room out work × Given cases count list
    list_ready = list_building cases n count list room out work clean

    pub list_outcome : (b : Bool) (r : Result ℕ Refusal) (out' work' : List ℕ) → Outcome (builds [] b n count (entry_at cases n list) room) r out out' work work'
        → Outcome (builds fs b n count (entry_at cases n list) room) r out out' work work'
    list_outcome b r out' work' o = clean_outcome fs clean _ _ _ r out out' work work' o
