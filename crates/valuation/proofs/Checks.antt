-- What the checks answer, and what is known after one that passed.
use mathlib.Core.Path.{◌≡◌, refl, sym, ap, ◌∙◌}
use mathlib.Core.Bool.{true, false}
use mathlib.Core.List.{List, []}
use Prim.Native.Nat.{ℕ, suc, ◌≤◌, ◌<◌}
use native.Mathlib.Omega.{arith}
use native.Mathlib.Decide.{dec_lt}
use lib.ListN.{length}
use borrow.Author.Tests.{le-leb, lt-leb, lt-ltb, le-ltb}
use Rattle.theory.specs.Clause.{Clause, WellFormed, malformed}
use Rattle.theory.proofs.Clauses.{formed}
use Rattle.refusal.specs.Number.{order, VARIABLE, CLAUSE}
use Rattle.refusal.specs.Limits.{max_marks}
use Rattle.refusal.specs.Verdict.{Verdict, first_of, tried, judged, Reply, replied, refused_with, gives}
use Rattle.valuation.specs.Valuation.{of_one, of_mark, of_two, of_list, first_bad_mark, checked}

-- a check that passed did not refuse
passed : (k p : ℕ) → gives [] ≡ refused_with (suc k) p → ⊥
passed k p e = omega (arith, ap (λ (x : Reply). x.number) e)

-- ---- one valuation

pub one_bad : (c : Clause) → malformed max_marks c.fixed c.values ≡ true → refused_with CLAUSE 0 ≡ replied (checked (of_one c))
unfolding judged tried first_of order replied
one_bad c e = rw e

-- ---- one valuation and a mark

pub mark_bad : (c : Clause) (m : ℕ) → max_marks ≤ m → refused_with VARIABLE m ≡ replied (checked (of_mark c m))
unfolding judged tried first_of order replied
mark_bad c m h = rw (le-leb max_marks m h)

pub mark-good : (c : Clause) (m : ℕ) → m < max_marks → replied (checked (of_one c)) ≡ replied (checked (of_mark c m))
unfolding judged tried first_of order replied
mark-good c m h = rw (lt-leb max_marks m h)

-- ---- two valuations

pub two-first : (c d : Clause) → malformed max_marks c.fixed c.values ≡ true → refused_with CLAUSE 0 ≡ replied (checked (of_two c d))
unfolding judged tried first_of order replied
two-first c d e = rw e

pub two-second : (c d : Clause) → malformed max_marks c.fixed c.values ≡ false → malformed max_marks d.fixed d.values ≡ true → refused_with CLAUSE 1 ≡ replied (checked (of_two c d))
unfolding judged tried first_of order replied
two-second c d e f = rw (e, f)

-- ---- a list of values

pub list_bad : (ws : List ℕ) (v : Verdict) → first_bad_mark ws < length ws → refused_with VARIABLE (first_bad_mark ws) ≡ replied (judged (of_list ws) v)
unfolding judged tried first_of order replied
list_bad ws v h = rw (lt-ltb (first_bad_mark ws) (length ws) h)

pub list-good : (ws : List ℕ) (v : Verdict) → length ws ≤ first_bad_mark ws → judged (of_list ws) v ≡ v
unfolding judged tried first_of order
list-good ws v h = rw (le-ltb (first_bad_mark ws) (length ws) h)

-- ---- after a check that passed

pub one_formed : (c : Clause) → gives [] ≡ replied (checked (of_one c)) → WellFormed max_marks c
one_formed c e = (elim (malformed max_marks c.fixed c.values) as (λ b. malformed max_marks c.fixed c.values ≡ b → WellFormed max_marks c) [
  | true ↦ λ t. absurd (passed 3 0 (e ∙ sym (one_bad c t)))
  | false ↦ λ t. formed max_marks c t
]) refl

pub mark_below : (c : Clause) (m : ℕ) → gives [] ≡ replied (checked (of_mark c m)) → m < max_marks
mark_below c m e = elim (dec_lt m max_marks) [
  | yes d ↦ d
  | no d ↦ absurd (passed 2 m (e ∙ sym (mark_bad c m (omega arith))))
]

pub mark_formed : (c : Clause) (m : ℕ) → gives [] ≡ replied (checked (of_mark c m)) → WellFormed max_marks c
mark_formed c m e = one_formed c (e ∙ sym (mark-good c m (mark_below c m e)))

pub mark_fits : (c : Clause) (m : ℕ) → gives [] ≡ replied (checked (of_mark c m)) → m < 64
mark_fits c m e = omega (arith, mark_below c m e)

pub two_formed : (c d : Clause) → gives [] ≡ replied (checked (of_two c d)) → WellFormed max_marks c × WellFormed max_marks d
two_formed c d e = (elim (malformed max_marks c.fixed c.values) as (λ b. malformed max_marks c.fixed c.values ≡ b → WellFormed max_marks c × WellFormed max_marks d) [
  | true ↦ λ t. absurd (passed 3 0 (e ∙ sym (two-first c d t)))
  | false ↦ λ t. (formed max_marks c t, second t)
]) refl
  where
    second : malformed max_marks c.fixed c.values ≡ false → WellFormed max_marks d
    second t = (elim (malformed max_marks d.fixed d.values) as (λ b. malformed max_marks d.fixed d.values ≡ b → WellFormed max_marks d) [
      | true ↦ λ s. absurd (passed 3 1 (e ∙ sym (two-second c d t s)))
      | false ↦ λ s. formed max_marks d s
    ]) refl
