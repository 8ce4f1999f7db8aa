-- What the steps share: tables within room, and a support's marks.
use mathlib.Core.Path.{◌≡◌, refl, ap, ◌∙◌}
use mathlib.Core.Bool.{Bool, true, false, ◌&&◌}
use mathlib.Core.List.{List, [], ◌∷◌, ◌++◌}
use Prim.Native.Nat.{ℕ, ◌≤◌, ◌<◌}
use native.Mathlib.Omega.{arith}
use lib.ListN.{length}
use borrow.Author.Tests.{le-leb, lt-leb}
use Rattle.theory.specs.Tree.{Tree, support_of}
use Rattle.theory.specs.Table.{canon}
use Rattle.theory.specs.Clause.{marks_of}
use Rattle.theory.proofs.Support.{support-lt}
use Rattle.theory.proofs.Truths.{and_assoc}
use Rattle.refusal.specs.Limits.{max_marks}
use Rattle.valuation.specs.Marks.{mask_bits}
use Rattle.valuation.proofs.MarkLaws.{within}
use Rattle.rule.specs.Rule.{support_marks, fits, all_fit}
use Rattle.held.specs.Held.{Tab}
use Rattle.held.proofs.HeldLaws.{tab-count}

-- ---- within room
pub fits-yes : (n room : ℕ) (w : List ℕ) (k : ℕ) (f : Tree) → Tab n room w k f → fits room n f ≡ true
fits-yes n room w k f t = le-leb (length (canon n f)) room (omega (arith, tab-count n room w k f t, t.fits))

pub fits-no : (n room : ℕ) (f : Tree) → room < length (canon n f) → fits room n f ≡ false
fits-no n room f h = lt-leb (length (canon n f)) room h

pub one-yes : (n room : ℕ) (w : List ℕ) (k : ℕ) (f : Tree) → Tab n room w k f → all_fit room n (f ∷ []) ≡ true
unfolding all_fit
one-yes n room w k f t = rw (fits-yes n room w k f t)

pub one-no : (n room : ℕ) (f : Tree) (ts : List Tree) → room < length (canon n f) → all_fit room n (f ∷ ts) ≡ false
unfolding all_fit
one-no n room f ts h = rw (fits-no n room f h)

-- one more called for
pub all_cons : (room n : ℕ) (f : Tree) (ts : List Tree) → all_fit room n (f ∷ ts) ≡ all_fit room n (f ∷ []) && all_fit room n ts
unfolding all_fit
all_cons room n f ts = ap (λ v. v && all_fit room n ts) (one (fits room n f))
  where
    one : (a : Bool) → a ≡ a && true
    one true = refl
    one false = refl

pub all_append : (room n : ℕ) (ts us : List Tree) → all_fit room n (ts ++ us) ≡ all_fit room n ts && all_fit room n us
unfolding all_fit
all_append room n [] us = refl
all_append room n (t ∷ ts) us = rw (all_append room n ts us) (and_assoc (fits room n t) (all_fit room n ts) (all_fit room n us))

-- ---- the marks of a mask
-- a support's marks, read from its word
pub support_left : (n : ℕ) (f : Tree) → n ≤ max_marks → (s : ℕ) → s ≡ support_of n f → (xs : List ℕ) → xs ≡ marks_of mask_bits s → xs ≡ support_marks n f
support_left n f l s e xs h = h ∙ rw e (within mask_bits n (support_of n f) (omega arith) (support-lt n f))
