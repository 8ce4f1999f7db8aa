-- The marks that an answer depends on: as a test, by cases, and in the canonical table.
use mathlib.Core.Path.{◌≡◌, refl, sym, ap, ap₂, ◌∙◌}
use mathlib.Core.Logic.{◌≢◌, ◌↔◌}
use mathlib.Core.Bool.{Bool, true, false, cond, not, ◌&&◌, beq}
use Prim.Native.Nat.{ℕ, zero, suc, ◌+◌, ◌*◌, ◌^◌, ◌≤◌, ◌<◌}
use native.Mathlib.Omega.{arith}
use native.Mathlib.Decide.{ℕ_discrete, dec_lt}
use lib.Dec.{eqb}
use lib.ListN.{length}
use lib.Pow.{pow_pos}
use borrow.Author.Tests.{eq-eqb, ne_eqb, lt-ltb, le-ltb, not-true, not-false}
use Rattle.theory.specs.Mask.{bit, set_bit}
use Rattle.theory.specs.Tree.{Tree, leaf, fork, Deep, look, cofactor, Free, same_tree, depends_on, support_of}
use Rattle.theory.specs.Table.{Table, at, canon, Ordered, marks_in}
use Rattle.theory.proofs.Masks.{bit-zero, bit-set_bit, bit_ext, set_bit-lt}
use Rattle.theory.proofs.Truths.{clash, and_true, beq_true}
use Rattle.theory.proofs.Cases.{look-even, look-odd, cofactor-deep, cofactor-look}
use Rattle.theory.proofs.Canon.{canon-ordered}
use Rattle.theory.proofs.Reach.{support}

-- the test is equality
pub same_equal : (t u : Tree) → same_tree t u ≡ true → t ≡ u
unfolding same_tree
same_equal (leaf a) (leaf b) e = ap leaf (beq_true a b e)
same_equal (leaf a) (fork lo hi) e = absurd (clash e refl)
same_equal (fork lo hi) (leaf b) e = absurd (clash e refl)
same_equal (fork lo hi) (fork lo' hi') e =
    let a : (same_tree lo lo' ≡ true) × (same_tree hi hi' ≡ true) = and_true _ _ e in
    ap₂ fork (same_equal lo lo' a.0) (same_equal hi hi' a.1)

pub same_refl : (t : Tree) → same_tree t t ≡ true
unfolding same_tree
same_refl (leaf true) = refl
same_refl (leaf false) = refl
same_refl (fork lo hi) = rw (same_refl lo, same_refl hi)

-- a case of which two functions say different things
pub record Apart (k : ℕ) (t u : Tree) : Type 0 where
  pub case : ℕ
  pub small : case < 2 ^ k
  pub differ : look t case ≢ look u case

apart-leaf : (a b : Bool) → beq a b ≡ false → Apart 0 (leaf a) (leaf b)
unfolding look
apart-leaf true true e = absurd (clash refl e)
apart-leaf true false e = record { case = 0; small = omega arith; differ = λ d. clash refl d }
apart-leaf false true e = record { case = 0; small = omega arith; differ = λ d. clash refl (sym d) }
apart-leaf false false e = absurd (clash refl e)

-- functions that are not the same have one
pub not_same : (k : ℕ) (t u : Tree) → Deep k t → Deep k u → same_tree t u ≡ false → Apart k t u
unfolding same_tree
not_same zero (leaf a) (leaf b) d d' e = apart-leaf a b e
not_same zero (leaf a) (fork lo hi) d d' e = absurd d'
not_same zero (fork lo hi) u d d' e = absurd d
not_same (suc k) (leaf a) u d d' e = absurd d
not_same (suc k) (fork lo hi) (leaf b) d d' e = absurd d'
not_same (suc k) (fork lo hi) (fork lo' hi') d d' e =
    (elim (same_tree lo lo') as (λ v. same_tree lo lo' ≡ v → v && same_tree hi hi' ≡ false → Apart (suc k) (fork lo hi) (fork lo' hi')) [
      | true ↦ λ l h.
          let a : Apart k hi hi' = not_same k hi hi' d.1 d'.1 h in
          record { case = 2 * a.case + 1; small = omega (arith, a.small); differ = λ z. a.differ (rw (look-odd lo hi a.case, look-odd lo' hi' a.case) at z) }
      | false ↦ λ l h.
          let a : Apart k lo lo' = not_same k lo lo' d.0 d'.0 l in
          record { case = 2 * a.case; small = omega (arith, a.small); differ = λ z. a.differ (rw (look-even lo hi a.case, look-even lo' hi' a.case) at z) }
    ]) refl e

module _ (n i : ℕ) (t : Tree) where
  pub free_of : depends_on i t ≡ false → Free i t
  free_of e = same_equal _ _ (not-false _ e)

  pub of_free : Free i t → depends_on i t ≡ false
  of_free f = ap not (ap (λ u. same_tree u (cofactor i true t)) f ∙ same_refl (cofactor i true t))

  -- the answer depends on a mark exactly if two cases that differ in this mark only get different answers
  pub record Depends : Type 0 where
    pub case : ℕ
    pub small : case < 2 ^ n
    pub differ : look t (set_bit i false case) ≢ look t (set_bit i true case)

  pub depends_case : Deep n t → depends_on i t ≡ true → Depends
  depends_case d e =
      let a : Apart n (cofactor i false t) (cofactor i true t) = not_same n _ _ (cofactor-deep n i false t d) (cofactor-deep n i true t d) (not-true _ e) in
      record { case = a.case; small = a.small; differ = λ z. a.differ (cofactor-look i false t a.case ∙ z ∙ sym (cofactor-look i true t a.case)) }

  pub case_depends : Depends → depends_on i t ≡ true
  case_depends a =
      (elim (depends_on i t) as (λ v. depends_on i t ≡ v → v ≡ true) [
        | true ↦ λ e. refl
        | false ↦ λ e. absurd (a.differ (sym (cofactor-look i false t a.case) ∙ ap (λ u. look u a.case) (free_of e) ∙ cofactor-look i true t a.case))
      ]) refl

-- the mask, bit by bit
pub support-lt : (n : ℕ) (t : Tree) → support_of n t < 2 ^ n
unfolding support_of
support-lt zero t = omega arith
support-lt (suc n) t = set_bit-lt (suc n) n (depends_on n t) (support_of n t) (omega arith) (omega (arith, support-lt n t))

pub support-bit : (n i : ℕ) (t : Tree) → i < n → bit i (support_of n t) ≡ depends_on i t
unfolding support_of
support-bit zero i t h = absurd (let z : ⊥ = omega arith in z)
support-bit (suc n) i t h = elim (ℕ_discrete i n) [
  | yes e ↦ bit-set_bit i n (depends_on n t) (support_of n t) ∙ rw (eq-eqb i n e, e)
  | no e ↦ bit-set_bit i n (depends_on n t) (support_of n t) ∙ rw (ne_eqb i n e) (support-bit n i t (omega arith))
]

-- exactly the marks that are not free
pub support_free : (n i : ℕ) (t : Tree) → i < n → (bit i (support_of n t) ≡ false) ↔ Free i t
support_free n i t h = ((λ e. free_of n i t (sym (support-bit n i t h) ∙ e)), (λ f. support-bit n i t h ∙ of_free n i t f))

-- the marks of a table's inner nodes
module _ (s : Table) where
  marks-more : (k : ℕ) → 2 ≤ k → marks_in s (suc k) ≡ set_bit (at s k).mark true (marks_in s k)
  unfolding marks_in
  marks-more k h = rw (le-ltb k 2 h)

  marks-none : (k : ℕ) → k < 2 → marks_in s (suc k) ≡ marks_in s k
  unfolding marks_in
  marks-none k h = rw (lt-ltb k 2 h)

  -- the constants have none
  pub marks-low : (k : ℕ) → k ≤ 2 → marks_in s k ≡ 0
  unfolding marks_in
  marks-low zero h = refl
  marks-low (suc zero) h = refl
  marks-low (suc (suc zero)) h = refl
  marks-low (suc (suc (suc k))) h = absurd (let z : ⊥ = omega arith in z)

  pub marks-next : (k : ℕ) → 2 ≤ k → marks_in s (k + 1) ≡ set_bit (at s k).mark true (marks_in s k)
  marks-next k h = let e : k + 1 ≡ suc k = omega arith in ap (marks_in s) e ∙ marks-more k h

  pub marks-small : (n : ℕ) → Ordered n s → (k : ℕ) → k ≤ length s → marks_in s k < 2 ^ n
  marks-small n o zero h = unfold marks_in in pow_pos n
  marks-small n o (suc k) h = elim (dec_lt k 2) [
    | yes d ↦ rw (marks-none k d) (marks-small n o k (omega arith))
    | no d ↦ rw (marks-more k (omega arith)) (set_bit-lt n _ true _ (o.marks k (omega arith) (omega arith)) (marks-small n o k (omega arith)))
  ]

  -- no node has the mark exactly if its bit is not set
  absent_bit : (i k : ℕ) → ((j : ℕ) → 2 ≤ j → j < k → (at s j).mark ≢ i) → bit i (marks_in s k) ≡ false
  absent_bit i zero h = unfold marks_in in bit-zero i
  absent_bit i (suc k) h = elim (dec_lt k 2) [
    | yes d ↦ rw (marks-none k d) (absent_bit i k (λ j a b. h j a (omega arith)))
    | no d ↦
        let ne : i ≢ (at s k).mark = λ e. h k (omega arith) (omega arith) (sym e) in
        rw (marks-more k (omega arith)) (bit-set_bit i _ true _ ∙ rw (ne_eqb i _ ne) (absent_bit i k (λ j a b. h j a (omega arith))))
  ]

  bit_absent : (i k : ℕ) → bit i (marks_in s k) ≡ false → (j : ℕ) → 2 ≤ j → j < k → (at s j).mark ≢ i
  bit_absent i zero e j a b = absurd (let z : ⊥ = omega arith in z)
  bit_absent i (suc k) e j a b = elim (dec_lt k 2) [
    | yes d ↦ λ z. let w : ⊥ = omega arith in w
    | no d ↦
        let is : cond (eqb i (at s k).mark) true (bit i (marks_in s k)) ≡ false = sym (bit-set_bit i _ true _) ∙ ap (bit i) (sym (marks-more k (omega arith))) ∙ e in
        elim (ℕ_discrete i (at s k).mark) [
          | yes q ↦ absurd (clash refl (rw (eq-eqb i _ q) at is))
          | no q ↦ elim (ℕ_discrete j k) [
            | yes z ↦ rw z (λ w. q (sym w))
            | no z ↦ bit_absent i k (rw (ne_eqb i _ q) at is) j a (omega arith)
          ]
        ]
  ]

-- the marks in the canonical table are the support
pub marks-support : (n : ℕ) (t : Tree) → Deep n t → marks_in (canon n t) (length (canon n t)) ≡ support_of n t
marks-support n t d =
    bit_ext n _ _ (marks-small (canon n t) n (canon-ordered n t d) (length (canon n t)) (omega arith)) (support-lt n t)
    (λ i h.
    (elim (bit i (marks_in (canon n t) (length (canon n t)))) as (λ v. bit i (marks_in (canon n t) (length (canon n t))) ≡ v → v ≡ bit i (support_of n t)) [
      | true ↦ λ e. sym (set i h e)
      | false ↦ λ e. sym ((support_free n i t h).1 ((support n t d i h).0 (bit_absent (canon n t) i (length (canon n t)) e)))
    ]) refl)
  where
    set : (i : ℕ) → i < n → bit i (marks_in (canon n t) (length (canon n t))) ≡ true → bit i (support_of n t) ≡ true
    set i h e =
        (elim (bit i (support_of n t)) as (λ v. bit i (support_of n t) ≡ v → v ≡ true) [
          | true ↦ λ z. refl
          | false ↦ λ z. absurd (clash e (absent_bit (canon n t) i (length (canon n t)) ((support n t d i h).1 ((support_free n i t h).0 z))))
        ]) refl
