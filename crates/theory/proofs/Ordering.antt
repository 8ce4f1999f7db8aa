-- A table is ordered exactly if each of its nodes passes inspection's test.
use mathlib.Core.Path.{◌≡◌, sym, ap, ◌∙◌}
use mathlib.Core.Bool.{Bool, true, false, ◌&&◌}
use Prim.Native.Nat.{ℕ, zero, suc, ◌≤◌, ◌<◌}
use native.Mathlib.Omega.{arith}
use lib.Dec.{ltb}
use lib.ListN.{length}
use borrow.Author.Tests.{lt-ltb, le-ltb, ltb-true}
use Rattle.theory.specs.Table.{node, Table, at, child_of, same, link_ok, node_ok, Ordered}
use Rattle.theory.proofs.Truths.{and_true, and_intro}
use Rattle.theory.proofs.Find.{same_refl, same-eq}

module _ (n : ℕ) (s : Table) where
  ok_constant : (i : ℕ) → i < 2 → node_ok n s i ≡ same (at s i) (node n i i)
  unfolding node_ok
  ok_constant i h = rw (lt-ltb i 2 h)

  ok_inner : (i : ℕ) → 2 ≤ i → node_ok n s i ≡ ltb (at s i).mark n && link_ok s i (at s i).low && link_ok s i (at s i).high
  unfolding node_ok
  ok_inner i h = rw (le-ltb i 2 h)

  -- what a node from 2 up shows by passing the test
  record Passes (i : ℕ) : Type 0 where
    mark : (at s i).mark < n
    link : (b : Bool) → child_of b (at s i) < i
    fall : (b : Bool) → (at s i).mark < (at s (child_of b (at s i))).mark

  link_facts : (i p : ℕ) → link_ok s i p ≡ true → (p < i) × ((at s i).mark < (at s p).mark)
  unfolding link_ok
  link_facts i p e =
      let a : (ltb p i ≡ true) × (ltb (at s i).mark (at s p).mark ≡ true) = and_true _ _ e in
      (ltb-true _ _ a.0, ltb-true _ _ a.1)

  passes : (i : ℕ) → 2 ≤ i → node_ok n s i ≡ true → Passes i
  passes i h e =
      let a : (ltb (at s i).mark n && link_ok s i (at s i).low ≡ true) × (link_ok s i (at s i).high ≡ true) = and_true _ _ (sym (ok_inner i h) ∙ e) in
      let b : (ltb (at s i).mark n ≡ true) × (link_ok s i (at s i).low ≡ true) = and_true _ _ a.0 in
      record {
        mark = ltb-true _ _ b.0;
        link = λ v. elim v as (λ v. child_of v (at s i) < i) [ true ↦ (link_facts i _ a.1).0 | false ↦ (link_facts i _ b.1).0 ];
        fall = λ v. elim v as (λ v. (at s i).mark < (at s (child_of v (at s i))).mark) [ true ↦ (link_facts i _ a.1).1 | false ↦ (link_facts i _ b.1).1 ];
      }

  pub ordered_of_ok : 1 ≤ length s → ((i : ℕ) → i < length s → node_ok n s i ≡ true) → Ordered n s
  ordered_of_ok h ok = record {
    some = h;
    first = same-eq _ _ (sym (ok_constant 0 (omega arith)) ∙ ok 0 h);
    second = λ k. same-eq _ _ (sym (ok_constant 1 (omega arith)) ∙ ok 1 k);
    marks = λ i two k. (passes i two (ok i k)).mark;
    links = λ i b two k. (passes i two (ok i k)).link b;
    falls = λ i b two k. (passes i two (ok i k)).fall b;
  }

  link_ok_lem : Ordered n s → (i : ℕ) (b : Bool) → 2 ≤ i → i < length s → link_ok s i (child_of b (at s i)) ≡ true
  unfolding link_ok
  link_ok_lem o i b two k = and_intro _ _ (lt-ltb _ _ (o.links i b two k)) (lt-ltb _ _ (o.falls i b two k))

  pub ok_of_ordered : Ordered n s → (i : ℕ) → i < length s → node_ok n s i ≡ true
  ok_of_ordered o zero k = ok_constant 0 (omega arith) ∙ ap (λ x. same x (node n 0 0)) o.first ∙ same_refl (node n 0 0)
  ok_of_ordered o (suc zero) k = ok_constant 1 (omega arith) ∙ ap (λ x. same x (node n 1 1)) (o.second k) ∙ same_refl (node n 1 1)
  ok_of_ordered o (suc (suc j)) k =
      ok_inner (suc (suc j)) (omega arith)
      ∙ and_intro _ _ (and_intro _ _ (lt-ltb _ _ (o.marks (suc (suc j)) (omega arith) k)) (link_ok_lem o (suc (suc j)) false (omega arith) k)) (link_ok_lem o (suc (suc j)) true (omega arith) k)
