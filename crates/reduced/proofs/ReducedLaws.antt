-- The tests of a reduced table: a table is reduced exactly if it is ordered and each node passes; and the marks of the reachable nodes.
use mathlib.Core.Path.{◌≡◌, refl, sym, ap, ◌∙◌}
use mathlib.Core.Logic.{◌≢◌, ◌⊎◌, inl, inr}
use mathlib.Core.Bool.{Bool, true, false, not, ◌&&◌}
use mathlib.Core.List.{List}
use Prim.Native.Nat.{ℕ, zero, suc, ◌+◌, ◌*◌, ◌-◌, ◌≤◌, ◌<◌}
use native.Mathlib.Omega.{arith}
use native.Mathlib.Decide.{ℕ_discrete, dec_lt}
use lib.Dec.{eqb, leb}
use lib.ListN.{length, get_or, set, replicate, length-set, length-replicate}
use lib.Seq.{get_or-set_same, get_or-set_other}
use borrow.Author.Tests.{eq-eqb, ne_eqb, eqb-false, lt-ltb, le-ltb, le-leb, leb-true, not-true}
use Rattle.theory.specs.Table.{Node, node, Table, at, child_of, same, num, Ordered, Reduced}
use Rattle.theory.specs.Words.{stride, node_at, nodes}
use Rattle.theory.proofs.Find.{same_refl, same-eq}
use Rattle.theory.proofs.Words.{length-nodes, at-nodes, child_falls}
use Rattle.theory.proofs.Truths.{clash, bool_cases, and_true, or_left, or_right, or_cases}
use Rattle.refusal.specs.Limits.{max_nodes}
use Rattle.refusal.proofs.Firsts.{first-before, first-none}
use Rattle.table.specs.Inspection.{SoundTable}
use Rattle.pool.specs.Pool.{Hit, Miss, Searched}
use Rattle.std.specs.Prelude.{Option, Some, None}
use Rattle.std.specs.Option.{is_some}
use Rattle.table.specs.declared.BddPointer.{BddPointer}
use Rattle.reduced.specs.Reduced.{reachable, repeated, node_reduced, first_unreduced, links_marked, Marked}
use Rattle.reduced.proofs.ReachLaws.{spreads, constant_child, reachable-root, reachable_child, constant_mark, of_reachable, to-reachable}

module _ (s : Table) (x : Node) where
  pub repeated-at : (k j : ℕ) → 2 ≤ j → j < k → at s j ≡ x → repeated s x k ≡ true
  unfolding repeated
  repeated-at zero j two h e = absurd (let z : ⊥ = omega arith in z)
  repeated-at (suc k) j two h e = elim (ℕ_discrete j k) [
    | yes d ↦ or_left (leb 2 k && same (at s k) x) (repeated s x k) (rw (le-leb 2 k (omega arith), ← d, e) (same_refl x))
    | no d ↦ or_right (leb 2 k && same (at s k) x) (repeated s x k) (repeated-at k j two (omega arith) e)
  ]

  -- an earlier node with the triple
  pub record Earlier (k : ℕ) : Type 0 where
    pub place : ℕ
    pub two : 2 ≤ place
    pub before : place < k
    pub is : at s place ≡ x

  pub repeated_where : (k : ℕ) → repeated s x k ≡ true → Earlier k
  unfolding repeated
  repeated_where zero e = absurd (clash e refl)
  repeated_where (suc k) e = elim (or_cases (leb 2 k && same (at s k) x) (repeated s x k) e) [
    | inl a ↦
        let b : (leb 2 k ≡ true) × (same (at s k) x ≡ true) = and_true (leb 2 k) (same (at s k) x) a in
        record { place = k; two = leb-true 2 k b.0; before = omega arith; is = same-eq (at s k) x b.1 }
    | inr a ↦ let b : Earlier k = repeated_where k a in record { place = b.place; two = b.two; before = omega (arith, b.before); is = b.is }
  ]

  pub repeated-none : (k : ℕ) → ((j : ℕ) → 2 ≤ j → j < k → at s j ≢ x) → repeated s x k ≡ false
  repeated-none k n = elim (bool_cases (repeated s x k)) [
    | inl e ↦ let b : Earlier k = repeated_where k e in absurd (n b.place b.two b.before b.is)
    | inr e ↦ e
  ]

module _ (n : ℕ) (s : Table) where
  -- the test of a node, rule by rule
  pub constant_passes : (i : ℕ) → i < 2 → node_reduced n s i ≡ true
  unfolding node_reduced
  constant_passes i h = rw (lt-ltb i 2 h)

  tested : (i : ℕ) → 2 ≤ i → node_reduced n s i ≡ not (eqb (at s i).low (at s i).high) && not (repeated s (at s i) i) && reachable n s i
  unfolding node_reduced
  tested i h = rw (le-ltb i 2 h)

  pub else_reachable : (i : ℕ) → 2 ≤ i → (at s i).low ≢ (at s i).high → repeated s (at s i) i ≡ false → node_reduced n s i ≡ reachable n s i
  else_reachable i h a e = tested i h ∙ rw (ne_eqb _ _ a, e)

  record Passed (i : ℕ) : Type 0 where
    apart : (at s i).low ≢ (at s i).high
    once : repeated s (at s i) i ≡ false
    reached : reachable n s i ≡ true

  passed : (i : ℕ) → 2 ≤ i → node_reduced n s i ≡ true → Passed i
  passed i h e =
      let a : (not (eqb (at s i).low (at s i).high) && not (repeated s (at s i) i) ≡ true) × (reachable n s i ≡ true) = and_true _ _ (sym (tested i h) ∙ e) in
      let b : (not (eqb (at s i).low (at s i).high) ≡ true) × (not (repeated s (at s i) i) ≡ true) = and_true _ _ a.0 in
      record { apart = eqb-false _ _ (not-true _ b.0); once = not-true _ b.1; reached = a.1 }

  -- ordered, with every node passing: reduced
  pub reduced_of : Ordered n s → ((i : ℕ) → i < length s → node_reduced n s i ≡ true) → Reduced n s
  reduced_of o ok = record {
    ordered = o;
    apart = λ i h k. (passed i h (ok i k)).apart;
    once = λ i j two h k e. clash (repeated-at s (at s i) i j two h (sym e)) (passed i (omega arith) (ok i k)).once;
    reachable = λ i h k. of_reachable n s o i (passed i h (ok i k)).reached;
  }

  pub of_reduced : Reduced n s → (i : ℕ) → i < length s → node_reduced n s i ≡ true
  of_reduced r i k = elim (dec_lt i 2) [
    | yes h ↦ constant_passes i h
    | no h ↦
        else_reachable i (omega arith) (r.apart i (omega arith) k) (repeated-none s (at s i) i (λ j two l e. r.once i j two l k (sym e)))
        ∙ to-reachable n s r.ordered i (r.reachable i (omega arith) k)
  ]

module _ (n count : ℕ) (w : List ℕ) where
  -- no node offends exactly if an ordered table is reduced
  pub none_unreduced : Ordered n (nodes count w) → count ≤ first_unreduced n count w → Reduced n (nodes count w)
  unfolding first_unreduced
  none_unreduced o h = reduced_of n (nodes count w) o (λ i k. first-before (node_reduced n (nodes count w)) count i (omega (arith, length-nodes count w)))

  pub unreduced_none : Reduced n (nodes count w) → first_unreduced n count w ≡ count
  unfolding first_unreduced
  unreduced_none r = first-none (node_reduced n (nodes count w)) count (λ j k. of_reduced n (nodes count w) r j (omega (arith, length-nodes count w)))

-- the marks on the way down: what is marked is reachable, the root is marked, and so are the links of each marked node from j up
pub record Marking (n count : ℕ) (w : List ℕ) (j : ℕ) (marks : List ℕ) : Type 0 where
  pub long : length marks ≡ max_nodes
  pub plain : (i : ℕ) → (get_or marks i 0 ≡ 0) ⊎ (get_or marks i 0 ≡ 1)
  pub only : (i : ℕ) → i < count → get_or marks i 0 ≡ 1 → reachable n (nodes count w) i ≡ true
  pub top : get_or marks (count - 1) 0 ≡ 1
  pub closed : (p : ℕ) (b : Bool) → j ≤ p → 2 ≤ p → p < count → get_or marks p 0 ≡ 1 → get_or marks (child_of b (node_at w p)) 0 ≡ 1

no-marks : (k i : ℕ) → ◌≡◌ {A = ℕ} (get_or (replicate k 0) i 0) 0
no-marks zero i = refl
no-marks (suc k) zero = refl
no-marks (suc k) (suc i) = no-marks k i

-- one mark set
set-mark : (marks : List ℕ) (k i : ℕ) → k < length marks → (get_or (set marks k 1) i 0 ≡ 1) ⊎ ((i ≢ k) × (get_or (set marks k 1) i 0 ≡ get_or marks i 0))
set-mark marks k i h = elim (ℕ_discrete i k) [
  | yes e ↦ inl (rw e (get_or-set_same marks k 1 0 h))
  | no e ↦ inr (e, get_or-set_other marks k i 1 0 e)
]

module _ (n count : ℕ) (w : List ℕ) (root : ℕ) (t : SoundTable n count w root) where
  abbrev s : Table
  s = nodes count w

  -- the nodes of an ordered table, in its words
  pub at-word : (p : ℕ) → p < count → at s p ≡ node_at w p
  at-word p h = at-nodes count w p h

  -- a reachable node below j marked
  marks-more : (j k : ℕ) (marks : List ℕ) → k < j → k < count → reachable n s k ≡ true → Marking n count w j marks → Marking n count w j (set marks k 1)
  marks-more j k marks h l r m =
      let fits : k < length marks = omega (arith, m.long, t.few) in
      record {
        long = length-set marks k 1 ∙ m.long;
        plain = λ i. elim (set-mark marks k i fits) [ inl a ↦ inr a | inr a ↦ rw a.1 (m.plain i) ];
        only = λ i d e. elim (ℕ_discrete i k) [ yes a ↦ rw a r | no a ↦ m.only i d (sym (get_or-set_other marks k i 1 0 a) ∙ e) ];
        top = elim (set-mark marks k (count - 1) fits) [ inl a ↦ a | inr a ↦ a.1 ∙ m.top ];
        closed = λ p b d two c e.
            elim (set-mark marks k (child_of b (node_at w p)) fits) [
              | inl a ↦ a
              | inr a ↦ a.1 ∙ m.closed p b d two c (sym (get_or-set_other marks k p 1 0 (omega arith)) ∙ e)
            ];
      }

  -- the links of one node more
  closed-more : (p : ℕ) (marks : List ℕ) → Marking n count w (suc p) marks → ((b : Bool) → get_or marks p 0 ≡ 1 → get_or marks (child_of b (node_at w p)) 0 ≡ 1) → Marking n count w p marks
  closed-more p marks m c = record {
    long = m.long;
    plain = m.plain;
    only = m.only;
    top = m.top;
    closed = λ q b h two l e. elim (ℕ_discrete q p) [ yes a ↦ rw a (c b (rw a at e)) | no a ↦ m.closed q b (omega arith) two l e ];
  }

  marking_step : (p : ℕ) (marks : List ℕ) → 2 ≤ p → p < count → Marking n count w (suc p) marks → Marking n count w p (links_marked w p marks)
  unfolding links_marked
  marking_step p marks two h m = elim (m.plain p) [
    | inl e ↦ rw (eq-eqb (get_or marks p 0) 0 e) (closed-more p marks m (λ b d. absurd (let z : ⊥ = omega arith in z)))
    | inr e ↦
        let low : (node_at w p).low < p = child_falls n count w t.ordered p false two h in
        let high : (node_at w p).high < p = child_falls n count w t.ordered p true two h in
        let r : reachable n s p ≡ true = m.only p h e in
        let inside : p < length s = omega (arith, length-nodes count w) in
        let rl : reachable n s (node_at w p).low ≡ true = rw (at-word p h) at (reachable_child n s t.ordered p false two inside r) in
        let rh : reachable n s (node_at w p).high ≡ true = rw (at-word p h) at (reachable_child n s t.ordered p true two inside r) in
        let m₁ : Marking n count w (suc p) (set marks (node_at w p).low 1) = marks-more (suc p) _ marks (omega arith) (omega arith) rl m in
        let m₂ : Marking n count w (suc p) (set (set marks (node_at w p).low 1) (node_at w p).high 1) = marks-more (suc p) _ _ (omega arith) (omega arith) rh m₁ in
        let fits : (node_at w p).low < length marks = omega (arith, m.long, t.few) in
        let fits₂ : (node_at w p).high < length (set marks (node_at w p).low 1) = omega (arith, m₁.long, t.few) in
        rw (ne_eqb (get_or marks p 0) 0 (omega arith))
        (closed-more p _ m₂ (λ b d. elim b as (λ v. get_or (set (set marks (node_at w p).low 1) (node_at w p).high 1) (child_of v (node_at w p)) 0 ≡ 1) [
          | true ↦ get_or-set_same (set marks (node_at w p).low 1) _ 1 0 fits₂
          | false ↦ elim (set-mark (set marks (node_at w p).low 1) (node_at w p).high (node_at w p).low fits₂) [ inl a ↦ a | inr a ↦ a.1 ∙ get_or-set_same marks _ 1 0 fits ]
        ]))
  ]

  -- the links of a node that is looked at are marks
  pub marking_lies : (p : ℕ) (marks : List ℕ) → 2 < p → p ≤ count → Marking n count w p marks
      → (stride * (p - 1) + 2 < length w) × (p - 1 < length marks) × ((node_at w (p - 1)).low < length marks) × ((node_at w (p - 1)).high < length marks)
  marking_lies p marks two h m =
      let low : (node_at w (p - 1)).low < p - 1 = child_falls n count w t.ordered (p - 1) false (omega arith) (omega arith) in
      let high : (node_at w (p - 1)).high < p - 1 = child_falls n count w t.ordered (p - 1) true (omega arith) (omega arith) in
      (omega (arith, t.long), omega (arith, m.long, t.few), omega (arith, m.long, t.few), omega (arith, m.long, t.few))

  pub marking_again : (p : ℕ) (marks after : List ℕ) → 2 < p → p ≤ count → Marking n count w p marks → after ≡ links_marked w (p - 1) marks → Marking n count w (p - 1) after
  marking_again p marks after two h m e =
      let z : suc (p - 1) ≡ p = omega arith in
      rw e (marking_step (p - 1) marks (omega arith) (omega arith) (rw z m))

  abbrev zeros : List ℕ
  zeros = replicate max_nodes 0

  -- the root alone, before the first node is looked at
  marking_start : Marking n count w (suc root) (set zeros root 1)
  marking_start =
      let fits : root < length zeros = omega (arith, length-replicate {A = ℕ} max_nodes 0, t.few, t.some, t.last) in
      let none : (i : ℕ) → get_or zeros i 0 ≡ 0 = λ i. no-marks max_nodes i in
      record {
        long = length-set zeros root 1 ∙ length-replicate {A = ℕ} max_nodes 0;
        plain = λ i. elim (set-mark zeros root i fits) [ inl a ↦ inr a | inr a ↦ inl (a.1 ∙ none i) ];
        only = λ i h e. elim (ℕ_discrete i root) [
          | yes a ↦ let z : i ≡ length s - 1 = omega (arith, t.last, length-nodes count w) in rw z (reachable-root n s t.ordered)
          | no a ↦ absurd (let z : ⊥ = omega (arith, sym e ∙ get_or-set_other zeros root i 1 0 a ∙ none i) in z)
        ];
        top = ap (λ i. get_or (set zeros root 1) i 0) (sym t.last) ∙ get_or-set_same zeros root 1 0 fits;
        closed = λ p b h two l. absurd (omega (arith, t.last));
      }

  pub marking_first : (marks : List ℕ) → marks ≡ replicate max_nodes 0 → Marking n count w (suc root) (set marks root 1)
  marking_first marks e = rw e marking_start

  -- all nodes looked at: the marks are right
  pub marking_done : (p : ℕ) (marks : List ℕ) → p ≤ 2 → Marking n count w p marks → Marked n count w marks
  unfolding reachable
  marking_done p marks h m = record { long = omega (arith, m.long, t.few); right = right }
    where
      Good : ℕ → Type 0
      Good i = (i < count) × (get_or marks i 0 ≡ 1)

      on : (q : ℕ) (b : Bool) → Good q → Good (child_of b (at s q))
      on q b (l, e) = elim (dec_lt q 2) [
        | yes c ↦ rw (constant_child n s t.ordered q b c (omega (arith, length-nodes count w))) (l, e)
        | no c ↦ rw (at-word q l) (omega (arith, child_falls n count w t.ordered q b (omega arith) l), m.closed q b (omega arith) (omega arith) l e)
      ]

      right : (i : ℕ) → i < count → get_or marks i 0 ≡ num (reachable n s i)
      right i l = elim (m.plain i) [
        | inl e ↦ elim (bool_cases (reachable n s i)) [
          | inl r ↦ absurd (let z : ⊥ = omega (arith, (spreads s Good on n (length s - 1) i (omega (arith, length-nodes count w, t.some), ap (λ k. get_or marks (k - 1) 0) (length-nodes count w) ∙ m.top) r).1) in z)
          | inr r ↦ e ∙ ap num (sym r)
        ]
        | inr e ↦ e ∙ ap num (sym (m.only i l e))
      ]

  -- a search among the earlier nodes finds a repeated triple exactly if there is one
  module _ (p : ℕ) (two : 2 ≤ p) (below : p < count) (v l h : ℕ) (is-v : v ≡ (node_at w p).mark) (is-l : l ≡ (node_at w p).low) (is-h : h ≡ (node_at w p).high) where
    triple : node v l h ≡ node_at w p
    triple = rw (is-v, is-l, is-h)

    hit_repeats : (i : ℕ) → Hit w p v l h i → true ≡ repeated s (node_at w p) p
    hit_repeats i a = sym (repeated-at s (node_at w p) p i from-two a.below same-node)
      where
        same-node : at s i ≡ node_at w p
        same-node = at-word i (omega (arith, a.below)) ∙ a.same ∙ triple

        from-two : 2 ≤ i
        from-two = elim (dec_lt i 2) [
          | yes c ↦
              absurd (let z : ⊥ = omega (arith, constant_mark n s t.ordered i c (omega (arith, a.below, length-nodes count w)), ap (λ (x : Node). x.mark) same-node, rw (at-word p below) at (t.ordered.marks p two (omega (arith, length-nodes count w)))) in z)
          | no c ↦ omega arith
        ]

    miss_repeats : Miss w p v l h → false ≡ repeated s (node_at w p) p
    miss_repeats m = sym (repeated-none s (node_at w p) p (λ j c d e.
        let is : node_at w j ≡ node_at w p = sym (at-word j (omega arith)) ∙ e in
        m j (omega (arith, is-l, ap (λ (x : Node). x.low) is, child_falls n count w t.ordered j false c (omega arith))) (omega (arith, is-h, ap (λ (x : Node). x.high) is, child_falls n count w t.ordered j true c (omega arith))) d (is ∙ sym triple)))

    pub searched_repeats : (r : Option BddPointer) → Searched w p v l h r → is_some r ≡ repeated s (node_at w p) p
    searched_repeats (Some q) a = hit_repeats q.0 a
    searched_repeats None a = miss_repeats a

  -- a node's mark says whether it is reachable
  pub marked_says : (p : ℕ) (marks : List ℕ) → p < count → Marked n count w marks → not (eqb (get_or marks p 0) 0) ≡ reachable n s p
  marked_says p marks below m = ap (λ k. not (eqb k 0)) (m.right p below) ∙ said (reachable n s p)
    where
      said : (r : Bool) → not (eqb (num r) 0) ≡ r
      said true = refl
      said false = refl
