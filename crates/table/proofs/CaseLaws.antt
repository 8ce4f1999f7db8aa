-- Evaluation, test by test and step by step.
use mathlib.Core.Path.{◌≡◌, sym, ap, ◌∙◌}
use mathlib.Core.Bool.{true, not, ◌&&◌, true≢false}
use mathlib.Core.List.{List}
use Prim.Native.Nat.{ℕ, zero, suc, ◌+◌, ◌-◌, ◌/◌, ◌^◌, ◌≤◌, ◌<◌}
use native.Mathlib.Omega.{arith}
use native.Mathlib.Decide.{dec_lt}
use native.Mathlib.Nat.{div-lt_iff_lt-mul, div-eq_of_lt, div-one, div-le_self}
use lib.Pow.{pow_pos}
use lib.Count.{count_trailing_zeros}
use lib.Dec.{eqb, leb}
use lib.ListN.{length}
use borrow.Author.Tests.{eq-eqb, ne_eqb, le-leb, lt-leb, leb-true}
use Rattle.theory.specs.Mask.{bit}
use Rattle.theory.specs.Tree.{look}
use Rattle.theory.specs.Table.{Node, Table, at, child_of, tree_of, says, meaning, Ordered}
use Rattle.theory.specs.Words.{node_at, nodes}
use Rattle.theory.proofs.Masks.{bit_past}
use Rattle.theory.proofs.Trailing.{tz_below, tz_at, bit-add}
use Rattle.theory.proofs.Step.{mark-le}
use Rattle.theory.proofs.Cases.{says-look}
use Rattle.theory.proofs.Levels.{node_says, node_says-level, node_says-step, node_says_bottom}
use Rattle.theory.proofs.Words.{at-nodes, length-nodes}
use Rattle.refusal.specs.Limits.{max_marks, case_bits}
use Rattle.refusal.proofs.Firsts.{first-is}
use Rattle.table.specs.Inspection.{SoundTable}
use Rattle.table.specs.Case.{over_case, lowest_over, table_says, child_for}

-- the part of a case from n up is 0 exactly if no bit stands there
high_part : (n case : ℕ) → 2 ^ n ≤ case → 0 < case / 2 ^ n
high_part n case h = elim (dec_lt 0 (case / 2 ^ n)) [
  | yes k ↦ k
  | no k ↦ absurd (omega (arith, (div-lt_iff_lt-mul {k = 2 ^ n} {x = case} {y = 1} (pow_pos n)).0 (omega arith)))
]

pub shifted_over : (n case : ℕ) → not (eqb (case / 2 ^ n) 0) ≡ over_case n case
unfolding over_case
shifted_over n case = elim (dec_lt case (2 ^ n)) [
  | yes h ↦ rw (eq-eqb (case / 2 ^ n) 0 (div-eq_of_lt h), lt-leb (2 ^ n) case h)
  | no h ↦
      let k : 2 ^ n ≤ case = omega arith in
      rw (ne_eqb (case / 2 ^ n) 0 (λ e. omega (arith, high_part n case k)), le-leb (2 ^ n) case k)
]

-- the lowest mark from n up, by the trailing zeros of that part
module _ (n case : ℕ) (over : true ≡ over_case n case) (fits : case < 2 ^ case_bits) where
  z : ℕ
  z = count_trailing_zeros case_bits (case / 2 ^ n)

  set_there : bit (n + z) case ≡ true
  unfolding z over_case
  set_there =
      bit-add n z case
      ∙ tz_at case_bits (case / 2 ^ n) (high_part n case (leb-true _ _ (sym over))) (omega (arith, div-le_self case (2 ^ n)))

  pub lowest_within : n + count_trailing_zeros case_bits (case / 2 ^ n) < case_bits
  unfolding z
  lowest_within = elim (dec_lt (n + z) case_bits) [
    | yes h ↦ h
    | no h ↦ absurd (true≢false (sym set_there ∙ bit_past case_bits (n + z) case fits (omega arith)))
  ]

  unset_below : (j : ℕ) → j < n + z → not (leb n j && bit j case) ≡ true
  unfolding z
  unset_below j h = elim (dec_lt j n) [
    | yes k ↦ rw (lt-leb n j k)
    | no k ↦
        let e : n + (j - n) ≡ j = omega arith in
        rw (le-leb n j (omega arith), ← (ap (λ i. bit i case) e), bit-add n (j - n) case, tz_below case_bits (case / 2 ^ n) (j - n) (omega arith))
  ]

  pub lowest_is : n + count_trailing_zeros case_bits (case / 2 ^ n) ≡ lowest_over n case
  unfolding lowest_over z
  lowest_is = sym (first-is _ case_bits (n + z) lowest_within unset_below (rw (le-leb n (n + z) (omega arith), set_there)))

module _ (n : ℕ) (s : Table) (o : Ordered n s) where
  -- a constant says what its number is
  constant_says : (p case : ℕ) → p < length s → p < 2 → eqb p 1 ≡ node_says n s p case
  constant_says zero case h k = sym (node_says_bottom n s 0 case (ap (λ (x : Node). x.mark) o.first))
  constant_says (suc zero) case h k = sym (node_says_bottom n s 1 case (ap (λ (x : Node). x.mark) (o.second h)))
  constant_says (suc (suc p)) case h k = absurd (omega arith)

-- where the walk stands: what the node says of the case is what the table says
pub record Standing (n count : ℕ) (w : List ℕ) (case p : ℕ) : Type 0 where
  pub lies : p < count
  pub says : node_says n (nodes count w) p case ≡ table_says n count w case

module _ (n count : ℕ) (w : List ℕ) (root case : ℕ) (t : SoundTable n count w root) where
  lies_in : (p : ℕ) → p < count → p < length (nodes count w)
  lies_in p h = omega (arith, length-nodes count w)

  pub at-root : Standing n count w case root
  unfolding meaning
  at-root =
      let e : length (nodes count w) - 1 ≡ root = omega (arith, length-nodes count w, t.last) in
      let z : case / 2 ^ 0 ≡ case = div-one case in
      let m : n - 0 ≡ n = omega arith in
      let h : root < count = omega (arith, t.last, t.some) in
      record {
        lies = h;
        says =
            sym (ap (λ p. look (tree_of n (nodes count w) 0 p) case) e
            ∙ sym (says-look n (nodes count w) 0 root case)
            ∙ sym (ap (says n (nodes count w) 0 root) z)
            ∙ sym (ap (λ k. says k (nodes count w) 0 root (case / 2 ^ 0)) m)
            ∙ node_says-level n (nodes count w) 0 root case (omega arith) (mark-le n (nodes count w) t.ordered root (lies_in root h)));
      }

  module _ (p : ℕ) (at_p : Standing n count w case p) (two : 2 ≤ p) where
    pub mark-fits : (node_at w p).mark ≤ max_marks
    mark-fits = omega (arith, ap (λ (x : Node). x.mark) (at-nodes count w p at_p.lies), t.marks, mark-le n (nodes count w) t.ordered p (lies_in p at_p.lies))

    module _ (q : ℕ) (to : q ≡ child_for (node_at w p) case) where
      child : q ≡ child_of (bit (at (nodes count w) p).mark case) (at (nodes count w) p)
      child = rw (at-nodes count w p at_p.lies) to

      pub goes_down : q < p
      goes_down = rw child (t.ordered.links p (bit (at (nodes count w) p).mark case) two (lies_in p at_p.lies))

      pub goes_on : Standing n count w case q
      goes_on =
          let h : q < count = omega (arith, goes_down, at_p.lies) in
          record {
            lies = h;
            says =
                sym (node_says-step n (nodes count w) p case (t.ordered.marks p two (lies_in p at_p.lies)) q child
                (rw child (t.ordered.falls p (bit (at (nodes count w) p).mark case) two (lies_in p at_p.lies)))
                (mark-le n (nodes count w) t.ordered q (lies_in q h)))
                ∙ at_p.says;
          }

  pub ends : (p : ℕ) → Standing n count w case p → p < 2 → eqb p 1 ≡ table_says n count w case
  ends p at_p k = constant_says n (nodes count w) t.ordered p case (lies_in p at_p.lies) k ∙ at_p.says
