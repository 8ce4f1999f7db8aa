-- Step 1: what `core_step` returns, place by place, and the loop of `core_of`.
use mathlib.Core.Path.{◌≡◌, refl, sym, ap, subst, ◌∙◌}
use mathlib.Core.Bool.{true, false, ◌&&◌}
use mathlib.Core.List.{List, [], ◌∷◌}
use Prim.Native.Nat.{ℕ, zero, suc, ◌≤◌, ◌<◌}
use native.Mathlib.Omega.{arith}
use lib.Dec.{ltb}
use lib.ListN.{length, length-set, set}
use borrow.Author.Tests.{lt-ltb, le-ltb}
use Rattle.std.specs.Prelude.{Option, Some, None}
use Rattle.theory.specs.Tree.{Tree, case_count, for_all_mark, konst}
use Rattle.theory.specs.Table.{node, constants, cut, canon}
use Rattle.theory.specs.Words.{stride, nodes, with_node}
use Rattle.theory.proofs.Again.{walk-konst}
use Rattle.theory.proofs.Cases.{konst-deep}
use Rattle.theory.proofs.Words.{nodes_push}
use Rattle.refusal.specs.Limits.{min_room, max_marks, max_nodes}
use Rattle.rule.specs.Rule.{support_marks, more_cases, larger, most_cases, core_of, for_alls, all_fit}
use Rattle.held.specs.Held.{Tab, tree_in}
use Rattle.held.proofs.HeldLaws.{tab-of, tab-means, canonical_of}
use Rattle.dividing.specs.declared.Core.{Core}
use Rattle.dividing.specs.Dividing.{Standing, CoreGiven}
use Rattle.dividing.proofs.FitLaws.{one-yes, one-no, all_cons}

-- ---- one mark
module _ (n room : ℕ) (best e : Tree) where
  pub step_over : room < length (canon n e) → (w : List ℕ) (z : Option Core) → z ≡ None → CoreGiven n room w (larger best e) (e ∷ []) z
  step_over h w z i = rw i (one-no n room e [] h)

  module _ (tried : List ℕ) (k c most : ℕ) (t : Tab n room tried k e) (is : c ≡ case_count (tree_in n tried k)) (had : most ≡ case_count best) where
    counts : c ≡ case_count e
    counts = is ∙ ap case_count (tab-means n room tried k e t)

    pub step_more : most < c → (w : List ℕ) → Tab n room w k (tree_in n tried k) → Tab n room w k (larger best e) × (c ≡ case_count (larger best e)) × (all_fit room n (e ∷ []) ≡ true)
    unfolding larger more_cases
    step_more h w s =
        let z : ltb (case_count best) (case_count e) ≡ true = lt-ltb (case_count best) (case_count e) (omega (arith, counts)) in
        rw z (subst (Tab n room w k) (tab-means n room tried k e t) s, counts, one-yes n room tried k e t)

    pub step_less : c ≤ most → (w : List ℕ) (j : ℕ) → Tab n room w j best → Tab n room w j (larger best e) × (most ≡ case_count (larger best e)) × (all_fit room n (e ∷ []) ≡ true)
    unfolding larger more_cases
    step_less h w j s =
        let z : ltb (case_count best) (case_count e) ≡ false = le-ltb (case_count best) (case_count e) (omega (arith, counts)) in
        rw z (s, had, one-yes n room tried k e t)

-- ---- all marks
none-cases : (n : ℕ) → case_count (konst n false) ≡ 0
unfolding case_count konst
none-cases zero = refl
none-cases (suc n) = rw (none-cases n)

canon_false : (n : ℕ) → canon n (konst n false) ≡ node n 0 0 ∷ []
unfolding canon
canon_false n = ap (cut n) (walk-konst n false (constants n) 0)

-- the table of no
pub false_made : (n room : ℕ) (w : List ℕ) → 1 ≤ room → stride ≤ length w → Tab n room (with_node w 0 n 0 0) 1 (konst n false)
unfolding nodes
false_made n room w h l = record {
  deep = konst-deep n false;
  lies = omega (arith, length-set (set (set w 0 n) 1 0) 2 0, length-set (set w 0 n) 1 0, length-set w 0 n);
  fits = h;
  table = nodes_push 0 w n 0 0 (omega arith) ∙ sym (canon_false n);
}

-- the core so far stands in the words, and what is still to be done from it is what was to be done at first
pub record CoreInv (n room : ℕ) (f : Tree) (w : List ℕ) (best : Core) (xs : List ℕ) : Type 0 where
  pub standing : Standing n room w best
  pub goes : most_cases f xs (tree_in n w best.count) ≡ core_of n f
  pub calls : all_fit room n (for_alls f xs) ≡ all_fit room n (for_alls f (support_marks n f))

module _ (n room : ℕ) (f : Tree) (marks : n ≤ max_marks) (some : min_room ≤ room) (few : room ≤ max_nodes) where
  pub core_start : (w : List ℕ) → Tab n room w 1 (konst n false) → (xs : List ℕ) → xs ≡ support_marks n f → CoreInv n room f w (record { count = 1; cases = 0 }) xs
  unfolding core_of
  core_start w t xs e = record {
    standing = record { canonical = canonical_of n room w 1 (konst n false) t marks some few; cases = sym (ap case_count (tab-means n room w 1 (konst n false) t) ∙ none-cases n) };
    goes = rw (e, tab-means n room w 1 (konst n false) t);
    calls = rw e;
  }

  module _ (w : List ℕ) (best : Core) (xs : List ℕ) (inv : CoreInv n room f w best xs) (m : ℕ) (next : List ℕ) (splits : xs ≡ m ∷ next) where
    after : (v : _) → all_fit room n (for_all_mark m f ∷ []) ≡ v → all_fit room n (for_alls f (support_marks n f)) ≡ v && all_fit room n (for_alls f next)
    unfolding for_alls
    after v e = sym inv.calls ∙ ap (λ ys. all_fit room n (for_alls f ys)) splits ∙ all_cons room n (for_all_mark m f) _ ∙ ap (λ x. x && all_fit room n (for_alls f next)) e

    pub core_again : (w' : List ℕ) (c : Core) → CoreGiven n room w' (larger (tree_in n w best.count) (for_all_mark m f)) (for_all_mark m f ∷ []) (Some c) → CoreInv n room f w' c next
    unfolding most_cases
    core_again w' c d =
        let is : tree_in n w' c.count ≡ larger (tree_in n w best.count) (for_all_mark m f) = tab-means n room w' c.count _ d.0 in
        record {
          standing = record { canonical = canonical_of n room w' c.count _ d.0 marks some few; cases = d.1 ∙ ap case_count (sym is) };
          goes = ap (most_cases f next) is ∙ sym (ap (λ ys. most_cases f ys (tree_in n w best.count)) splits) ∙ inv.goes;
          calls = sym (after true d.2);
        }

    pub core_over : all_fit room n (for_all_mark m f ∷ []) ≡ false → (w' : List ℕ) (z : Option Core) → z ≡ None → CoreGiven n room w' (core_of n f) (for_alls f (support_marks n f)) z
    core_over d w' z e = rw e (after false d)

  pub core_end : (w : List ℕ) (best : Core) (xs : List ℕ) → xs ≡ [] → CoreInv n room f w best xs → CoreGiven n room w (core_of n f) (for_alls f (support_marks n f)) (Some best)
  unfolding most_cases for_alls all_fit
  core_end w best xs none inv =
      let z : tree_in n w best.count ≡ core_of n f = rw none at inv.goes in
      let y : true ≡ all_fit room n (for_alls f (support_marks n f)) = rw none at inv.calls in
      (subst (Tab n room w best.count) z (tab-of n room w best.count inv.standing.canonical), inv.standing.cases ∙ ap case_count z, sym y)
