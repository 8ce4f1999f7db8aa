-- Step 3: what `mark_step` returns, place by place, and the loop of `mark_of`.
use mathlib.Core.Path.{◌≡◌, refl, sym, ap, ap₂, ◌∙◌}
use mathlib.Core.Bool.{Bool, true, false, cond, ◌&&◌}
use mathlib.Core.List.{List, [], ◌∷◌}
use Prim.Native.Nat.{ℕ, ◌+◌, ◌*◌, ◌^◌, ◌≤◌, ◌<◌}
use native.Mathlib.Omega.{arith}
use lib.Dec.{ltb}
use lib.ListN.{length}
use borrow.Author.Tests.{lt-ltb, le-ltb, leb-true}
use Rattle.std.specs.Prelude.{Option, Some, None}
use Rattle.theory.specs.Tree.{Tree, cofactor}
use Rattle.theory.specs.Table.{canon}
use Rattle.theory.specs.Clause.{marks_of}
use Rattle.refusal.specs.Limits.{max_marks}
use Rattle.valuation.specs.Marks.{mask_bits}
use Rattle.valuation.proofs.MarkLaws.{within}
use Rattle.theory.proofs.Truths.{and_true}
use Rattle.rule.specs.Rule.{node_total, fewer_nodes, smaller, fewest_nodes, chosen, restrictions, fits, all_fit}
use Rattle.held.specs.Held.{Tab}
use Rattle.held.proofs.HeldLaws.{tab-count}
use Rattle.dividing.specs.declared.Least.{Least}
use Rattle.dividing.specs.Dividing.{pick_from, Picks}
use Rattle.dividing.proofs.FitLaws.{fits-yes, fits-no}

-- ---- one mark
module _ (n room : ℕ) (g : Tree) (m best least : ℕ) where
  pub over_high : room < length (canon n (cofactor m true g)) → (z : Option Least) → z ≡ None → Picks n room g (m ∷ []) best least z
  unfolding restrictions all_fit
  over_high h z e = rw e (rw (fits-no n room (cofactor m true g) h))

  module _ (w₁ : List ℕ) (high : ℕ) (t₁ : Tab n room w₁ high (cofactor m true g)) where
    pub over_low : room < length (canon n (cofactor m false g)) → (z : Option Least) → z ≡ None → Picks n room g (m ∷ []) best least z
    unfolding restrictions all_fit
    over_low h z e = rw e (rw (fits-yes n room w₁ high (cofactor m true g) t₁, fits-no n room (cofactor m false g) h))

    module _ (w₂ : List ℕ) (low : ℕ) (t₂ : Tab n room w₂ low (cofactor m false g)) where
      sum_is : high + low ≡ node_total n g m
      sum_is = ap₂ (λ (a b : ℕ). a + b) (tab-count n room w₁ high (cofactor m true g) t₁) (tab-count n room w₂ low (cofactor m false g) t₂)

      both : all_fit room n (restrictions g (m ∷ [])) ≡ true
      unfolding restrictions all_fit
      both = rw (fits-yes n room w₁ high (cofactor m true g) t₁, fits-yes n room w₂ low (cofactor m false g) t₂)

      pub step_new : high + low < least → ◌≡◌ {A = ℕ × ℕ} (m, high + low) (pick_from n g (m ∷ []) best least) × (all_fit room n (restrictions g (m ∷ [])) ≡ true)
      unfolding pick_from
      step_new h =
          let c : ltb (node_total n g m) least ≡ true = lt-ltb (node_total n g m) least (omega (arith, sum_is)) in
          (rw c (ap (λ a. (m, a)) sum_is), both)

      pub step_old : least ≤ high + low → ◌≡◌ {A = ℕ × ℕ} (best, least) (pick_from n g (m ∷ []) best least) × (all_fit room n (restrictions g (m ∷ [])) ≡ true)
      unfolding pick_from
      step_old h =
          let c : ltb (node_total n g m) least ≡ false = le-ltb (node_total n g m) least (omega (arith, sum_is)) in
          (rw c, both)

-- ---- all marks
pick_cons : (n : ℕ) (g : Tree) (x : ℕ) (xs : List ℕ) (best least b l : ℕ) → ◌≡◌ {A = ℕ × ℕ} (b, l) (pick_from n g (x ∷ []) best least) → pick_from n g (x ∷ xs) best least ≡ pick_from n g xs b l
unfolding pick_from
pick_cons n g x xs best least b l =
    elim (ltb (node_total n g x) least) as
    (λ v. ◌≡◌ {A = ℕ × ℕ} (b, l) (cond v (x, node_total n g x) (best, least)) → cond v (pick_from n g xs x (node_total n g x)) (pick_from n g xs best least) ≡ pick_from n g xs b l) [
      | true ↦ λ e. sym (ap (λ p. pick_from n g xs p.0 p.1) e)
      | false ↦ λ e. sym (ap (λ p. pick_from n g xs p.0 p.1) e)
    ]

two_cons : (room n : ℕ) (g : Tree) (x : ℕ) (xs : List ℕ) → all_fit room n (restrictions g (x ∷ xs)) ≡ all_fit room n (restrictions g (x ∷ [])) && all_fit room n (restrictions g xs)
unfolding restrictions all_fit
two_cons room n g x xs = two (fits room n (cofactor x true g)) (fits room n (cofactor x false g)) (all_fit room n (restrictions g xs))
  where
    two : (a b c : Bool) → a && (b && c) ≡ (a && (b && true)) && c
    two true true c = refl
    two true false c = refl
    two false b c = refl

-- from no mark yet, whose total is more than two tables within room can have, the rule's mark is picked
pick_fewest : (n : ℕ) (g : Tree) (xs : List ℕ) (b : ℕ) → (pick_from n g xs b (node_total n g b)).0 ≡ fewest_nodes n g xs b
unfolding pick_from fewest_nodes smaller fewer_nodes
pick_fewest n g [] b = refl
pick_fewest n g (x ∷ xs) b =
    elim (ltb (node_total n g x) (node_total n g b)) as
    (λ v. (cond v (pick_from n g xs x (node_total n g x)) (pick_from n g xs b (node_total n g b))).0 ≡ fewest_nodes n g xs (cond v x b)) [
      | true ↦ pick_fewest n g xs x
      | false ↦ pick_fewest n g xs b
    ]

pub pick_chosen : (room n : ℕ) (g : Tree) (xs : List ℕ) → all_fit room n (restrictions g xs) ≡ true → (pick_from n g xs 0 (2 * room + 1)).0 ≡ chosen n g xs
unfolding pick_from chosen restrictions all_fit
pick_chosen room n g [] h = refl
pick_chosen room n g (x ∷ xs) h =
    let a : (fits room n (cofactor x true g) ≡ true) × (fits room n (cofactor x false g) && all_fit room n (restrictions g xs) ≡ true) = and_true _ _ h in
    let b : (fits room n (cofactor x false g) ≡ true) × (all_fit room n (restrictions g xs) ≡ true) = and_true _ _ a.1 in
    let u : ltb (node_total n g x) (2 * room + 1) ≡ true = lt-ltb (node_total n g x) (2 * room + 1) (omega (arith, leb-true (length (canon n (cofactor x true g))) room a.0, leb-true (length (canon n (cofactor x false g))) room b.0)) in
    rw u (pick_fewest n g xs x)

-- from the mark so far, what is still to be done is what was to be done at first
pub record MarkInv (n room : ℕ) (g : Tree) (s₀ : ℕ) (best : Least) (xs : List ℕ) : Type 0 where
  pub goes : pick_from n g xs best.mark.0 best.total ≡ pick_from n g (marks_of n s₀) 0 (2 * room + 1)
  pub calls : all_fit room n (restrictions g xs) ≡ all_fit room n (restrictions g (marks_of n s₀))

pub mark_start : (n room : ℕ) (g : Tree) (s₀ : ℕ) → n ≤ max_marks → s₀ < 2 ^ n → (xs : List ℕ) → xs ≡ marks_of mask_bits s₀ → MarkInv n room g s₀ (record { mark = record { 0 = 0 }; total = 2 * room + 1 }) xs
mark_start n room g s₀ l h xs e =
    let is : xs ≡ marks_of n s₀ = e ∙ within mask_bits n s₀ (omega arith) h in
    record { goes = rw is; calls = rw is }

module _ (n room : ℕ) (g : Tree) (s₀ : ℕ) (best : Least) (xs : List ℕ) (inv : MarkInv n room g s₀ best xs) where
  pub mark_end : xs ≡ [] → Picks n room g (marks_of n s₀) 0 (2 * room + 1) (Some best)
  unfolding pick_from restrictions all_fit
  mark_end none =
      let z : ◌≡◌ {A = ℕ × ℕ} (best.mark.0, best.total) (pick_from n g (marks_of n s₀) 0 (2 * room + 1)) = rw none at inv.goes in
      let y : true ≡ all_fit room n (restrictions g (marks_of n s₀)) = rw none at inv.calls in
      (z, sym y)

  module _ (m : ℕ) (next : List ℕ) (splits : xs ≡ m ∷ next) where
    after : (v : Bool) → all_fit room n (restrictions g (m ∷ [])) ≡ v → all_fit room n (restrictions g (marks_of n s₀)) ≡ v && all_fit room n (restrictions g next)
    after v e = sym inv.calls ∙ ap (λ ys. all_fit room n (restrictions g ys)) splits ∙ two_cons room n g m _
        ∙ ap (λ a. a && all_fit room n (restrictions g next)) e

    pub mark_again : (l : Least) → Picks n room g (m ∷ []) best.mark.0 best.total (Some l) → MarkInv n room g s₀ l next
    mark_again l d =
        record {
          goes = sym (ap (λ ys. pick_from n g ys best.mark.0 best.total) splits ∙ pick_cons n g m _ best.mark.0 best.total l.mark.0 l.total d.0) ∙ inv.goes;
          calls = sym (after true d.1);
        }

    pub mark_over : all_fit room n (restrictions g (m ∷ [])) ≡ false → (z : Option Least) → z ≡ None → Picks n room g (marks_of n s₀) 0 (2 * room + 1) z
    mark_over d z e = rw e (after false d)
