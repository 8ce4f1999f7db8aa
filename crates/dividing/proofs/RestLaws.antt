-- Step 2: what `rest_step` returns, place by place, and the loop of `rest_of`.
use mathlib.Core.Path.{◌≡◌, refl, sym, ap, subst, ◌∙◌}
use mathlib.Core.Logic.{◌≢◌}
use mathlib.Core.Bool.{Bool, true, false, cond, ◌&&◌}
use mathlib.Core.List.{List, [], ◌∷◌}
use Prim.Native.Nat.{ℕ, ◌≤◌, ◌<◌}
use native.Mathlib.Omega.{arith}
use lib.ListN.{length}
use borrow.Author.Tests.{lt-ltb, le-ltb}
use Rattle.std.specs.Prelude.{Option, Some, None}
use Rattle.theory.specs.Tree.{Tree, Deep, case_count, pointwise, exists_mark, and_not}
use Rattle.theory.specs.Table.{canon}
use Rattle.refusal.specs.Limits.{min_room, max_marks, max_nodes}
use Rattle.rule.specs.Rule.{support_marks, core_of, has_core, remainder, dropped, drop_marks, rest_of, inside, tried_exists, rest_calls, all_fit}
use Rattle.rule.proofs.Parts.{Core, Rest, rest-start_of, rest-dropped, step}
use Rattle.rule.proofs.Tests.{dropped-inside}
use Rattle.held.specs.Held.{Canonical, Tab, tree_in}
use Rattle.held.proofs.HeldLaws.{tab-of, tab-means, canonical_of}
use Rattle.dividing.specs.Dividing.{Inner, RestGiven}
use Rattle.dividing.proofs.FitLaws.{one-yes, one-no, all_cons}

-- ---- one mark: g is what is left so far, e is it without the mark
module _ (n room : ℕ) (f g e : Tree) where
  pub step_over : room < length (canon n e) → (w : List ℕ) (z : Option ℕ) → z ≡ None → RestGiven n room w (cond (inside e f) e g) (e ∷ []) z
  step_over h w z i = rw i (one-no n room e [] h)

  module _ (tried : List ℕ) (k : ℕ) (t : Tab n room tried k e) (v : Bool) (is : v ≡ inside (tree_in n tried k) f) where
    test : inside e f ≡ v
    test = sym (is ∙ ap (λ z. inside z f) (tab-means n room tried k e t))

    pub step_take : v ≡ true → (w : List ℕ) → Tab n room w k (tree_in n tried k) → Tab n room w k (cond (inside e f) e g) × (all_fit room n (e ∷ []) ≡ true)
    step_take h w s = rw (test ∙ h) (subst (Tab n room w k) (tab-means n room tried k e t) s, one-yes n room tried k e t)

    pub step_leave : v ≡ false → (w : List ℕ) (j : ℕ) → Tab n room w j g → Tab n room w j (cond (inside e f) e g) × (all_fit room n (e ∷ []) ≡ true)
    step_leave h w j s = rw (test ∙ h) (s, one-yes n room tried k e t)

-- ---- all marks of the core
-- what is left so far stands in the words, and what is still to be done with it is what was to be done at first
pub record RestInv (n room : ℕ) (f : Tree) (w : List ℕ) (k : ℕ) (xs : List ℕ) : Type 0 where
  pub stands : Canonical n room w k
  pub rest : Rest n f (core_of n f) (tree_in n w k)
  pub goes : drop_marks f (core_of n f) xs (tree_in n w k) ≡ drop_marks f (core_of n f) (support_marks n (core_of n f)) (remainder n f)
  pub calls : all_fit room n (tried_exists f (core_of n f) xs (tree_in n w k)) ≡ all_fit room n (rest_calls n f)

module _ (n room : ℕ) (f : Tree) (deep : Deep n f) (inner : Inner n f) (cases : ℕ) (count : cases ≡ case_count (core_of n f)) where
  core_is : Core n f (core_of n f)
  core_is = (step n f deep inner.some inner.part).core

  -- no core: the function is left
  pub none_left : cases ≡ 0 → (w : List ℕ) (k : ℕ) → Tab n room w k f → Tab n room w k (rest_of n f) × (all_fit room n (rest_calls n f) ≡ true)
  unfolding rest_of rest_calls has_core all_fit
  none_left h w k t = rw (le-ltb 0 (case_count (core_of n f)) (omega (arith, count))) (t, refl)

  module _ (ne : cases ≢ 0) where
    has : has_core n f ≡ true
    unfolding has_core
    has = lt-ltb 0 (case_count (core_of n f)) (omega (arith, count, ne))

    calls_is : all_fit room n (rest_calls n f) ≡ all_fit room n (remainder n f ∷ tried_exists f (core_of n f) (support_marks n (core_of n f)) (remainder n f))
    unfolding rest_calls
    calls_is = rw has refl

    pub left_over : (core : Tree) → core ≡ core_of n f → room < length (canon n (pointwise and_not f core)) → (w : List ℕ) (z : Option ℕ) → z ≡ None → RestGiven n room w (rest_of n f) (rest_calls n f) z
    unfolding remainder
    left_over core is h w z e = rw e (calls_is ∙ one-no n room (remainder n f) _ (rw (sym is) h))

    calls_left : all_fit room n (remainder n f ∷ []) ≡ true → all_fit room n (rest_calls n f) ≡ all_fit room n (tried_exists f (core_of n f) (support_marks n (core_of n f)) (remainder n f))
    calls_left h = calls_is ∙ all_cons room n (remainder n f) _ ∙ ap (λ v. v && all_fit room n (tried_exists f (core_of n f) (support_marks n (core_of n f)) (remainder n f))) h

    module _ (marks : n ≤ max_marks) (some : min_room ≤ room) (few : room ≤ max_nodes) where
      pub rest_start : (core : Tree) → core ≡ core_of n f → (w : List ℕ) (k : ℕ) → Tab n room w k (pointwise and_not f core) → (xs : List ℕ) → xs ≡ support_marks n core → RestInv n room f w k xs
      unfolding remainder
      rest_start core is w k t xs es =
          let tm : tree_in n w k ≡ remainder n f = tab-means n room w k _ t ∙ ap (pointwise and_not f) is in
          let e : xs ≡ support_marks n (core_of n f) = es ∙ ap (support_marks n) is in
          let c : Canonical n room w k = canonical_of n room w k _ t marks some few in
          record {
            stands = c;
            rest = subst (Rest n f (core_of n f)) (sym tm) (rest-start_of n f deep core_is);
            goes = rw (e, tm);
            calls = rw (e, tm) (sym (calls_left (one-yes n room w k (remainder n f) (subst (Tab n room w k) tm (tab-of n room w k c)))));
          }

      pub rest_end : (w : List ℕ) (k : ℕ) (xs : List ℕ) → xs ≡ [] → RestInv n room f w k xs → RestGiven n room w (rest_of n f) (rest_calls n f) (Some k)
      unfolding drop_marks tried_exists rest_of all_fit
      rest_end w k xs none inv =
          let z : tree_in n w k ≡ drop_marks f (core_of n f) (support_marks n (core_of n f)) (remainder n f) = rw none at inv.goes in
          let y : true ≡ all_fit room n (rest_calls n f) = rw none at inv.calls in
          (rw has (subst (Tab n room w k) z (tab-of n room w k inv.stands)), sym y)

      module _ (w : List ℕ) (k : ℕ) (xs : List ℕ) (inv : RestInv n room f w k xs) (m : ℕ) (next : List ℕ) (splits : xs ≡ m ∷ next) where
        abbrev g : Tree
        g = tree_in n w k

        abbrev after : Tree
        after = cond (inside (exists_mark m g) f) (exists_mark m g) g

        is_dropped : dropped f (core_of n f) m g ≡ after
        is_dropped = dropped-inside n f (core_of n f) g m deep core_is inv.rest

        left_calls : (v : Bool) → all_fit room n (exists_mark m g ∷ []) ≡ v → all_fit room n (rest_calls n f) ≡ v && all_fit room n (tried_exists f (core_of n f) next (dropped f (core_of n f) m g))
        unfolding tried_exists
        left_calls v e =
            sym inv.calls ∙ ap (λ ys. all_fit room n (tried_exists f (core_of n f) ys g)) splits ∙ all_cons room n (exists_mark m g) _
            ∙ ap (λ x. x && all_fit room n (tried_exists f (core_of n f) next (dropped f (core_of n f) m g))) e

        pub rest_again : (w' : List ℕ) (k' : ℕ) → RestGiven n room w' after (exists_mark m g ∷ []) (Some k') → RestInv n room f w' k' next
        unfolding drop_marks
        rest_again w' k' d =
            let tm : tree_in n w' k' ≡ dropped f (core_of n f) m g = tab-means n room w' k' after d.0 ∙ sym is_dropped in
            record {
              stands = canonical_of n room w' k' after d.0 marks some few;
              rest = rw tm (rest-dropped n f (core_of n f) m g inv.rest);
              goes = rw tm (sym (ap (λ ys. drop_marks f (core_of n f) ys g) splits) ∙ inv.goes);
              calls = rw tm (sym (left_calls true d.1));
            }

        pub rest_over : all_fit room n (exists_mark m g ∷ []) ≡ false → (w' : List ℕ) (z : Option ℕ) → z ≡ None → RestGiven n room w' (rest_of n f) (rest_calls n f) z
        rest_over d w' z e = rw e (left_calls false d)
