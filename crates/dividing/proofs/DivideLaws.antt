-- The three steps together.
use mathlib.Core.Path.{◌≡◌, refl, sym, ap, ap₂, ◌∙◌}
use mathlib.Core.Bool.{Bool, true, false, ◌&&◌}
use mathlib.Core.List.{List}
use Prim.Native.Nat.{ℕ, ◌+◌, ◌*◌}
use Rattle.std.specs.Prelude.{Option, Some, None}
use Rattle.theory.specs.Tree.{Tree, support_of}
use Rattle.theory.specs.Clause.{marks_of}
use Rattle.rule.specs.Rule.{support_marks, core_of, rest_of, mark_of, restrictions, for_alls, rest_calls, step_calls, all_fit}
use Rattle.held.specs.Held.{tree_in}
use Rattle.held.proofs.HeldLaws.{tab-means}
use Rattle.dividing.specs.declared.Core.{Core}
use Rattle.dividing.specs.declared.Least.{Least}
use Rattle.dividing.specs.declared.Parts.{Parts}
use Rattle.dividing.specs.Dividing.{Inner, CoreGiven, Coring, RestGiven, Picks, Divides}
use Rattle.dividing.proofs.FitLaws.{all_append}
use Rattle.dividing.proofs.MarkLaws.{pick_chosen}

module _ (n room : ℕ) (f : Tree) where
  three : all_fit room n (step_calls n f) ≡ all_fit room n (for_alls f (support_marks n f)) && (all_fit room n (rest_calls n f) && all_fit room n (restrictions (rest_of n f) (support_marks n f)))
  unfolding step_calls
  three = all_append room n (for_alls f (support_marks n f)) _ ∙ ap (λ v. all_fit room n (for_alls f (support_marks n f)) && v) (all_append room n (rest_calls n f) _)

  pub over_core : all_fit room n (for_alls f (support_marks n f)) ≡ false → (w v : List ℕ) (z : Option Parts) → z ≡ None → Divides n room f w v z
  over_core h w v z e = rw e (three ∙ ap (λ a. a && (all_fit room n (rest_calls n f) && all_fit room n (restrictions (rest_of n f) (support_marks n f)))) h)

  module _ (core : List ℕ) (best : Core) (a : CoreGiven n room core (core_of n f) (for_alls f (support_marks n f)) (Some best)) where
    pub coring : Inner n f → Coring n room f n room (tree_in n core best.count) best.cases
    coring i = record { inner = i; marks = refl; rooms = refl; is = tab-means n room core best.count (core_of n f) a.0; count = a.1 }

    none : (a b : Bool) → a && (false && b) ≡ false
    none true b = refl
    none false b = refl

    pub over_rest : all_fit room n (rest_calls n f) ≡ false → (w v : List ℕ) (z : Option Parts) → z ≡ None → Divides n room f w v z
    over_rest h w v z e =
        rw e (three
        ∙ ap (λ a. all_fit room n (for_alls f (support_marks n f)) && (a && all_fit room n (restrictions (rest_of n f) (support_marks n f)))) h
        ∙ none (all_fit room n (for_alls f (support_marks n f))) (all_fit room n (restrictions (rest_of n f) (support_marks n f))))

    module _ (rest : List ℕ) (k : ℕ) (b : RestGiven n room rest (rest_of n f) (rest_calls n f) (Some k)) (s : ℕ) (es : s ≡ support_of n f) where
      last : (a b : Bool) → a && (b && false) ≡ false
      last true true = refl
      last true false = refl
      last false b = refl

      pub over_mark : all_fit room n (restrictions (tree_in n rest k) (marks_of n s)) ≡ false → (w v : List ℕ) (z : Option Parts) → z ≡ None → Divides n room f w v z
      over_mark h w v z e =
          let i : all_fit room n (restrictions (rest_of n f) (support_marks n f)) ≡ false = rw (sym es, sym (tab-means n room rest k (rest_of n f) b.0)) h in
          rw e (three
          ∙ ap (λ a. all_fit room n (for_alls f (support_marks n f)) && (all_fit room n (rest_calls n f) && a)) i
          ∙ last (all_fit room n (for_alls f (support_marks n f))) (all_fit room n (rest_calls n f)))

      pub divided_into : (l : Least) → Picks n room (tree_in n rest k) (marks_of n s) 0 (2 * room + 1) (Some l) → Divides n room f core rest (Some (record { core = best.count; rest = k; mark = l.mark }))
      unfolding mark_of
      divided_into l c =
          let p : Picks n room (rest_of n f) (support_marks n f) 0 (2 * room + 1) (Some l) = rw (sym es, sym (tab-means n room rest k (rest_of n f) b.0)) c in (
            a.0,
            b.0,
            ap (λ z. z.0) p.0 ∙ pick_chosen room n (rest_of n f) (support_marks n f) p.1,
            three ∙ ap₂ (λ u v. u && v) a.2 (ap₂ (λ u v. u && v) b.1 p.1),
          )
