-- The whole short list: solved, and trimmed.
use mathlib.Core.Path.{◌≡◌, refl, subst, ◌∙◌}
use mathlib.Core.Bool.{Bool, true, false}
use mathlib.Core.List.{List, [], ◌∷◌, map}
use Prim.Native.Nat.{ℕ, ◌+◌, ◌*◌, ◌≤◌, ◌<◌}
use native.Mathlib.Omega.{arith}
use native.Mathlib.Nat.{mul-le-mul_left}
use lib.ListN.{length}
use Rattle.std.specs.Prelude.{Ok, Err}
use Rattle.std.proofs.lemmas.List.{length-map}
use Rattle.theory.specs.Tree.{Tree}
use Rattle.theory.specs.Clause.{Clause, clause, empty_clause}
use Rattle.theory.specs.Words.{stride}
use Rattle.rule.specs.Rule.{support_marks, solved, cleared, spare, trimmed_by, trimmed, short_list, called, all_fit, short_fits}
use Rattle.rule.proofs.Needs.{need, need-le}
use Rattle.rule.proofs.Holding.{either}
use Rattle.held.specs.Held.{Tab}
use Rattle.listing.specs.Listed.{clause_words, capacity}
use Rattle.dividing.proofs.FitLaws.{fits-yes}
use Rattle.solving.specs.Solving.{Out, Listed}
use Rattle.trimming.specs.declared.Excess.TheVariants.{Nodes, Clauses}
use Rattle.trimming.specs.Trimming.{Trims, Shortens}

-- trimming keeps the number of clauses
trimmed-long : (f : Tree) (xs : List ℕ) (ys : List Clause) → length (trimmed f xs ys) ≡ length ys
unfolding trimmed trimmed_by
trimmed-long f [] ys = refl
trimmed-long f (x ∷ xs) ys =
    trimmed-long f xs _
    ∙ either (λ zs. length zs ≡ length ys) (spare f x false) (map (cleared x false) ys) _ (length-map ys (cleared x false))
    (either (λ zs. length zs ≡ length ys) (spare f x true) (map (cleared x true) ys) ys (length-map ys (cleared x true)) refl)

none_is : clause 0 0 ≡ empty_clause
unfolding empty_clause
none_is = refl

-- no mark is needed twice
pub deep_enough : (n room l : ℕ) (f : Tree) → 3 * (stride * room) * n ≤ l → 3 * (stride * room) * need n f ≤ l
deep_enough n room l f h = omega (arith, h, mul-le-mul_left {m = need n f} {n = n} (3 * (stride * room)) (need-le n f))

module _ (n room : ℕ) (w : List ℕ) (j : ℕ) (f : Tree) (t : Tab n room w j f) (out : List ℕ) where
  start_out : Out out 0 []
  unfolding clause_words
  start_out = record { count = omega arith; words = λ h. refl }

  own_fits : (v : Bool) → all_fit room n (called (n + 1) n f) ≡ v → short_fits room n f ≡ v
  unfolding short_fits all_fit
  own_fits v e = rw (fits-yes n room w j f t) e

  pub list_nodes : all_fit room n (called (n + 1) n f) ≡ false → (out₁ : List ℕ) → Shortens n room f out₁ (Err Nodes)
  list_nodes e out₁ = own_fits false e

  module _ (known out₁ : List ℕ) (k : ℕ) (l : Listed n room f (clause 0 0) 0 known out out₁ k) where
    written : Out out₁ k (solved (n + 1) n f empty_clause)
    written = subst (λ y. Out out₁ k (solved (n + 1) n f y)) none_is (l.written [] start_out)

    pub list_over : capacity out₁ < k → Shortens n room f out₁ (Err Clauses)
    unfolding short_list
    list_over h = (own_fits true l.fits, omega (arith, written.count, trimmed-long f (support_marks n f) (solved (n + 1) n f empty_clause)))

    pub list_done : k ≤ capacity out₁ → (out₂ : List ℕ) → length out₂ ≡ length out₁ → Trims n f out₁ out₂ k → Shortens n room f out₂ (Ok k)
    unfolding short_list
    list_done h out₂ lo s = (
      own_fits true l.fits,
      omega arith,
      s (solved (n + 1) n f empty_clause) (record { number = omega (arith, written.count); words = written.words (omega (arith, written.count)) }),
    )
