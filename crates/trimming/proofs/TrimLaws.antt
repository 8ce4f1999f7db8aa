-- Trimming: one mark, and the loop over the support.
use mathlib.Core.Path.{◌≡◌, sym, ap, subst, ◌∙◌}
use mathlib.Core.Bool.{Bool, true, false}
use mathlib.Core.List.{List, [], ◌∷◌}
use Prim.Native.Nat.{ℕ, ◌<◌}
use Rattle.theory.specs.Tree.{Tree, support_of}
use Rattle.theory.specs.Clause.{Clause}
use Rattle.std.specs.List.{All}
use Rattle.std.proofs.lemmas.List.Elements.{All-head, All-rest}
use Rattle.valuation.proofs.MarkLaws.{marks_below}
use Rattle.rule.specs.Rule.{support_marks, spare, trimmed_by, trimmed}
use Rattle.trimming.specs.Trimming.{Says, Clears, TrimsBy, Trims}

-- ---- one mark
module _ (f : Tree) (x k : ℕ) (out : List ℕ) where
  pub positive : (a : Bool) → a ≡ spare f x false → a ≡ true → (out' : List ℕ) → Clears out out' k x false → TrimsBy f out out' x k
  unfolding trimmed_by
  positive a e t out' c ys s = rw (sym e ∙ t) (c ys s)

  pub negative : (a : Bool) → a ≡ spare f x false → a ≡ false → (b : Bool) → b ≡ spare f x true → b ≡ true → (out' : List ℕ) → Clears out out' k x true → TrimsBy f out out' x k
  unfolding trimmed_by
  negative a e t b d u out' c ys s = rw (sym e ∙ t, sym d ∙ u) (c ys s)

  pub neither : (a : Bool) → a ≡ spare f x false → a ≡ false → (b : Bool) → b ≡ spare f x true → b ≡ false → TrimsBy f out out x k
  unfolding trimmed_by
  neither a e t b d u ys s = rw (sym e ∙ t, sym d ∙ u) s

-- ---- all marks
-- the clauses as they are, from which the marks that are left lead to the whole trimming
pub record Trimming (n : ℕ) (f : Tree) (out : List ℕ) (k : ℕ) (xs : List ℕ) (ys : List Clause) : Type 0 where
  pub clauses : List Clause
  pub says : Says out k clauses
  pub goes : trimmed f xs clauses ≡ trimmed f (support_marks n f) ys

pub record TrimInv (n : ℕ) (f : Tree) (out₀ out : List ℕ) (k : ℕ) (xs : List ℕ) : Type 0 where
  pub below : All (λ m. m < n) xs
  pub now : (ys : List Clause) → Says out₀ k ys → Trimming n f out k xs ys

module _ (n : ℕ) (f : Tree) (k : ℕ) (out : List ℕ) where
  pub trim_start : (xs : List ℕ) → xs ≡ support_marks n f → TrimInv n f out out k xs
  trim_start xs e = record { below = rw e (marks_below n (support_of n f)); now = λ ys a. record { clauses = ys; says = a; goes = rw e } }

  pub trim_mark-lt : (out₁ : List ℕ) (xs : List ℕ) → TrimInv n f out out₁ k xs → (m : ℕ) (next : List ℕ) → xs ≡ m ∷ next → m < n
  trim_mark-lt out₁ xs inv m next e = All-head (λ i. i < n) m next (rw e at inv.below)

  pub trim_next : (out₁ : List ℕ) (xs : List ℕ) → TrimInv n f out out₁ k xs → (m : ℕ) (next : List ℕ) → xs ≡ m ∷ next → (out₂ : List ℕ) → TrimsBy f out₁ out₂ m k → TrimInv n f out out₂ k next
  unfolding trimmed
  trim_next out₁ xs inv m next e out₂ t =
      record {
        below = All-rest (λ i. i < n) m next xs e inv.below;
        now = λ ys a.
            let b : Trimming n f out₁ k xs ys = inv.now ys a in
            record { clauses = trimmed_by f m b.clauses; says = t b.clauses b.says; goes = sym (ap (λ zs. trimmed f zs b.clauses) e) ∙ b.goes };
      }

  pub trim_end : (out₁ : List ℕ) (xs : List ℕ) → xs ≡ [] → TrimInv n f out out₁ k xs → Trims n f out out₁ k
  unfolding trimmed
  trim_end out₁ xs none inv ys a =
      let b : Trimming n f out₁ k xs ys = inv.now ys a in
      let e : b.clauses ≡ trimmed f (support_marks n f) ys = rw none at b.goes in
      subst (λ zs. Says out₁ k zs) e b.says
