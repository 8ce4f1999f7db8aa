-- Literals cleared from the clauses in the output, one clause after another.
use mathlib.Core.Path.{◌≡◌, refl, sym, ap, ap₂, ◌∙◌}
use mathlib.Core.Bool.{Bool}
use mathlib.Core.List.{List, [], ◌∷◌, map}
use Prim.Native.Nat.{ℕ, zero, suc, ◌+◌, ◌*◌, ◌<◌}
use native.Mathlib.Omega.{arith}
use lib.ListN.{length, take, set, get_or}
use Rattle.theory.specs.Clause.{Clause, clause}
use Rattle.rule.specs.Rule.{cleared}
use Rattle.listing.specs.Listed.{clause_words}
use Rattle.trimming.specs.Trimming.{Says, cleared_to, Clears}

-- ---- all of them
twice : ℕ → ℕ
twice zero = zero
twice (suc i) = suc (suc (twice i))

twice-is : (i : ℕ) → 2 * i ≡ twice i
unfolding twice
twice-is zero = refl
twice-is (suc i) = omega (arith, twice-is i)

next-is : (i : ℕ) → 2 * i + 1 ≡ suc (twice i)
next-is i = omega (arith, twice-is i)

write_one : (x : ℕ) (b : Bool) (i k : ℕ) (out : List ℕ) (ys : List Clause) → length ys ≡ k → i < k → take (twice k) out ≡ clause_words (cleared_to x b i ys)
    → (z : Clause) → z ≡ cleared x b (clause (get_or out (twice i) 0) (get_or out (suc (twice i)) 0))
    → take (twice k) (set (set out (twice i) z.fixed) (suc (twice i)) z.values) ≡ clause_words (cleared_to x b (suc i) ys)
unfolding cleared_to clause_words twice
write_one x b i zero out ys l h e z d = absurd (let o : ⊥ = omega arith in o)
write_one x b i (suc k) out [] l h e z d = absurd (let o : ⊥ = omega arith in o)
write_one x b zero (suc k) [] (y ∷ ys) l h e z d = absurd (let o : ◌≡◌ {A = ℕ} 0 2 = ap (λ (v : List ℕ). length (take 2 v)) e in omega arith)
write_one x b zero (suc k) (a ∷ []) (y ∷ ys) l h e z d = absurd (let o : ◌≡◌ {A = ℕ} 1 2 = ap (λ (v : List ℕ). length (take 2 v)) e in omega arith)
write_one x b zero (suc k) (a ∷ c ∷ out) (y ∷ ys) l h e z d =
    let p : a ≡ y.fixed = cc in
    let q : c ≡ y.values = cc in
    let t : take (twice k) out ≡ clause_words ys = cc in
    let s : z ≡ cleared x b y = d ∙ ap₂ (λ u v. cleared x b (clause u v)) p q in
    ap₂ (λ (u : Clause) (v : List ℕ). u.fixed ∷ u.values ∷ v) s t
write_one x b (suc i) (suc k) [] (y ∷ ys) l h e z d = absurd (let o : ◌≡◌ {A = ℕ} 0 2 = ap (λ (v : List ℕ). length (take 2 v)) e in omega arith)
write_one x b (suc i) (suc k) (a ∷ []) (y ∷ ys) l h e z d = absurd (let o : ◌≡◌ {A = ℕ} 1 2 = ap (λ (v : List ℕ). length (take 2 v)) e in omega arith)
write_one x b (suc i) (suc k) (a ∷ c ∷ out) (y ∷ ys) l h e z d =
    let p : a ≡ (cleared x b y).fixed = cc in
    let q : c ≡ (cleared x b y).values = cc in
    let t : take (twice k) out ≡ clause_words (cleared_to x b i ys) = cc in
    let m : length ys ≡ k = omega arith in
    ap₂ (λ (u : ℕ × ℕ) (v : List ℕ). u.0 ∷ u.1 ∷ v) (ap₂ (λ u v. (u, v)) p q) (write_one x b i k out ys m (omega arith) t z d)

clear-end : (x : ℕ) (b : Bool) (ys : List Clause) → cleared_to x b (length ys) ys ≡ map (cleared x b) ys
unfolding cleared_to
clear-end x b [] = refl
clear-end x b (y ∷ ys) = ap (λ (l : List Clause). cleared x b y ∷ l) (clear-end x b ys)

cleared-long : (x : ℕ) (b : Bool) (i : ℕ) (ys : List Clause) → length (cleared_to x b i ys) ≡ length ys
unfolding cleared_to
cleared-long x b zero ys = refl
cleared-long x b (suc i) [] = refl
cleared-long x b (suc i) (y ∷ ys) = ap suc (cleared-long x b i ys)

-- the first i clauses are done
abbrev pub Cleared : List ℕ → List ℕ → ℕ → ℕ → Bool → ℕ → Type 0
Cleared out₀ out k x b i = (ys : List Clause) → Says out₀ k ys → Says out k (cleared_to x b i ys)

pub clear_start : (out : List ℕ) (k x : ℕ) (b : Bool) → Cleared out out k x b 0
unfolding cleared_to
clear_start out k x b ys s = s

pub clear_next : (out₀ out : List ℕ) (k x : ℕ) (b : Bool) (i : ℕ) → i < k → Cleared out₀ out k x b i → (z : Clause) → z ≡ cleared x b (clause (get_or out (2 * i) 0) (get_or out (2 * i + 1) 0))
    → Cleared out₀ (set (set out (2 * i) z.fixed) (2 * i + 1) z.values) k x b (i + 1)
clear_next out₀ out k x b i h done z d ys s =
    let n : i + 1 ≡ suc i = omega arith in
    let a : Says out k (cleared_to x b i ys) = done ys s in
    let c : z ≡ cleared x b (clause (get_or out (twice i) 0) (get_or out (suc (twice i)) 0)) = d ∙ ap₂ (λ u v. cleared x b (clause (get_or out u 0) (get_or out v 0))) (twice-is i) (next-is i) in
    let t : take (twice k) out ≡ clause_words (cleared_to x b i ys) = ap (λ (u : ℕ). take u out) (sym (twice-is k)) ∙ a.words in
    record {
      number = ap (λ j. length (cleared_to x b j ys)) n ∙ cleared-long x b (suc i) ys ∙ s.number;
      words = ap₂ (λ (u : ℕ) (v : List ℕ). take u v) (twice-is k) (ap₂ (λ (u v : ℕ). set (set out u z.fixed) v z.values) (twice-is i) (next-is i))
          ∙ write_one x b i k out ys s.number h t z c ∙ ap (λ j. clause_words (cleared_to x b j ys)) (sym n);
    }

pub clear-done : (out₀ out : List ℕ) (k x : ℕ) (b : Bool) (i : ℕ) → i ≡ k → Cleared out₀ out k x b i → Clears out₀ out k x b
clear-done out₀ out k x b i h done ys s =
    let a : Says out k (cleared_to x b i ys) = done ys s in
    let e : cleared_to x b i ys ≡ map (cleared x b) ys = ap (λ j. cleared_to x b j ys) (let z : i ≡ length ys = omega (arith, s.number) in z) ∙ clear-end x b ys in
    record { number = ap length (sym e) ∙ a.number; words = a.words ∙ ap clause_words e }
