-- One clause more in the output.
use mathlib.Core.Path.{◌≡◌, refl, sym, ap, ◌∙◌}
use mathlib.Core.List.{List, [], ◌∷◌, ◌++◌}
use Prim.Native.Nat.{ℕ, zero, suc, ◌+◌, ◌*◌, ◌≤◌, ◌<◌}
use native.Mathlib.Omega.{arith}
use lib.ListN.{length, take, set, length-set, length-append}
use Rattle.theory.specs.Clause.{Clause}
use Rattle.listing.specs.Listed.{clause_words, capacity}
use Rattle.solving.specs.Solving.{Pushes}

two-more : (n : ℕ) (l : List ℕ) (a b : ℕ) → n + 2 ≤ length l → take (suc (suc n)) (set (set l n a) (suc n) b) ≡ take n l ++ (a ∷ b ∷ [])
two-more n [] a b h = absurd (let z : ⊥ = omega arith in z)
two-more zero (x ∷ []) a b h = absurd (let z : ⊥ = omega arith in z)
two-more zero (x ∷ y ∷ l) a b h = refl
two-more (suc n) (x ∷ l) a b h = ap (λ (z : List ℕ). x ∷ z) (two-more n l a b (omega arith))

words_append : (ys zs : List Clause) → clause_words (ys ++ zs) ≡ clause_words ys ++ clause_words zs
unfolding clause_words
words_append [] zs = refl
words_append (y ∷ ys) zs = ap (λ (l : List ℕ). y.fixed ∷ y.values ∷ l) (words_append ys zs)

-- nothing is written once the output is full
pub push_full : (out : List ℕ) (k : ℕ) (y : Clause) → capacity out < k → k ≤ capacity out + 1 → Pushes out out k y k
push_full out k y h i = λ ys o. record {
  count = omega (arith, o.count, length-append ys (y ∷ []));
  words = λ e. absurd (let z : ⊥ = omega (arith, o.count, length-append ys (y ∷ [])) in z);
}

pub push_last : (out : List ℕ) (k : ℕ) (y : Clause) → k ≡ capacity out → Pushes out out k y (k + 1)
push_last out k y h = λ ys o. record {
  count = omega (arith, o.count, length-append ys (y ∷ []));
  words = λ e. absurd (let z : ⊥ = omega (arith, o.count, length-append ys (y ∷ [])) in z);
}

pub push_more : (out : List ℕ) (k : ℕ) (y : Clause) → k < capacity out → Pushes out (set (set out (2 * k) y.fixed) (2 * k + 1) y.values) k y (k + 1)
unfolding clause_words
push_more out k y h = λ ys o.
    let l : length (set (set out (2 * k) y.fixed) (2 * k + 1) y.values) ≡ length out = length-set (set out (2 * k) y.fixed) (2 * k + 1) y.values ∙ length-set out (2 * k) y.fixed in
    let e : 2 * (k + 1) ≡ suc (suc (2 * k)) = omega arith in
    let d : 2 * k + 1 ≡ suc (2 * k) = omega arith in
    record {
      count = omega (arith, o.count, length-append ys (y ∷ []), l);
      words = λ i. rw (e, d) (two-more (2 * k) out y.fixed y.values (omega arith)
          ∙ ap (λ (z : List ℕ). z ++ (y.fixed ∷ y.values ∷ [])) (o.words (omega (arith, o.count))) ∙ sym (words_append ys (y ∷ [])));
    }
