-- The first case that two functions tell apart, in the order that compares mark 0 first.
use mathlib.Core.Path.{◌≡◌, refl, sym, ap, ◌∙◌}
use mathlib.Core.Logic.{◌≢◌, ◌⊎◌, inl, inr}
use mathlib.Core.Bool.{Bool, true, false, cond, ◌&&◌, beq, true≢false}
use Prim.Native.Nat.{ℕ, zero, suc, ◌+◌, ◌*◌, ◌^◌, ◌<◌}
use native.Mathlib.Omega.{arith}
use Rattle.theory.specs.Tree.{Tree, leaf, fork, Deep, look, same_tree}
use Rattle.theory.proofs.Cases.{odd_even, odd-odd, half-even, half-odd, look-even, look-odd, by_bit}
use Rattle.theory.proofs.Support.{same_equal}
use Rattle.cover.specs.Cover.{earlier, first_differing}

-- c is a case of k marks of which f and g say different things, and they say the same of every case before it
pub record First (k : ℕ) (f g : ℕ → Bool) (c : ℕ) : Type 0 where
  pub small : c < 2 ^ k
  pub differ : f c ≢ g c
  pub before : (d : ℕ) → d < 2 ^ k → earlier k d c ≡ true → f d ≡ g d

-- mark 0 is compared first: the case of mark 1 alone, the number 2, comes before that of mark 0 alone, the number 1
pub mark-zero-first : earlier 2 2 1 ≡ true
unfolding earlier
mark-zero-first = refl

-- ---- the order, by the bit of the first mark
module _ (k c d : ℕ) where
  earlier-low : earlier (suc k) (2 * c) (2 * d) ≡ earlier k c d
  unfolding earlier
  earlier-low = rw (odd_even c, odd_even d, half-even c, half-even d)

  earlier-high : earlier (suc k) (2 * c + 1) (2 * d + 1) ≡ earlier k c d
  unfolding earlier
  earlier-high = rw (odd-odd c, odd-odd d, half-odd c, half-odd d)

  earlier_up : earlier (suc k) (2 * c) (2 * d + 1) ≡ true
  unfolding earlier
  earlier_up = rw (odd_even c, odd-odd d)

  earlier-down : earlier (suc k) (2 * c + 1) (2 * d) ≡ false
  unfolding earlier
  earlier-down = rw (odd-odd c, odd_even d)

-- of two cases one comes first
abbrev Told : ℕ → ℕ → ℕ → Type 0
Told k c d = (c ≡ d) ⊎ ((earlier k c d ≡ true) ⊎ (earlier k d c ≡ true))

pub told : (k c d : ℕ) → c < 2 ^ k → d < 2 ^ k → Told k c d
told zero c d h i = inl (omega arith)
told (suc k) c d h i =
    by_bit (λ c. c < 2 ^ suc k → Told (suc k) c d)
    (λ c. by_bit (λ d. d < 2 ^ suc k → 2 * c < 2 ^ suc k → Told (suc k) (2 * c) d) (λ d i h. low c d (told k c d (omega arith) (omega arith))) (λ d i h. inr (inl (earlier_up k c d))) d i)
    (λ c. by_bit (λ d. d < 2 ^ suc k → 2 * c + 1 < 2 ^ suc k → Told (suc k) (2 * c + 1) d) (λ d i h. inr (inr (earlier_up k d c))) (λ d i h. high c d (told k c d (omega arith) (omega arith))) d i)
    c h
  where
    low : (c d : ℕ) → Told k c d → Told (suc k) (2 * c) (2 * d)
    low c d (inl e) = inl (ap (λ x. 2 * x) e)
    low c d (inr (inl e)) = inr (inl (earlier-low k c d ∙ e))
    low c d (inr (inr e)) = inr (inr (earlier-low k d c ∙ e))

    high : (c d : ℕ) → Told k c d → Told (suc k) (2 * c + 1) (2 * d + 1)
    high c d (inl e) = inl (ap (λ x. 2 * x + 1) e)
    high c d (inr (inl e)) = inr (inl (earlier-high k c d ∙ e))
    high c d (inr (inr e)) = inr (inr (earlier-high k d c ∙ e))

-- so there is one first case at most
pub first_one : (k : ℕ) (f g : ℕ → Bool) (c d : ℕ) → First k f g c → First k f g d → c ≡ d
first_one k f g c d a b = elim (told k c d a.small b.small) [
  | inl e ↦ e
  | inr e ↦ elim e [
    | inl h ↦ absurd (a.differ (b.before c a.small h))
    | inr h ↦ absurd (b.differ (a.before d b.small h))
  ]
]

-- ---- the descent
module _ (k : ℕ) (lo hi lo' hi' : Tree) where
  go_low : (c : ℕ) → First k (look lo) (look lo') c → First (suc k) (look (fork lo hi)) (look (fork lo' hi')) (2 * c)
  go_low c f = record {
    small = omega (arith, f.small);
    differ = λ e. f.differ (sym (look-even lo hi c) ∙ e ∙ look-even lo' hi' c);
    before =
        by_bit (λ d. d < 2 ^ suc k → earlier (suc k) d (2 * c) ≡ true → look (fork lo hi) d ≡ look (fork lo' hi') d)
        (λ d h e. look-even lo hi d ∙ f.before d (omega arith) (sym (earlier-low k d c) ∙ e) ∙ sym (look-even lo' hi' d))
        (λ d h e. absurd (true≢false (sym e ∙ earlier-down k d c)));
  }

  go_high : lo ≡ lo' → (c : ℕ) → First k (look hi) (look hi') c → First (suc k) (look (fork lo hi)) (look (fork lo' hi')) (2 * c + 1)
  go_high same c f = record {
    small = omega (arith, f.small);
    differ = λ e. f.differ (sym (look-odd lo hi c) ∙ e ∙ look-odd lo' hi' c);
    before =
        by_bit (λ d. d < 2 ^ suc k → earlier (suc k) d (2 * c + 1) ≡ true → look (fork lo hi) d ≡ look (fork lo' hi') d)
        (λ d h e. look-even lo hi d ∙ ap (λ t. look t d) same ∙ sym (look-even lo' hi' d))
        (λ d h e. look-odd lo hi d ∙ f.before d (omega arith) (sym (earlier-high k d c) ∙ e) ∙ sym (look-odd lo' hi' d));
  }

leaf_first : (a b : Bool) → beq a b ≡ false → First 0 (look (leaf a)) (look (leaf b)) 0
unfolding look earlier
leaf_first a b e = record { small = omega arith; differ = differ a b e; before = λ d h z. absurd (true≢false (sym z)) }
  where
    differ : (a b : Bool) → beq a b ≡ false → a ≢ b
    differ true true e d = true≢false e
    differ true false e d = true≢false d
    differ false true e d = true≢false (sym d)
    differ false false e d = true≢false e

-- functions that are not the same are first told apart there
pub first-is : (k : ℕ) (t u : Tree) → Deep k t → Deep k u → same_tree t u ≡ false → First k (look t) (look u) (first_differing t u)
unfolding same_tree first_differing
first-is zero (leaf a) (leaf b) d d' e = leaf_first a b e
first-is zero (leaf a) (fork lo hi) d d' e = absurd d'
first-is zero (fork lo hi) u d d' e = absurd d
first-is (suc k) (leaf a) u d d' e = absurd d
first-is (suc k) (fork lo hi) (leaf b) d d' e = absurd d'
first-is (suc k) (fork lo hi) (fork lo' hi') d d' e =
    (elim (same_tree lo lo') as (λ v. same_tree lo lo' ≡ v → v && same_tree hi hi' ≡ false → First (suc k) (look (fork lo hi)) (look (fork lo' hi')) (cond v (2 * first_differing hi hi' + 1) (2 * first_differing lo lo'))) [
      | true ↦ λ l h. go_high k lo hi lo' hi' (same_equal lo lo' l) (first_differing hi hi') (first-is k hi hi' d.1 d'.1 h)
      | false ↦ λ l h. go_low k lo hi lo' hi' (first_differing lo lo') (first-is k lo lo' d.0 d'.0 l)
    ]) refl e

-- functions that say the same of every case
pub first-same : (k : ℕ) (f g f' g' : ℕ → Bool) → ((c : ℕ) → c < 2 ^ k → f c ≡ f' c) → ((c : ℕ) → c < 2 ^ k → g c ≡ g' c) → (c : ℕ) → First k f g c → First k f' g' c
first-same k f g f' g' a b c h = record {
  small = h.small;
  differ = λ e. h.differ (a c h.small ∙ e ∙ sym (b c h.small));
  before = λ d l e. sym (a d l) ∙ h.before d l e ∙ b d l;
}
