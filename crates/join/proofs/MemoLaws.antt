-- The memory: a store adds one entry to what its place held. The left node and the place tell the right node.
use mathlib.Core.Path.{◌≡◌, sym, ap, subst, ◌∙◌}
use mathlib.Core.Logic.{◌⊎◌, inl, inr}
use mathlib.Core.List.{List}
use Prim.Native.Nat.{ℕ, zero, suc, ◌+◌, ◌*◌, ◌/◌, ◌%◌, ◌-◌, ◌<◌, ◌≤◌}
use native.Mathlib.Omega.{arith}
use native.Mathlib.Nat.{div-add-mod', mul-le-mul_right, suc-mul, mod-lt}
use native.Mathlib.Decide.{ℕ_discrete, dec_lt}
use lib.ListN.{length, get_or, set, length-set}
use lib.Seq.{get_or-set_same, get_or-set_other}
use Rattle.refusal.specs.Limits.{max_nodes}
use Rattle.std.specs.List.{CopiedTo, SameBelow, SameFrom}
use Rattle.join.specs.Memo.{ways, slot_of, entry_of, Remembers, Stores}

-- a larger quotient is a whole divisor more
more : (q q' d : ℕ) → q < q' → q * d + d ≤ q' * d
more q q' d h = let e : suc q * d ≡ q * d + d = suc-mul q d in omega (arith, mul-le-mul_right d h)

mod_same : (c y y' d : ℕ) → y < d → y' < d → (c + y) % d ≡ (c + y') % d → y ≡ y'
mod_same c y y' d h h' e =
    let q = (c + y) / d in
    let q' = (c + y') / d in
    let a : q * d + (c + y) % d ≡ c + y = div-add-mod' (c + y) d in
    let a' : q' * d + (c + y') % d ≡ c + y' = div-add-mod' (c + y') d in
    elim (dec_lt q q') [
      | yes lt ↦ absurd (let z = more q q' d lt in let f : ⊥ = omega arith in f)
      | no ge ↦ elim (dec_lt q' q) [
        | yes lt ↦ absurd (let z = more q' q d lt in let f : ⊥ = omega arith in f)
        | no le ↦ let s : q ≡ q' = omega arith in let p : q * d ≡ q' * d = ap (λ (z : ℕ). z * d) s in omega arith
      ]
    ]

-- the entries of one place, moved up, and a new one before them
pub record Pushed (m m' : List ℕ) (f e : ℕ) : Type 0 where
  pub same_length : length m' ≡ length m
  pub first : get_or m' f 0 ≡ e
  pub moved : (i : ℕ) → suc i < ways → get_or m' (f + suc i) 0 ≡ get_or m (f + i) 0
  pub kept : (i : ℕ) → (i < f) ⊎ (f + 3 < i) → get_or m' i 0 ≡ get_or m i 0

pub pushed_at : (m m₁ : List ℕ) (f e end : ℕ) → f + 3 < length m → end ≡ f + 3 → length m₁ ≡ length m
    → CopiedTo m m₁ f (f + 1) (end - f) × SameBelow m m₁ (f + 1) × SameFrom m m₁ (f + 1 + (end - f)) → Pushed m (set m₁ f e) f e
pushed_at m m₁ f e end within last len c = record {
  same_length = length-set m₁ f e ∙ len;
  first = get_or-set_same m₁ f e 0 (omega arith);
  moved = λ i h.
      let at : f + (f + suc i - (f + 1)) ≡ f + i = omega arith in
      get_or-set_other m₁ f (f + suc i) e 0 (omega arith) ∙ c.0 (f + suc i) 0 (omega arith) (omega arith) ∙ ap (λ j. get_or m j 0) at;
  kept = λ i h. elim h [
    | inl lt ↦ get_or-set_other m₁ f i e 0 (omega arith) ∙ c.1 i 0 (omega arith)
    | inr gt ↦ get_or-set_other m₁ f i e 0 (omega arith) ∙ c.2 i 0 (omega arith)
  ];
}

pub slot-within : (sets x y : ℕ) → 0 < sets → slot_of sets x y < sets
unfolding slot_of
slot-within sets x y h = mod-lt (x * 40111 / 16 + y) h

pub room_within : (m : List ℕ) (x y : ℕ) → ways ≤ length m → ways * slot_of (length m / ways) x y + 3 < length m
room_within m x y h = omega (arith, slot-within (length m / ways) x y (omega arith))

-- the left node and the place tell the right node
slot-tells : (sets x y y' : ℕ) → y < sets → y' < sets → slot_of sets x y ≡ slot_of sets x y' → y ≡ y'
unfolding slot_of
slot-tells sets x y y' h h' e = mod_same (x * 40111 / 16) y y' sets h h' e

module _ (m : List ℕ) (x y r : ℕ) (long : ways ≤ length m) (small : r < max_nodes) (m' : List ℕ) (is : Pushed m m' (ways * slot_of (length m / ways) x y) (entry_of x r)) where
  abbrev sets : ℕ
  sets = length m / ways

  abbrev from : ℕ
  from = ways * slot_of sets x y

  stored : (x' y' r' way : ℕ) → y < sets → y' < sets → way < ways → r' < max_nodes → get_or m' (ways * slot_of sets x' y' + way) 0 ≡ entry_of x' r'
      → ((x' ≡ x) × (y' ≡ y) × (r' ≡ r)) ⊎ Remembers m x' y' r'
  stored x' y' r' way hy hy' hw hr e = elim (ℕ_discrete (slot_of sets x' y') (slot_of sets x y)) [
    | no d ↦ elim (dec_lt (slot_of sets x' y') (slot_of sets x y)) [
      | yes lt ↦ inr (record { way = way; within = hw; small = hr; entry = sym (there (inl (omega arith))) ∙ e })
      | no ge ↦ inr (record { way = way; within = hw; small = hr; entry = sym (there (inr (omega arith))) ∙ e })
    ]
    | yes d ↦ here way d hw e
  ]
    where
      there : (ways * slot_of sets x' y' + way < from) ⊎ (from + 3 < ways * slot_of sets x' y' + way) → get_or m' (ways * slot_of sets x' y' + way) 0 ≡ get_or m (ways * slot_of sets x' y' + way) 0
      there h = is.kept _ h

      here : (w : ℕ) → slot_of sets x' y' ≡ slot_of sets x y → w < ways → get_or m' (ways * slot_of sets x' y' + w) 0 ≡ entry_of x' r' → ((x' ≡ x) × (y' ≡ y) × (r' ≡ r)) ⊎ Remembers m x' y' r'
      here zero d h e =
          let z : ways * slot_of sets x' y' + 0 ≡ from = omega arith in
          let w : entry_of x r ≡ entry_of x' r' = sym (ap₂_at z) ∙ e in
          let ex : x' ≡ x = omega arith in
          inl (ex, sym (slot-tells sets x y y' hy hy' (sym d ∙ ap (λ z. slot_of sets z y') ex)), omega arith)
        where
          ap₂_at : ways * slot_of sets x' y' + 0 ≡ from → get_or m' (ways * slot_of sets x' y' + 0) 0 ≡ entry_of x r
          ap₂_at z = ap (λ i. get_or m' i 0) z ∙ is.first
      here (suc i) d h e =
          let z : ways * slot_of sets x' y' + suc i ≡ from + suc i = omega arith in
          let z' : ways * slot_of sets x' y' + i ≡ from + i = omega arith in
          inr (record {
            way = i;
            within = omega arith;
            small = hr;
            entry =
                ap (λ j. get_or m j 0) z'
                ∙ sym (ap (λ j. get_or m' j 0) z ∙ is.moved i h)
                ∙ e;
          })

  pub stores : Stores m m' x y r
  stores x' y' r' hy hy' h =
      stored x' y' r' h.way hy hy' h.within h.small (ap (λ d. get_or m' (ways * slot_of (d / ways) x' y' + h.way) 0) (sym is.same_length) ∙ h.entry)

-- the same, with the place at hand
pub stores_at : (m : List ℕ) (x y r slot : ℕ) → slot ≡ slot_of (length m / ways) x y → ways ≤ length m → r < max_nodes → (m' : List ℕ) → Pushed m m' (ways * slot) (entry_of x r) → Stores m m' x y r
stores_at m x y r slot e long small m' is = stores m x y r long small m' (subst (λ f. Pushed m m' (ways * f) (entry_of x r)) e is)

-- an entry that has the pair's tag
pub recalled : (m : List ℕ) (x y i slot : ℕ) → slot ≡ slot_of (length m / ways) x y → i < ways → get_or m (ways * slot + i) 0 / max_nodes ≡ x + 1
    → Remembers m x y (get_or m (ways * slot + i) 0 % max_nodes)
recalled m x y i slot is h e = record {
  way = i;
  within = h;
  small = omega arith;
  entry = ap (λ f. get_or m (ways * f + i) 0) (sym is) ∙ (omega arith);
}
