-- Laws of clauses: well-formed ones, their cells, and when one extends another.
use mathlib.Core.Path.{◌≡◌, refl, sym, ap, ◌∙◌}
use mathlib.Core.Logic.{◌≢◌}
use mathlib.Core.Bool.{Bool, true, false, cond, not, ◌||◌, ◌&&◌, beq}
use mathlib.Core.Option.{Option, none, some}
use Prim.Native.Nat.{ℕ, zero, suc, ◌^◌, ◌≤◌, ◌<◌}
use native.Mathlib.Omega.{arith}
use native.Mathlib.Decide.{ℕ_discrete, dec_lt}
use lib.Dec.{eqb}
use lib.Bits.{bit_and, bit_or, or_add_and, and_le_l, or_lt, and_lt}
use lib.Pow.{pow_pos}
use borrow.Author.Tests.{eq-eqb, ne_eqb, le-leb, lt-leb}
use Rattle.theory.specs.Mask.{bit, set_bit}
use Rattle.theory.specs.Clause.{Clause, WellFormed, malformed, cell, empty_clause, set_cell, unset_cell, agreeing, extending}
use Rattle.theory.proofs.Truths.{clash, and_true}
use Rattle.theory.proofs.Masks.{bit-and, bit-or, bit-zero, bit_ext, bit-set_bit, set_bit-lt}

-- ---- malformed

pub malformed-high : (n f v : ℕ) → 2 ^ n ≤ f → malformed n f v ≡ true
unfolding malformed
malformed-high n f v h = rw (le-leb (2 ^ n) f h)

pub malformed-low : (n f v : ℕ) → f < 2 ^ n → malformed n f v ≡ not (eqb (bit_or f v) f)
unfolding malformed
malformed-low n f v h = rw (lt-leb (2 ^ n) f h)

or-inside : (f v : ℕ) → bit_or f v ≡ f → bit_and f v ≡ v
or-inside f v e = omega (arith, or_add_and f v)

pub formed : (n : ℕ) (c : Clause) → malformed n c.fixed c.values ≡ false → WellFormed n c
formed n c e = elim (dec_lt c.fixed (2 ^ n)) [
  | no h ↦ absurd (clash (malformed-high n c.fixed c.values (omega arith)) e)
  | yes h ↦ elim (ℕ_discrete (bit_or c.fixed c.values) c.fixed) [
    | no o ↦ absurd (clash (malformed-low n c.fixed c.values h ∙ ap not (ne_eqb _ c.fixed o)) e)
    | yes o ↦
        let a : bit_and c.fixed c.values ≡ c.values = or-inside c.fixed c.values o in
        record {
          small = h;
          small-values = omega (arith, and_le_l c.fixed c.values);
          inside = λ i d. ap (bit i) (sym a) ∙ bit-and i c.fixed c.values ∙ ap (λ t. t && bit i c.values) d;
        }
  ]
]

-- and the other way round
pub not-malformed : (n : ℕ) (c : Clause) → WellFormed n c → malformed n c.fixed c.values ≡ false
not-malformed n c w =
    malformed-low n c.fixed c.values w.small
    ∙ ap not (eq-eqb (bit_or c.fixed c.values) c.fixed (bit_ext n (bit_or c.fixed c.values) c.fixed (or_lt n c.fixed c.values w.small w.small-values) w.small
    (λ i d. bit-or i c.fixed c.values ∙ covered (bit i c.fixed) (bit i c.values) (w.inside i))))
  where
    covered : (f v : Bool) → (f ≡ false → v ≡ false) → f || v ≡ f
    covered true v h = refl
    covered false v h = h refl

-- ---- cells

pub empty-formed : (n : ℕ) → WellFormed n empty_clause
unfolding empty_clause
empty-formed n = record { small = pow_pos n; small-values = pow_pos n; inside = λ i d. bit-zero i }

-- a cell written anew: set to a value, or unset
abbrev written : Clause → ℕ → Bool → Bool → Clause
written c m f v = record { fixed = set_bit m f c.fixed; values = set_bit m v c.values }

written-formed : (n : ℕ) (c : Clause) (m : ℕ) (f v : Bool) → (f ≡ false → v ≡ false) → m < n → WellFormed n c → WellFormed n (written c m f v)
written-formed n c m f v inside h w = record {
  small = set_bit-lt n m f c.fixed h w.small;
  small-values = set_bit-lt n m v c.values h w.small-values;
  inside = λ i d. bit-set_bit i m v c.values ∙ kept (eqb i m) (bit i c.fixed) (bit i c.values) (sym (bit-set_bit i m f c.fixed) ∙ d) (w.inside i);
}
  where
    kept : (t g y : Bool) → cond t f g ≡ false → (g ≡ false → y ≡ false) → cond t v y ≡ false
    kept true g y e a = inside e
    kept false g y e a = a e

cell-written : (c : Clause) (m : ℕ) (f v : Bool) (k : ℕ) → cell (written c m f v) k ≡ cond (eqb k m) (cond f (some v) none) (cell c k)
unfolding cell
cell-written c m f v k = rw (bit-set_bit k m f c.fixed, bit-set_bit k m v c.values) (split (eqb k m))
  where
    split : (t : Bool) → cond (cond t f (bit k c.fixed)) (some (cond t v (bit k c.values))) none ≡ cond t (cond f (some v) none) (cond (bit k c.fixed) (some (bit k c.values)) none)
    split true = refl
    split false = refl

pub set-formed : (n : ℕ) (c : Clause) (m : ℕ) (b : Bool) → m < n → WellFormed n c → WellFormed n (set_cell c m b)
unfolding set_cell
set-formed n c m b = written-formed n c m true b (λ e. absurd (clash refl e))

pub unset_formed : (n : ℕ) (c : Clause) (m : ℕ) → m < n → WellFormed n c → WellFormed n (unset_cell c m)
unfolding unset_cell
unset_formed n c m = written-formed n c m false false (λ e. refl)

-- the cells after one was set or unset
pub cell_set : (c : Clause) (m : ℕ) (b : Bool) (k : ℕ) → cell (set_cell c m b) k ≡ cond (eqb k m) (some b) (cell c k)
unfolding set_cell
cell_set c m b k = cell-written c m true b k

pub cell_unset : (c : Clause) (m k : ℕ) → cell (unset_cell c m) k ≡ cond (eqb k m) none (cell c k)
unfolding unset_cell
cell_unset c m k = cell-written c m false false k

pub cell-empty : (m : ℕ) → cell empty_clause m ≡ none
unfolding cell empty_clause
cell-empty m = rw (bit-zero m)

-- a cell is unset exactly where its mark is not fixed
abbrev pub is_set : Option Bool → Bool
is_set none = false
is_set (some b) = true

abbrev value_of : Option Bool → Bool
value_of none = false
value_of (some b) = b

pub cell-fixed : (c : Clause) (m : ℕ) → is_set (cell c m) ≡ bit m c.fixed
unfolding cell
cell-fixed c m = split (bit m c.fixed) (bit m c.values)
  where
    split : (f v : Bool) → is_set (cond f (some v) none) ≡ f
    split true v = refl
    split false v = refl

-- in a well-formed clause the cells give the values' mask too
cell-value : (n : ℕ) (c : Clause) → WellFormed n c → (m : ℕ) → value_of (cell c m) ≡ bit m c.values
unfolding cell
cell-value n c w m = split (bit m c.fixed) (bit m c.values) (w.inside m)
  where
    split : (f v : Bool) → (f ≡ false → v ≡ false) → value_of (cond f (some v) none) ≡ v
    split true v h = refl
    split false v h = sym (h refl)

-- well-formed clauses with equal cells have equal words
pub cell_ext : (n : ℕ) (c d : Clause) → WellFormed n c → WellFormed n d → ((m : ℕ) → m < n → cell c m ≡ cell d m) → c ≡ d
cell_ext n c d w u e = λ i. record { fixed = p i; values = q i }
  where
    p : c.fixed ≡ d.fixed
    p = bit_ext n c.fixed d.fixed w.small u.small (λ m h. sym (cell-fixed c m) ∙ ap is_set (e m h) ∙ cell-fixed d m)

    q : c.values ≡ d.values
    q = bit_ext n c.values d.values w.small-values u.small-values (λ m h. sym (cell-value n c w m) ∙ ap value_of (e m h) ∙ cell-value n d u m)

-- ---- a cell put into a clause: both ways to write one

abbrev pub put_cell : Clause → ℕ → Option Bool → Clause
put_cell c m none = unset_cell c m
put_cell c m (some b) = set_cell c m b

pub put_cell-formed : (n : ℕ) (c : Clause) (m : ℕ) (o : Option Bool) → m < n → WellFormed n c → WellFormed n (put_cell c m o)
put_cell-formed n c m none = unset_formed n c m
put_cell-formed n c m (some b) = set-formed n c m b

pub cell-put_cell : (c : Clause) (m : ℕ) (o : Option Bool) (k : ℕ) → cell (put_cell c m o) k ≡ cond (eqb k m) o (cell c k)
cell-put_cell c m none k = cell_unset c m k
cell-put_cell c m (some b) k = cell_set c m b k

-- the later of two at one mark stands
pub put_cell-twice : (n : ℕ) (c : Clause) (m : ℕ) (p o : Option Bool) → m < n → WellFormed n c → put_cell (put_cell c m p) m o ≡ put_cell c m o
put_cell-twice n c m p o h w =
    cell_ext n (put_cell (put_cell c m p) m o) (put_cell c m o) (put_cell-formed n (put_cell c m p) m o h (put_cell-formed n c m p h w)) (put_cell-formed n c m o h w)
    (λ k l. cell-put_cell (put_cell c m p) m o k ∙ ap (λ x. cond (eqb k m) o x) (cell-put_cell c m p k) ∙ twice (eqb k m) (cell c k) ∙ sym (cell-put_cell c m o k))
  where
    twice : (t : Bool) (x : Option Bool) → cond t o (cond t p x) ≡ cond t o x
    twice true x = refl
    twice false x = refl

-- what a cell holds already, put there, changes nothing
pub put_cell_idle : (n : ℕ) (c : Clause) (m : ℕ) → m < n → WellFormed n c → put_cell c m (cell c m) ≡ c
put_cell_idle n c m h w =
    cell_ext n (put_cell c m (cell c m)) c (put_cell-formed n c m (cell c m) h w) w
    (λ k l. cell-put_cell c m (cell c m) k ∙ elim (ℕ_discrete k m) [
      | yes e ↦ rw (eq-eqb k m e, e)
      | no e ↦ rw (ne_eqb k m e)
    ])

-- ---- one clause extends another

pub extending_each : (n : ℕ) (c d : Clause) → extending n c d ≡ true → (m : ℕ) → m < n → agreeing c d m ≡ true
unfolding extending
extending_each zero c d e m h = absurd (let z : ⊥ = omega arith in z)
extending_each (suc n) c d e m h = elim (ℕ_discrete m n) [
  | yes q ↦ rw q (and_true (extending n c d) (agreeing c d n) e).1
  | no q ↦ extending_each n c d (and_true (extending n c d) (agreeing c d n) e).0 m (omega arith)
]

pub extending-all : (n : ℕ) (c d : Clause) → ((m : ℕ) → m < n → agreeing c d m ≡ true) → extending n c d ≡ true
unfolding extending
extending-all zero c d each = refl
extending-all (suc n) c d each = rw (extending-all n c d (λ m h. each m (omega arith)), each n (omega arith))

-- by masks: d's fixed marks are fixed in c, and c's values there are d's
pub extending-masks : (n : ℕ) (c d : Clause) → bit_and c.fixed d.fixed ≡ d.fixed → bit_and c.values d.fixed ≡ d.values → extending n c d ≡ true
unfolding agreeing
extending-masks n c d p q =
    extending-all n c d
    (λ m h. each (bit m c.fixed) (bit m c.values) (bit m d.fixed) (bit m d.values)
    (sym (bit-and m c.fixed d.fixed) ∙ ap (bit m) p)
    (sym (bit-and m c.values d.fixed) ∙ ap (bit m) q))
  where
    each : (f v g y : Bool) → f && g ≡ g → v && g ≡ y → not g || (f && beq v y) ≡ true
    each f v false y a b = refl
    each false v true y a b = absurd (clash refl (sym a))
    each true true true true a b = refl
    each true true true false a b = absurd (clash refl b)
    each true false true true a b = absurd (clash b refl)
    each true false true false a b = refl

pub extending-fixed : (n : ℕ) (c d : Clause) → WellFormed n c → WellFormed n d → extending n c d ≡ true → bit_and c.fixed d.fixed ≡ d.fixed
unfolding agreeing
extending-fixed n c d w u e =
    bit_ext n (bit_and c.fixed d.fixed) d.fixed (and_lt n c.fixed d.fixed w.small u.small) u.small
    (λ m h. bit-and m c.fixed d.fixed ∙ each (bit m c.fixed) (bit m d.fixed) _ (extending_each n c d e m h))
  where
    each : (f g s : Bool) → not g || (f && s) ≡ true → f && g ≡ g
    each true g s a = refl
    each false false s a = refl
    each false true s a = absurd (clash a refl)

pub extending-values : (n : ℕ) (c d : Clause) → WellFormed n c → WellFormed n d → extending n c d ≡ true → bit_and c.values d.fixed ≡ d.values
unfolding agreeing
extending-values n c d w u e =
    bit_ext n (bit_and c.values d.fixed) d.values (and_lt n c.values d.fixed w.small-values u.small) u.small-values
    (λ m h. bit-and m c.values d.fixed
    ∙ each (bit m c.fixed) (bit m c.values) (bit m d.fixed) (bit m d.values) (u.inside m) (extending_each n c d e m h))
  where
    each : (f v g y : Bool) → (g ≡ false → y ≡ false) → not g || (f && beq v y) ≡ true → v && g ≡ y
    each f true false y i a = sym (i refl)
    each f false false y i a = sym (i refl)
    each true true true true i a = refl
    each true true true false i a = absurd (clash a refl)
    each true false true true i a = absurd (clash a refl)
    each true false true false i a = refl
    each false v true y i a = absurd (clash a refl)

-- so the two tests of masks tell it
pub fixed-differ : (n : ℕ) (c d : Clause) → WellFormed n c × WellFormed n d → bit_and c.fixed d.fixed ≢ d.fixed → false ≡ extending n c d
fixed-differ n c d (w, u) h = (elim (extending n c d) as (λ b. extending n c d ≡ b → false ≡ b) [
  | true ↦ λ e. absurd (h (extending-fixed n c d w u e))
  | false ↦ λ e. refl
]) refl

pub values_tell : (n : ℕ) (c d : Clause) → WellFormed n c × WellFormed n d → bit_and c.fixed d.fixed ≡ d.fixed → eqb (bit_and c.values d.fixed) d.values ≡ extending n c d
values_tell n c d (w, u) p = elim (ℕ_discrete (bit_and c.values d.fixed) d.values) [
  | yes q ↦ eq-eqb _ d.values q ∙ sym (extending-masks n c d p q)
  | no q ↦ ne_eqb _ d.values q ∙ (elim (extending n c d) as (λ b. extending n c d ≡ b → false ≡ b) [
    | true ↦ λ e. absurd (q (extending-values n c d w u e))
    | false ↦ λ e. refl
  ]) refl
]

-- it is an order on well-formed clauses
pub extending_self : (n : ℕ) (c : Clause) → extending n c c ≡ true
unfolding agreeing
extending_self n c = extending-all n c c (λ m h. each (bit m c.fixed) (bit m c.values))
  where
    each : (f v : Bool) → not f || (f && beq v v) ≡ true
    each false v = refl
    each true true = refl
    each true false = refl

pub extending-both : (n : ℕ) (c d e : Clause) → extending n c d ≡ true → extending n d e ≡ true → extending n c e ≡ true
unfolding agreeing
extending-both n c d e p q =
    extending-all n c e
    (λ m h. each (bit m c.fixed) (bit m c.values) (bit m d.fixed) (bit m d.values) (bit m e.fixed) (bit m e.values) (extending_each n c d p m h) (extending_each n d e q m h))
  where
    each : (f v g y k z : Bool) → not g || (f && beq v y) ≡ true → not k || (g && beq y z) ≡ true → not k || (f && beq v z) ≡ true
    each f v g y false z a b = refl
    each f v false y true z a b = absurd (clash b refl)
    each false v true y true z a b = absurd (clash a refl)
    each true true true true true z a b = b
    each true true true false true z a b = absurd (clash a refl)
    each true false true true true z a b = absurd (clash a refl)
    each true false true false true z a b = b

pub extending_antisym : (n : ℕ) (c d : Clause) → WellFormed n c → WellFormed n d → extending n c d ≡ true → extending n d c ≡ true → c ≡ d
unfolding agreeing cell
extending_antisym n c d w u p q =
    cell_ext n c d w u
    (λ m h. each (bit m c.fixed) (bit m c.values) (bit m d.fixed) (bit m d.values) (extending_each n c d p m h) (extending_each n d c q m h))
  where
    each : (f v g y : Bool) → not g || (f && beq v y) ≡ true → not f || (g && beq y v) ≡ true → cond f (some v) none ≡ cond g (some y) none
    each false v false y a b = refl
    each false v true y a b = absurd (clash a refl)
    each true v false y a b = absurd (clash b refl)
    each true true true true a b = refl
    each true true true false a b = absurd (clash a refl)
    each true false true true a b = absurd (clash a refl)
    each true false true false a b = refl

-- in cells: each that d fixes is the same in c
pub extending-cells : (n : ℕ) (c d : Clause) → extending n c d ≡ true → (m : ℕ) (b : Bool) → m < n → cell d m ≡ some b → cell c m ≡ some b
unfolding agreeing cell
extending-cells n c d e m b h s = each (bit m c.fixed) (bit m c.values) (bit m d.fixed) (bit m d.values) (extending_each n c d e m h) s
  where
    each : (f v g y : Bool) → not g || (f && beq v y) ≡ true → cond g (some y) none ≡ some b → cond f (some v) none ≡ some b
    each f v false y a s = absurd (clash refl (sym (ap is_set s)))
    each false v true y a s = absurd (clash a refl)
    each true true true true a s = s
    each true true true false a s = absurd (clash a refl)
    each true false true true a s = absurd (clash a refl)
    each true false true false a s = s
