-- The memory's slots: what a hit means, that one more entry keeps the others, and that zeros remember nothing.
use mathlib.Core.Path.{◌≡◌, refl, sym, ap, ap₂, subst, ◌∙◌}
use mathlib.Core.Logic.{◌≢◌, ◌⊎◌, inl, inr}
use mathlib.Core.Bool.{true}
use mathlib.Core.List.{List, [], ◌∷◌, ◌++◌}
use lib.Dec.{eqb}
use lib.Pointwise.{pointwise}
use borrow.Rule.Slice.PartMut.{put_mid}
use Rattle.std.proofs.lemmas.Slice.{take-put_mid_below, between-put_mid, drop-put_mid}
use Rattle.std.proofs.lemmas.Bool.{eqb-true}
use Rattle.theory.proofs.Truths.{and_true}
use Prim.Native.Nat.{ℕ, suc, ◌+◌, ◌-◌, ◌*◌, ◌≤◌, ◌<◌}
use native.Mathlib.Omega.{arith}
use native.Mathlib.Nat.{mul-le-mul_left, mul-le-mul_right, mul_assoc, mul-suc}
use native.Mathlib.Decide.{ℕ_discrete, dec_lt}
use lib.ListN.{length, take, drop, get_or, set, length-set, length-drop, length-append}
use lib.Seq.{get_or-take, get_or-drop, get_or-set_same, get_or-set_other, length-take-le}
use Rattle.theory.specs.Tree.{Tree}
use Rattle.theory.specs.Words.{stride}
use Rattle.theory.proofs.Words.{nodes-agree}
use Rattle.theory.proofs.Canon.{canon-ordered}
use Rattle.held.specs.Held.{tree_in, Canonical, Tab}
use Rattle.held.proofs.HeldLaws.{tab-of, tab-means, tab-count}
use Rattle.harmless.specs.Memory.{known_words, Harmless, slot_size, slots, slot_at, Remembers, Slot}

-- ---- words compared
pub words_equal : (xs ys : List ℕ) → pointwise eqb xs ys ≡ true → xs ≡ ys
words_equal [] [] e = refl
words_equal [] (y ∷ ys) e = cc
words_equal (x ∷ xs) [] e = cc
words_equal (x ∷ xs) (y ∷ ys) e =
    let b : (eqb x y ≡ true) × (pointwise eqb xs ys ≡ true) = and_true _ _ e in
    ap₂ (λ (u : ℕ) (v : List ℕ). u ∷ v) (eqb-true x y b.0) (words_equal xs ys b.1)

-- ---- where slots lie
slot_next : (room i : ℕ) → slot_at room (suc i) ≡ slot_at room i + slot_size room
slot_next room i = mul-suc (slot_size room) i

slot-below : (room i j : ℕ) → i < j → slot_at room i + slot_size room ≤ slot_at room j
slot-below room i j h = omega (arith, slot_next room i, mul-le-mul_left {m = suc i} {n = j} (slot_size room) h)

pub slot-within : (n room i : ℕ) → 1 ≤ room → i < slots n → slot_at room i + slot_size room ≤ known_words n room
slot-within n room i w h =
    let a : slot_size room * slots n ≡ slot_size room * 3 * (n + 2) = sym (mul_assoc (slot_size room) 3 (n + 2)) in
    let b : slot_size room * 3 * (n + 2) ≤ known_words n room = mul-le-mul_right {m = slot_size room * 3} {n = 4 * (stride * room)} (n + 2) (omega arith) in
    omega (arith, slot-below room i (slots n) h)

-- ---- a table whose words are the same
moved : (n room : ℕ) (v w : List ℕ) (k : ℕ) (f : Tree) → Tab n room v k f → stride * k ≤ length w → ((j : ℕ) → j < stride * k → get_or w j 0 ≡ get_or v j 0) → Tab n room w k f
moved n room v w k f t h s = record { deep = t.deep; lies = h; fits = t.fits; table = nodes-agree k w v s ∙ t.table }

alike : (v w : List ℕ) (m : ℕ) → take m v ≡ take m w → (j : ℕ) → j < m → get_or v j 0 ≡ get_or w j 0
alike v w m e j h = sym (get_or-take m v j 0 h) ∙ ap (λ z. get_or z j 0) e ∙ get_or-take m w j 0 h

-- the canonical table of a harmless function
proven : (n room : ℕ) (w : List ℕ) (k : ℕ) (f : Tree) → Tab n room w k f → Harmless n room (tree_in n w k) → Harmless n room f
proven n room w k f t h = subst (Harmless n room) (tab-means n room w k f t) h

module _ (n room : ℕ) (w : List ℕ) (k : ℕ) (c : Canonical n room w k) (h : List ℕ) (long : known_words n room ≤ length h) (at : ℕ) (s : Slot n room at) where
  some : 1 ≤ room
  some = omega (arith, c.some)

  pub inside : at + slot_size room ≤ known_words n room
  inside = rw s.is (slot-within n room s.index some s.less)

  -- a table found in its slot
  pub hit : Remembers n room h → get_or h at 0 ≡ k → take (stride * k) (drop (at + 1) h) ≡ take (stride * k) w → Harmless n room (tree_in n w k)
  unfolding Remembers
  hit known e same =
      known s.index (tree_in n w k) s.less
      (rw (sym s.is, e)
      (moved n room w (drop (at + 1) h) k (tree_in n w k) (tab-of n room w k c) (omega (arith, length-drop (at + 1) h, inside, c.fits)) (alike (drop (at + 1) h) w (stride * k) same)))

  -- kept: the slot has the table, all else is as it was
  kept : Remembers n room h → Harmless n room (tree_in n w k) → (h' : List ℕ) → length h' ≡ length h → get_or h' at 0 ≡ k
      → ((j : ℕ) → j < stride * k → get_or h' (at + 1 + j) 0 ≡ get_or w j 0)
      → ((j : ℕ) → (j < at) ⊎ (at + slot_size room ≤ j) → get_or h' j 0 ≡ get_or h j 0) → Remembers n room h'
  unfolding Remembers
  kept known fine h' l count words elsewhere i f less t = elim (ℕ_discrete i s.index) [
    | yes e ↦
        let o : slot_at room i ≡ at = ap (slot_at room) e ∙ sym s.is in
        let u : Tab n room (drop (at + 1) h') k f = subst (λ z. Tab n room (drop (at + 1) h') z f) count (subst (λ z. Tab n room (drop (z + 1) h') (get_or h' z 0) f) o t) in
        proven n room w k f
        (moved n room (drop (at + 1) h') w k f u c.lies (λ j b. sym (words j b) ∙ sym (get_or-drop (at + 1) h' j 0)))
        fine
    | no e ↦
        let o : (p : ℕ) → slot_at room i ≤ p → p < slot_at room i + slot_size room → get_or h' p 0 ≡ get_or h p 0 = (λ p lo hi. elsewhere p (apart p lo hi e)) in
        let n' : get_or h' (slot_at room i) 0 ≡ get_or h (slot_at room i) 0 = o (slot_at room i) (omega arith) (omega arith) in
        known i f less
        (subst (λ z. Tab n room (drop (slot_at room i + 1) h) z f) n'
        (moved n room (drop (slot_at room i + 1) h') (drop (slot_at room i + 1) h) (get_or h' (slot_at room i) 0) f t
        (omega (arith, t.lies, length-drop (slot_at room i + 1) h, length-drop (slot_at room i + 1) h', l))
        (λ j b. get_or-drop (slot_at room i + 1) h j 0 ∙ sym (o (slot_at room i + 1 + j) (omega arith) (omega (arith, t.fits))) ∙ sym (get_or-drop (slot_at room i + 1) h' j 0))))
  ]
    where
      apart : (p : ℕ) → slot_at room i ≤ p → p < slot_at room i + slot_size room → i ≢ s.index → (p < at) ⊎ (at + slot_size room ≤ p)
      apart p lo hi ne = elim (dec_lt i s.index) [
        | yes b ↦ inl (omega (arith, slot-below room i s.index b, s.is))
        | no b ↦ inr (omega (arith, slot-below room s.index i (omega (arith, ne)), s.is))
      ]

-- the same, by the parts of the memory that was written
kept_by : (n room : ℕ) (w : List ℕ) (k : ℕ) (c : Canonical n room w k) (h : List ℕ) (long : known_words n room ≤ length h) (at : ℕ) (s : Slot n room at)
    → Remembers n room h → Harmless n room (tree_in n w k) → (h' : List ℕ) → length h' ≡ length h
    → take (at + 1) h' ≡ take (at + 1) (set h at k) → take (stride * k) (drop (at + 1) h') ≡ take (stride * k) w
    → drop (at + 1 + stride * k) h' ≡ drop (at + 1 + stride * k) (set h at k) → Remembers n room h'
kept_by n room w k c h long at s known fine h' l front mid back =
    kept n room w k c h long at s known fine h' l
    (alike h' (set h at k) (at + 1) front at (omega arith) ∙ get_or-set_same h at k 0 (omega (arith, inside n room w k c h long at s)))
    (λ j b. sym (get_or-drop (at + 1) h' j 0) ∙ alike (drop (at + 1) h') w (stride * k) mid j b)
    elsewhere
  where
    elsewhere : (j : ℕ) → (j < at) ⊎ (at + slot_size room ≤ j) → get_or h' j 0 ≡ get_or h j 0
    elsewhere j (inl b) = alike h' (set h at k) (at + 1) front j (omega arith) ∙ get_or-set_other h at j k 0 (λ e. omega arith)
    elsewhere j (inr b) =
        let e : at + 1 + stride * k + (j - (at + 1 + stride * k)) ≡ j = omega (arith, c.fits) in
        ap (λ i. get_or h' i 0) (sym e) ∙ sym (get_or-drop (at + 1 + stride * k) h' (j - (at + 1 + stride * k)) 0)
        ∙ ap (λ v. get_or v (j - (at + 1 + stride * k)) 0) back
        ∙ get_or-drop (at + 1 + stride * k) (set h at k) (j - (at + 1 + stride * k)) 0 ∙ ap (λ i. get_or (set h at k) i 0) e
        ∙ get_or-set_other h at j k 0 (λ z. omega arith)

long-put : (a k : ℕ) (xs ys : List ℕ) → a + k ≤ length xs → length ys ≡ k → length (put_mid a k xs ys) ≡ length xs
long-put a k xs ys h e =
    length-append (take a xs) (ys ++ drop k (drop a xs))
    ∙ omega (arith, length-take-le a xs (omega arith), length-append ys (drop k (drop a xs)), length-drop k (drop a xs), length-drop a xs)

-- the count stored, and the words copied behind it
pub kept_put : (n room : ℕ) (w : List ℕ) (k : ℕ) (c : Canonical n room w k) (h : List ℕ) (long : known_words n room ≤ length h) (at : ℕ) (s : Slot n room at)
    → Remembers n room h → Harmless n room (tree_in n w k) → (ys : List ℕ) → ys ≡ take (stride * k) w → (m : ℕ) → m ≡ stride * k → Remembers n room (put_mid (at + 1) m (set h at k) ys)
kept_put n room w k c h long at s known fine ys e m em =
    let fits : at + slot_size room ≤ known_words n room = inside n room w k c h long at s in
    let ls : length (set h at k) ≡ length h = length-set h at k in
    let ly : length ys ≡ m = omega (arith, ap length e, length-take-le (stride * k) w c.lies, em) in
    let o : at + 1 ≤ length (set h at k) = omega arith in
    let n' : at + 1 + stride * k - (at + 1) ≡ stride * k = omega arith in
    kept_by n room w k c h long at s known fine (put_mid (at + 1) m (set h at k) ys)
    (long-put (at + 1) m (set h at k) ys (omega (arith, c.fits)) ly ∙ ls)
    (take-put_mid_below (at + 1) m (set h at k) ys (at + 1) (omega arith) o)
    (ap (λ i. take i (drop (at + 1) (put_mid (at + 1) m (set h at k) ys))) (sym n') ∙ between-put_mid (at + 1) m (set h at k) ys (at + 1 + stride * k) o (omega arith) ∙ e)
    (drop-put_mid (at + 1) m (set h at k) ys (at + 1 + stride * k) (omega arith) o ly)

-- zeros remember nothing
pub none-known : (n room : ℕ) (h : List ℕ) → ((i : ℕ) → get_or h i 0 ≡ 0) → Remembers n room h
unfolding Remembers
none-known n room h z i f l t = absurd (let e : ⊥ = omega (arith, tab-count n room _ _ f t, z (slot_at room i), (canon-ordered n f t.deep).some) in e)
