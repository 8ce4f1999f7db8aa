-- Laws of chains.
use mathlib.Core.Path.{◌≡◌, refl, sym, ap, subst, ◌∙◌}
use mathlib.Core.List.{List, [], ◌∷◌}
use mathlib.Core.Logic.{◌≢◌}
use Prim.Native.Nat.{ℕ, ◌+◌, ◌*◌, ◌<◌, ◌≤◌}
use native.Mathlib.Omega.{arith}
use native.Mathlib.Nat.{mod-lt}
use native.Mathlib.Decide.{ℕ_discrete, dec_lt}
use lib.ListN.{length, get_or, set, length-set, length-append}
use lib.Seq.{get_or-set_same, get_or-set_other}
use Rattle.theory.specs.Table.{Node, node, Table, at, mk}
use Rattle.theory.specs.Words.{node_at, nodes}
use Rattle.theory.proofs.Words.{length-nodes, at-nodes, nodes-agree}
use Rattle.theory.proofs.Find.{node-eq}
use Rattle.theory.proofs.Walk.{at_old}
use Rattle.making.specs.Made.{Beyond}
use Rattle.pool.specs.Pool.{Miss, Noding, Holds, pushed}
use Rattle.chain.specs.Chain.{slot_of, slot_at, head_at, next_at, Last, Chained, hung, Noded, Zeroed, Indexed}

pub slot_lt : (cap v p q : ℕ) → 0 < cap → slot_of cap v p q < cap
unfolding slot_of
slot_lt cap v p q h = mod-lt _ h

-- equal nodes share a slot
slot_same : (w : List ℕ) (cap v p q i : ℕ) → node_at w i ≡ node v p q → slot_at w cap i ≡ slot_of cap v p q
slot_same w cap v p q i e = ap (λ (x : Node). slot_of cap x.mark x.low x.high) e

-- ---- a search: node i of the chain is looked at next
pub record Seeking (w : List ℕ) (cap k v p q i : ℕ) : Type 0 where
  pub below : 2 ≤ i → i < k
  pub slot : 2 ≤ i → slot_at w cap i ≡ slot_of cap v p q
  pub none : (j : ℕ) → 2 ≤ j → i < j → j < k → node_at w j ≡ node v p q → ⊥

module _ (w : List ℕ) (cap k v p q : ℕ) (c : Chained w cap k) where
  pub seek_head : 0 < cap → (h : ℕ) → h ≡ slot_of cap v p q → Seeking w cap k v p q (head_at w cap h)
  seek_head some h is =
      let l = c.head (slot_of cap v p q) (slot_lt cap v p q some) in
      subst (λ (x : ℕ). Seeking w cap k v p q (head_at w cap x)) (sym is)
      (record { below = l.below; slot = l.slot; none = λ j a b d e. l.none j a b d (slot_same w cap v p q j e) })

  pub next-lt : (i : ℕ) → 2 ≤ i → i < k → next_at w cap i < i
  next-lt i two h = elim (dec_lt (next_at w cap i) 2) [
    | yes a ↦ omega arith
    | no a ↦ (c.next i two h).below (omega arith)
  ]

  pub seek_next : (i : ℕ) → 2 ≤ i → (node_at w i ≡ node v p q → ⊥) → Seeking w cap k v p q i → Seeking w cap k v p q (next_at w cap i)
  seek_next i two other s =
      let l = c.next i two (s.below two) in
      record {
        below = λ a. omega (arith, l.below a, s.below two);
        slot = λ a. l.slot a ∙ s.slot two;
        none = λ j a b d e. elim (dec_lt j i) [
          | yes h ↦ l.none j a b h (slot_same w cap v p q j e ∙ sym (s.slot two))
          | no h ↦ elim (ℕ_discrete j i) [
            | yes z ↦ other (ap (node_at w) (sym z) ∙ e)
            | no z ↦ s.none j a (omega arith) d e
          ]
        ];
      }

pub seek_none : (w : List ℕ) (cap k v p q i : ℕ) → p ≢ q → i < 2 → Seeking w cap k v p q i → Miss w k v p q
seek_none w cap k v p q i ne h s j a b d e = s.none j (omega arith) (omega arith) d e

-- ---- the chains depend on the nodes and on their own words alone
slot-agree : (w w' : List ℕ) (cap k : ℕ) → ((x : ℕ) → x < 3 * k → get_or w' x 0 ≡ get_or w x 0) → (j : ℕ) → j < k → slot_at w' cap j ≡ slot_at w cap j
slot-agree w w' cap k f j h =
    slot_same w' cap _ _ _ j (node-eq (node_at w' j) (node_at w j) (f (3 * j) (omega arith)) (f (3 * j + 1) (omega arith)) (f (3 * j + 2) (omega arith)))

last-agree : (w w' : List ℕ) (cap h k i : ℕ) → ((j : ℕ) → j < k → slot_at w' cap j ≡ slot_at w cap j) → Last w cap h k i → Last w' cap h k i
last-agree w w' cap h k i f l = record {
  below = l.below;
  slot = λ a. f i (l.below a) ∙ l.slot a;
  none = λ j a b d e. l.none j a b d (sym (f j d) ∙ e);
}

pub chained-agree : (w w' : List ℕ) (cap k : ℕ) → ((x : ℕ) → x < 3 * k → get_or w' x 0 ≡ get_or w x 0) → ((x : ℕ) → 4 * cap ≤ x → get_or w' x 0 ≡ get_or w x 0)
    → Chained w cap k → Chained w' cap k
chained-agree w w' cap k f g c = record {
  head = λ h a. subst (Last w' cap h k) (sym (g (4 * cap + h) (omega arith))) (last-agree w w' cap h k _ (slot-agree w w' cap k f) (c.head h a));
  next = λ i a b.
      let s = slot-agree w w' cap k f in
      subst (Last w' cap (slot_at w' cap i) i) (sym (g (5 * cap + i) (omega arith)))
      (subst (λ (h : ℕ). Last w' cap h i (next_at w cap i)) (sym (s i b)) (last-agree w w' cap (slot_at w cap i) i _ (λ j d. s j (omega arith)) (c.next i a b)));
}

-- ---- a node that is hung: w₁ has the nodes of w and node k, and the chains of w
module _ (w w₁ : List ℕ) (cap k : ℕ) (c : Chained w cap k) (two : 2 ≤ k) (k_lt : k < cap) (long : 6 * cap ≤ length w₁)
    (kept : (j : ℕ) → j < k → slot_at w₁ cap j ≡ slot_at w cap j) (same : (x : ℕ) → 4 * cap ≤ x → get_or w₁ x 0 ≡ get_or w x 0) where
  abbrev h₀ : ℕ
  h₀ = slot_at w₁ cap k

  abbrev w₂ : List ℕ
  w₂ = hung w₁ cap k h₀

  h_lt : h₀ < cap
  h_lt = slot_lt cap _ _ _ (omega arith)

  head-new : head_at w₂ cap h₀ ≡ k
  head-new = get_or-set_same (set w₁ (5 * cap + k) (head_at w₁ cap h₀)) (4 * cap + h₀) k 0 (omega (arith, h_lt, length-set w₁ (5 * cap + k) (head_at w₁ cap h₀)))

  head_old : (h : ℕ) → h < cap → (h ≡ h₀ → ⊥) → head_at w₂ cap h ≡ head_at w cap h
  head_old h a ne =
      get_or-set_other (set w₁ (5 * cap + k) (head_at w₁ cap h₀)) (4 * cap + h₀) (4 * cap + h) k 0 (λ e. ne (omega arith))
      ∙ get_or-set_other w₁ (5 * cap + k) (4 * cap + h) (head_at w₁ cap h₀) 0 (λ e. omega arith) ∙ same (4 * cap + h) (omega arith)

  next-new : next_at w₂ cap k ≡ head_at w cap h₀
  next-new =
      get_or-set_other (set w₁ (5 * cap + k) (head_at w₁ cap h₀)) (4 * cap + h₀) (5 * cap + k) k 0 (λ e. omega (arith, h_lt))
      ∙ get_or-set_same w₁ (5 * cap + k) (head_at w₁ cap h₀) 0 (omega arith) ∙ same (4 * cap + h₀) (omega arith)

  next_old : (i : ℕ) → i < k → next_at w₂ cap i ≡ next_at w cap i
  next_old i a =
      get_or-set_other (set w₁ (5 * cap + k) (head_at w₁ cap h₀)) (4 * cap + h₀) (5 * cap + i) k 0 (λ e. omega (arith, h_lt))
      ∙ get_or-set_other w₁ (5 * cap + k) (5 * cap + i) (head_at w₁ cap h₀) 0 (λ e. omega arith) ∙ same (5 * cap + i) (omega arith)

  pub hung-front : (x : ℕ) → x < 4 * cap → get_or w₂ x 0 ≡ get_or w₁ x 0
  hung-front x a =
      get_or-set_other (set w₁ (5 * cap + k) (head_at w₁ cap h₀)) (4 * cap + h₀) x k 0 (λ e. omega arith)
      ∙ get_or-set_other w₁ (5 * cap + k) x (head_at w₁ cap h₀) 0 (λ e. omega arith)

  slot-now : (j : ℕ) → j < k + 1 → slot_at w₂ cap j ≡ slot_at w₁ cap j
  slot-now = slot-agree w₁ w₂ cap (k + 1) (λ x a. hung-front x (omega arith))

  slot_old : (j : ℕ) → j < k → slot_at w₂ cap j ≡ slot_at w cap j
  slot_old j a = slot-now j (omega arith) ∙ kept j a

  -- chain h gets the node, or stays as it is
  head-last : (h : ℕ) → h < cap → Last w₂ cap h (k + 1) (head_at w₂ cap h)
  head-last h a = elim (ℕ_discrete h h₀) [
    | yes z ↦ subst (Last w₂ cap h (k + 1)) (sym (ap (head_at w₂ cap) z ∙ head-new)) (record {
      below = λ b. omega arith;
      slot = λ b. slot-now k (omega arith) ∙ sym z;
      none = λ j b d e. absurd (let y : ⊥ = omega arith in y);
    })
    | no z ↦
        let l = last-agree w w₂ cap h k _ slot_old (c.head h a) in
        subst (Last w₂ cap h (k + 1)) (sym (head_old h a z)) (record {
          below = λ b. omega (arith, l.below b);
          slot = l.slot;
          none = λ j b d e f. elim (ℕ_discrete j k) [
            | yes y ↦ z (sym f ∙ ap (slot_at w₂ cap) y ∙ slot-now k (omega arith))
            | no y ↦ l.none j b d (omega arith) f
          ];
        })
  ]

  next_last : (i : ℕ) → 2 ≤ i → i < k + 1 → Last w₂ cap (slot_at w₂ cap i) i (next_at w₂ cap i)
  next_last i a b = elim (ℕ_discrete i k) [
    | yes z ↦ subst (λ (x : ℕ). Last w₂ cap (slot_at w₂ cap x) x (next_at w₂ cap x)) (sym z)
        (subst (Last w₂ cap (slot_at w₂ cap k) k) (sym next-new)
        (subst (λ (h : ℕ). Last w₂ cap h k (head_at w cap h₀)) (sym (slot-now k (omega arith))) (last-agree w w₂ cap h₀ k _ slot_old (c.head h₀ h_lt))))
    | no z ↦
        let lt : i < k = omega arith in
        subst (Last w₂ cap (slot_at w₂ cap i) i) (sym (next_old i lt))
        (subst (λ (h : ℕ). Last w₂ cap h i (next_at w cap i)) (sym (slot_old i lt)) (last-agree w w₂ cap _ i _ (λ j d. slot_old j (omega arith)) (c.next i a lt)))
  ]

  pub hung-chained : Chained (hung w₁ cap k (slot_at w₁ cap k)) cap (k + 1)
  hung-chained = record { head = head-last; next = next_last }

-- node i hung where its words say
pub hung-is : (w : List ℕ) (cap i h v p q : ℕ) → h ≡ slot_of cap v p q → v ≡ (node_at w i).mark → p ≡ (node_at w i).low → q ≡ (node_at w i).high
    → hung w cap i h ≡ hung w cap i (slot_at w cap i)
hung-is w cap i h v p q e ev ep eq = ap (hung w cap i) (e ∙ (let z : slot_of cap v p q ≡ slot_at w cap i = rw (ev, ep, eq) in z))

-- ---- a node found or made
module _ (w : List ℕ) (n cap k v p q : ℕ) (r : Noding w n cap k v p q) (long : 6 * cap ≤ length w) (c : Chained w cap k) where
  pub count-two : 2 ≤ k
  count-two = omega (arith, r.good.both, length-nodes k w)

  pub noded-same : (o : ℕ) → Holds (mk (nodes k w) v p q) cap w o k → Noded w w cap k v p q o k
  noded-same o h = record { holds = h; memo = λ i a b. refl; chained = c }

  -- pushed, in w₁
  module _ (w₁ : List ℕ) (o k₁ : ℕ) (len : length w₁ ≡ length w) (h : Holds (pushed w k v p q) cap w₁ o k₁) (b : Beyond cap w w₁) where
    more : k₁ ≡ k + 1
    more = omega (arith, ap (λ (z : Table × ℕ). length z.0) h.is, length-append (nodes k w) (node v p q ∷ []), length-nodes k w, length-nodes k₁ w₁)

    pub push_lt : k < cap
    push_lt = omega (arith, more, h.fits)

    kept : (j : ℕ) → j < k → slot_at w₁ cap j ≡ slot_at w cap j
    kept j a = slot_same w₁ cap _ _ _ j
        (sym (at-nodes k₁ w₁ j (omega (arith, more))) ∙ ap (λ (z : Table × ℕ). at z.0 j) (sym h.is)
        ∙ at_old (nodes k w) (node v p q ∷ []) j (omega (arith, length-nodes k w)) ∙ at-nodes k w j a)

    same : (x : ℕ) → 4 * cap ≤ x → get_or w₁ x 0 ≡ get_or w x 0
    same x a = b x (omega arith)

    pub noded-new : Holds (mk (nodes k w) v p q) cap w₁ o k₁ → (w₂ : List ℕ) → w₂ ≡ hung w₁ cap k (slot_at w₁ cap k) → Noded w w₂ cap k v p q o k₁
    noded-new m w₂ e =
        let front : (x : ℕ) → x < 4 * cap → get_or w₂ x 0 ≡ get_or w₁ x 0 =
        λ x a. ap (λ u. get_or u x 0) e ∙ hung-front w w₁ cap k c count-two push_lt (omega arith) kept same x a in
        record {
          holds = record { is = m.is ∙ ap (λ (s : Table). (s, o)) (nodes-agree k₁ w₁ w₂ (λ x a. sym (front x (omega (arith, h.fits))))); fits = m.fits };
          memo = λ i a d. front i d ∙ b i (omega arith);
          chained = subst (λ u. Chained u cap k₁) (sym e) (subst (Chained _ cap) (sym more) (hung-chained w w₁ cap k c count-two push_lt (omega arith) kept same));
        }

-- ---- the chains made anew
pub chained-none : (w : List ℕ) (cap : ℕ) → ((h : ℕ) → h < cap → head_at w cap h ≡ 0) → Chained w cap 2
chained-none w cap zero = record {
  head = λ h a. subst (Last w cap h 2) (sym (zero h a)) (record {
    below = λ b. absurd (let y : ⊥ = omega arith in y);
    slot = λ b. absurd (let y : ⊥ = omega arith in y);
    none = λ j b d e. absurd (let y : ⊥ = omega arith in y);
  });
  next = λ i a b. absurd (let y : ⊥ = omega arith in y);
}

pub index-none : (w w₁ : List ℕ) (cap : ℕ) → Zeroed w w₁ (4 * cap) (5 * cap) → Indexed w₁ w₁ cap 2
index-none w w₁ cap z = record { chained = chained-none w₁ cap (λ h a. z.zero (4 * cap + h) (omega arith) (omega arith)); front = λ i a. refl }

pub index-more : (w w₁ w₂ : List ℕ) (cap i : ℕ) → 2 ≤ i → i < cap → 6 * cap ≤ length w₁ → Indexed w w₁ cap i → w₂ ≡ hung w₁ cap i (slot_at w₁ cap i) → Indexed w w₂ cap (i + 1)
index-more w w₁ w₂ cap i two lt long x e = record {
  chained = subst (λ u. Chained u cap (i + 1)) (sym e) (hung-chained w₁ w₁ cap i x.chained two lt long (λ j a. refl) (λ j a. refl));
  front = λ j a. ap (λ u. get_or u j 0) e ∙ hung-front w₁ w₁ cap i x.chained two lt long (λ j a. refl) (λ j a. refl) j a ∙ x.front j a;
}
