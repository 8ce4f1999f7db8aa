-- What `settle` rests on.
use mathlib.Core.Path.{◌≡◌, refl, sym, ap, ap₂, subst, ◌∙◌}
use mathlib.Core.Bool.{Bool, true, false, cond}
use mathlib.Core.List.{List}
use mathlib.Core.Logic.{◌⊎◌, inl, inr}
use Prim.Native.Nat.{ℕ, suc, ◌+◌, ◌*◌, ◌-◌, ◌<◌, ◌≤◌}
use native.Mathlib.Omega.{arith}
use native.Mathlib.Decide.{ℕ_discrete}
use lib.ListN.{length, get_or, set}
use lib.Seq.{get_or-set_same, get_or-set_other}
use Rattle.theory.specs.Tree.{Tree, fork}
use Rattle.theory.specs.Table.{Table, tree_of, mk}
use Rattle.theory.specs.Words.{nodes}
use Rattle.theory.proofs.Walk.{Walked, mk_own, mk-sound}
use Rattle.theory.proofs.Words.{length-nodes, nodes-agree}
use Rattle.put.specs.declared.Run.{Run}
use Rattle.put.specs.declared.Cut.{Cut}
use Rattle.put.specs.Put.{memo_base, word, word_of, Settling, Settled}
use Rattle.pool.specs.Pool.{Holds}
use Rattle.chain.specs.Chain.{Chained, Noded}
use Rattle.chain.proofs.ChainLaws.{chained-agree}

-- what a store in the memo leaves
module _ (cap stamp a e : ℕ) (w w' : List ℕ) (h : 3 * cap + a < length w) where
  store_nodes : (k : ℕ) → k ≤ cap → w' ≡ set w (3 * cap + a) e → nodes k w' ≡ nodes k w
  store_nodes k le q = ap (nodes k) q ∙ nodes-agree k _ w (λ i d. get_or-set_other w (3 * cap + a) i e 0 (omega arith))

  pub keep-nodes : (own : Bool) (k : ℕ) → k ≤ cap → w' ≡ cond own (set w (3 * cap + a) e) w → nodes k w' ≡ nodes k w
  keep-nodes true k le q = store_nodes k le q
  keep-nodes false k le q = ap (nodes k) q

  pub keep-chained : (own : Bool) (k : ℕ) → k ≤ cap → a < cap → w' ≡ cond own (set w (3 * cap + a) e) w → Chained w cap k → Chained w' cap k
  keep-chained true k le lt q c =
      subst (λ u. Chained u cap k) (sym q) (chained-agree w _ cap k (λ x d. get_or-set_other w (3 * cap + a) x e 0 (omega arith)) (λ x d. get_or-set_other w (3 * cap + a) x e 0 (omega arith)) c)
  keep-chained false k le lt q c = subst (λ u. Chained u cap k) (sym q) c

  pub keep-memo : (own : Bool) → w' ≡ cond own (set w (3 * cap + a) e) w → (x : ℕ) → (word w' cap x ≡ word w cap x) ⊎ ((own ≡ true) × (x ≡ a) × (word w' cap x ≡ e))
  keep-memo false q x = inl (ap (λ u. word u cap x) q)
  keep-memo true q x = elim (ℕ_discrete x a) [
    | yes z ↦ inr (refl, z, ap (λ u. word u cap x) q ∙ ap (λ y. get_or (set w (3 * cap + a) e) (3 * cap + y) 0) z ∙ get_or-set_same w (3 * cap + a) e 0 h)
    | no z ↦ inl (ap (λ u. word u cap x) q ∙ get_or-set_other w (3 * cap + a) (3 * cap + x) e 0 (λ y. z (omega arith)))
  ]

module _ (w : List ℕ) (run : Run) (k : ℕ) (c : Cut) (a p q : ℕ) (r : Settling w run k c a p q) where
  pub a_in : a < k
  a_in = omega (arith, r.fits.lies, length-nodes k w)

  pub slot_in : (w₁ : List ℕ) → length w₁ ≡ length w → 3 * run.cap + a < length w₁
  slot_in w₁ e = omega (arith, a_in, r.noded.pushing.fits, r.long)

  pub a_small : a < memo_base
  a_small = omega (arith, a_in, r.noded.pushing.fits, r.noded.pushing.few)

  -- nothing is changed: the node itself
  pub same : p ≡ c.low.0 → q ≡ c.high.0 → mk (nodes k w) c.variable.0 p q ≡ (nodes k w, a)
  same ep eq =
      ap₂ (mk (nodes k w) c.variable.0) (ep ∙ r.low) (eq ∙ r.high) ∙ mk_own run.n (nodes k w) r.noded.good c.variable.0 a r.noded.level r.fits

  pub same-settled : p ≡ c.low.0 → q ≡ c.high.0 → (w' : List ℕ) → w' ≡ cond c.own (set w (3 * run.cap + a) (word_of run.stamp a)) w → Settled w w' run k c a p q a k
  same-settled ep eq w' e = record {
    holds = record {
      is = same ep eq ∙ ap (λ (s : Table). (s, a)) (sym (keep-nodes run.cap run.stamp a _ w w' (slot_in w refl) c.own k r.noded.pushing.fits e));
      fits = r.noded.pushing.fits;
    };
    memo = λ x h. keep-memo run.cap run.stamp a _ w w' (slot_in w refl) c.own e x;
    chained = keep-chained run.cap run.stamp a _ w w' (slot_in w refl) c.own k r.noded.pushing.fits (omega (arith, a_in, r.noded.pushing.fits)) e r.chained;
  }

  pub root_in : (w₁ : List ℕ) (o k₁ : ℕ) → Holds (mk (nodes k w) c.variable.0 p q) run.cap w₁ o k₁ → o < memo_base
  root_in w₁ o k₁ h =
      let m : ℕ = run.n - suc c.variable.0 in
      let t : Tree = fork (tree_of m (nodes k w) (suc c.variable.0) p) (tree_of m (nodes k w) (suc c.variable.0) q) in
      let s : Walked run.n (nodes k w) (suc m) c.variable.0 t (nodes k₁ w₁, o) =
      subst (λ z. Walked run.n (nodes k w) (suc m) c.variable.0 t z) h.is
      (mk-sound run.n (nodes k w) r.noded.good (run.n - suc c.variable.0) c.variable.0 p q (omega (arith, r.noded.level)) r.noded.low r.noded.high) in
      omega (arith, s.stands.lies, length-nodes k₁ w₁, h.fits, r.noded.pushing.few)

  pub made_settled : (w₁ : List ℕ) (o k₁ : ℕ) → Noded w w₁ run.cap k c.variable.0 p q o k₁ → length w₁ ≡ length w
      → (w' : List ℕ) → w' ≡ cond c.own (set w₁ (3 * run.cap + a) (word_of run.stamp o)) w₁ → Settled w w' run k c a p q o k₁
  made_settled w₁ o k₁ m n w' e = record {
    holds = record {
      is = m.holds.is ∙ ap (λ (s : Table). (s, o)) (sym (keep-nodes run.cap run.stamp a _ w₁ w' (slot_in w₁ n) c.own k₁ m.holds.fits e));
      fits = m.holds.fits;
    };
    memo = λ x lt. elim (keep-memo run.cap run.stamp a (word_of run.stamp o) w₁ w' (slot_in w₁ n) c.own e x) [
      | inl y ↦ inl (y ∙ m.memo (3 * run.cap + x) (omega arith) (omega arith))
      | inr y ↦ inr y
    ];
    chained = keep-chained run.cap run.stamp a _ w₁ w' (slot_in w₁ n) c.own k₁ m.holds.fits (omega (arith, a_in, r.noded.pushing.fits)) e m.chained;
  }
