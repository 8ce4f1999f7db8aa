-- Laws of finding and making a node.
use mathlib.Core.Path.{◌≡◌, sym, ap, subst, ◌∙◌}
use mathlib.Core.Bool.{true, false, cond}
use mathlib.Core.List.{List, [], ◌∷◌, ◌++◌}
use mathlib.Core.Logic.{◌⊎◌, inl, inr}
use Prim.Native.Nat.{ℕ, suc, ◌+◌, ◌<◌, ◌≤◌}
use native.Mathlib.Omega.{arith}
use lib.ListN.{length, get_or, length-append}
use Rattle.theory.specs.Table.{Node, node, Table, at, same, find, grow, mk}
use Rattle.theory.specs.Words.{nodes, with_node}
use Rattle.theory.proofs.Step.{inner}
use Rattle.theory.proofs.Find.{same_refl, find-is, find_none, Fresh, Present, grow-cases, mk-same, mk-other}
use Rattle.theory.proofs.Words.{length-nodes, at-nodes, nodes_push, node_beyond}
use Rattle.making.specs.Made.{Beyond}
use Rattle.std.specs.Prelude.{Option}
use Rattle.table.specs.declared.BddPointer.{BddPointer}
use Rattle.pool.specs.Pool.{Hit, Miss, Pushing, Noding, Holds, Answers, pushed}

pub differs : (x y : Node) → same x y ≡ false → x ≡ y → ⊥
differs x y f e = let z : ◌≡◌ {A = ℕ} 1 0 = ap (λ b. cond b 1 0) (sym (same_refl x) ∙ ap (same x) e ∙ f) in omega arith

-- a push changes nothing from the room on
pub beyond_push : (room k v p q : ℕ) (w w' : List ℕ) → k < room → w' ≡ with_node w k v p q → Beyond room w w'
beyond_push room k v p q w w' h e i g = ap (λ l. get_or l i 0) e ∙ node_beyond k w v p q i (omega arith)

-- a node pushed
module _ (w : List ℕ) (room k v p q : ℕ) (r : Pushing w room k) where
  pub push_full : room ≤ k → room < length (pushed w k v p q).0
  push_full h = omega (arith, length-nodes k w, length-append (nodes k w) (node v p q ∷ []))

  pub push_made : k < room → (w' : List ℕ) → w' ≡ with_node w k v p q → Holds (pushed w k v p q) room w' k (k + 1)
  push_made h w' e = record {
    is =
        let z : suc k ≡ k + 1 = omega arith in
        ap (λ (s : Table). (s, k))
        (sym (nodes_push k w v p q (omega (arith, r.long))) ∙ ap (λ i. nodes i (with_node w k v p q)) z ∙ ap (nodes (k + 1)) (sym e));
    fits = omega arith;
  }

-- a node found or made is what `mk` says
module _ (w : List ℕ) (n room k v p q : ℕ) (r : Noding w n room k v p q) where
  long : length (nodes k w) ≡ k
  long = length-nodes k w

  pub low_in : p < k
  low_in = omega (arith, r.low.lies, long)

  pub high_in : q < k
  high_in = omega (arith, r.high.lies, long)

  pub node-same : p ≡ q → Holds (mk (nodes k w) v p q) room w p k
  node-same e = record { is = ap (mk (nodes k w) v p) (sym e) ∙ mk-same (nodes k w) v p; fits = r.pushing.fits }

  -- where the node stands, it stands above both its links
  above : (i : ℕ) → i < k → at (nodes k w) i ≡ node v p q → (2 ≤ i) × (p < i) × (q < i)
  above i h e =
      let il : i < length (nodes k w) = omega (arith, long) in
      let two : 2 ≤ i = inner n (nodes k w) r.good.ordered i il (rw e r.level) in
      (two, (rw e at (r.good.ordered.links i false two il)), (rw e at (r.good.ordered.links i true two il)))

  pub node_hit : (p ≡ q → ⊥) → (i : ℕ) → Hit w k v p q i → Holds (mk (nodes k w) v p q) room w i k
  node_hit ne i h =
      let il : i < length (nodes k w) = omega (arith, long, h.below) in
      let e : at (nodes k w) i ≡ node v p q = at-nodes k w i h.below ∙ h.same in
      let f : find (nodes k w) (node v p q) ≡ i =
      find-is (nodes k w) (node v p q) i il e
      (λ m lt d.
      let a = above m (omega (arith, h.below)) d in
      let b = above i h.below e in
      omega (arith, r.good.once m i a.0 b.0 (omega arith) il (d ∙ sym e))) in
      record { is = mk-other (nodes k w) v p q ne ∙ had (grow-cases (nodes k w) (node v p q)) f il; fits = r.pushing.fits }
    where
      had : Fresh (nodes k w) (node v p q) ⊎ Present (nodes k w) (node v p q) → find (nodes k w) (node v p q) ≡ i → i < length (nodes k w)
          → ◌≡◌ {A = Table × ℕ} (grow (nodes k w) (node v p q), find (nodes k w) (node v p q)) (nodes k w, i)
      had (inl m) f il = absurd (let z : ⊥ = omega (arith, m.place) in z)
      had (inr m) f il = rw (m.table, f)

  none : (p ≡ q → ⊥) → Miss w k v p q → mk (nodes k w) v p q ≡ pushed w k v p q
  none ne m =
      let f : find (nodes k w) (node v p q) ≡ length (nodes k w) =
      find_none (nodes k w) (node v p q)
      (λ i h e. let hk : i < k = omega (arith, long) in let a = above i hk e in m i a.1 a.2 hk (sym (at-nodes k w i hk) ∙ e)) in
      mk-other (nodes k w) v p q ne ∙ made (grow-cases (nodes k w) (node v p q)) f
    where
      made : Fresh (nodes k w) (node v p q) ⊎ Present (nodes k w) (node v p q) → find (nodes k w) (node v p q) ≡ length (nodes k w)
          → ◌≡◌ {A = Table × ℕ} (grow (nodes k w) (node v p q), find (nodes k w) (node v p q)) (nodes k w ++ (node v p q ∷ []), k)
      made (inl m) f = rw (m.table, f, long)
      made (inr m) f = absurd (let z : ⊥ = omega (arith, m.place) in z)

  -- pushed after a search that found none
  pub node_pushed : (p ≡ q → ⊥) → Miss w k v p q → (w' : List ℕ) (answer : Option (BddPointer × ℕ))
      → Answers (pushed w k v p q) room w' answer → Answers (mk (nodes k w) v p q) room w' answer
  node_pushed ne m w' answer a = subst (λ z. Answers z room w' answer) (sym (none ne m)) a
