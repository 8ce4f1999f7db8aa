-- Laws of the search for a node: the nodes that are left stand first in the rest of the words.
use Rattle.std.proofs.Common.{◌≡◌, ap, ◌∙◌, false, List, ℕ, ◌+◌, ◌*◌, ◌-◌, ◌<◌, ◌≤◌, length, arith}
use Rattle.std.specs.Prelude.{get_or, take, drop}
use Rattle.std.proofs.lemmas.List.{get_or-drop, take_all, length-drop}
use native.Mathlib.Decide.{dec_lt}
use Rattle.theory.specs.Table.{node, same}
use Rattle.theory.specs.Words.{stride, node_at}
use Rattle.pool.proofs.PoolLaws.{differs}

-- so many nodes are left, the first of them first in the rest, and none before them is the one that is looked for
pub record Above (w rest : List ℕ) (k top left v p q : ℕ) : Type 0 where
  pub few : top + left < k
  pub words : (i : ℕ) → get_or rest i 0 ≡ get_or w (stride * (k - left) + i) 0
  pub long : length rest + stride * (k - left) ≡ length w
  pub none : (j : ℕ) → top < j → j < k - left → node_at w j ≡ node v p q → ⊥

module _ (w rest : List ℕ) (k top left v p q : ℕ) (a : Above w rest k top left v p q) where
  first : node_at rest 0 ≡ node_at w (k - left)
  first =
      let z : stride * (k - left) + 0 ≡ stride * (k - left) = omega arith in
      rw (a.words 0, a.words 1, a.words 2, z)

  module _ (some : 0 < left) (long : stride * k ≤ length w) (f : same (node_at rest 0) (node v p q) ≡ false) where
    whole : take (length rest - stride) (drop stride rest) ≡ drop stride rest
    whole = take_all (length rest - stride) (drop stride rest) (omega (arith, length-drop stride rest))

    pub above_more : Above w (take (length rest - stride) (drop stride rest)) k top (left - 1) v p q
    above_more = record {
      few = omega (arith, a.few);
      words = λ i.
          let z : stride * (k - left) + (stride + i) ≡ stride * (k - (left - 1)) + i = omega (arith, a.few) in
          ap (λ l. get_or l i 0) whole ∙ get_or-drop stride rest i 0 ∙ a.words (stride + i) ∙ ap (λ n. get_or w n 0) z;
      long = omega (arith, ap length whole, length-drop stride rest, a.long, a.few);
      none = λ j above below e.
          elim (dec_lt j (k - left)) [
            | yes h ↦ a.none j above h e
            | no h ↦
                let z : k - left ≡ j = omega (arith, a.few) in
                differs (node_at rest 0) (node v p q) f (first ∙ ap (node_at w) z ∙ e)
          ];
    }
