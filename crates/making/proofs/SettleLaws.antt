-- The constants stored at the front, and the buffers settled.
use mathlib.Core.Path.{◌≡◌, ap, ◌∙◌}
use mathlib.Core.List.{List, [], ◌∷◌, ◌++◌}
use Prim.Native.Nat.{ℕ, ◌*◌, ◌≤◌}
use native.Mathlib.Omega.{arith}
use lib.ListN.{length, get_or, length-set}
use Rattle.theory.specs.Table.{node, constants}
use Rattle.theory.specs.Words.{stride, nodes, with_node}
use Rattle.theory.proofs.Words.{nodes_push, node_beyond}
use Rattle.making.specs.Made.{Beyond}

-- the constants, one after the other
module _ (l l₁ l₂ : List ℕ) (n : ℕ) (h : stride * 2 ≤ length l) (e₁ : l₁ ≡ with_node l 0 n 0 0) (e₂ : l₂ ≡ with_node l₁ 1 n 1 1) where
  pub still_long : length l₁ ≡ length l
  still_long = ap length e₁ ∙ simp length-set

  first-stored : nodes 1 l₁ ≡ node n 0 0 ∷ []
  unfolding nodes
  first-stored = ap (nodes 1) e₁ ∙ nodes_push 0 l n 0 0 (omega arith)

  pub constants-stored : nodes 2 l₂ ≡ constants n
  constants-stored =
      ap (nodes 2) e₂
      ∙ nodes_push 1 l₁ n 1 1 (omega (arith, still_long))
      ∙ ap (λ s. s ++ (node n 1 1 ∷ [])) first-stored

  pub constants_beyond : Beyond 2 l l₂
  constants_beyond i g = ap (λ w. get_or w i 0) e₂ ∙ node_beyond 1 l₁ n 1 1 i (omega arith) ∙ ap (λ w. get_or w i 0) e₁ ∙ node_beyond 0 l n 0 0 i (omega arith)
