-- Trees have decidable equality, so that an equation of trees has one proof at most.
use mathlib.Core.HLevel.{hedberg}
use Rattle.std.proofs.Common.{◌≡◌, Bool, true, false, refl, sym, ap, ◌∙◌}
use Rattle.theory.specs.Tree.{Tree, same_tree}
use Rattle.theory.proofs.Support.{same_equal, same_refl}

told : (t u : Tree) (b : Bool) → same_tree t u ≡ b → Dec (t ≡ u)
told t u true e = yes (same_equal t u e)
told t u false e = no (λ p. clash (sym (same_refl t) ∙ ap (same_tree t) p ∙ e))
  where
    clash : true ≡ false → ⊥
    clash q = cc

pub tree_set : IsSet Tree
tree_set = hedberg (λ t u. told t u (same_tree t u) refl)
