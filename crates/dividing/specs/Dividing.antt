-- One step of the rule: a function's core, what is left beside it, and the mark, with the tables that they call for.
use Rattle.std.specs.Prelude.{◌≡◌, true, false, cond, List, [], ◌∷◌, ℕ, ltb, Option, Some, None}
use Rattle.theory.specs.Tree.{Tree, case_count, konst, same_tree}
use Rattle.rule.specs.Rule.{core_of, rest_of, node_total, mark_of, restrictions, step_calls, all_fit}
use Rattle.held.specs.Held.{Canonical, Tab, tree_in}
use Rattle.dividing.specs.declared.Core.{Core}
use Rattle.dividing.specs.declared.Least.{Least}
use Rattle.dividing.specs.declared.Parts.{Parts}

-- no constant: the rule's steps apply
pub record Inner (n : ℕ) (f : Tree) : Type 0 where
  pub some : same_tree f (konst n false) ≡ false
  pub part : same_tree f (konst n true) ≡ false

-- ---- step 1
-- a core so far, with its cases
pub record Standing (n room : ℕ) (w : List ℕ) (c : Core) : Type 0 where
  pub canonical : Canonical n room w c.count
  pub cases : c.cases ≡ case_count (tree_in n w c.count)

-- the core's table stands in the words, and all tables that were called for are within room; or one is over
abbrev pub CoreGiven : ℕ → ℕ → List ℕ → Tree → List Tree → Option Core → Type 0
CoreGiven n room w core ts (Some c) = Tab n room w c.count core × (c.cases ≡ case_count core) × (all_fit room n ts ≡ true)
CoreGiven n room w core ts None = all_fit room n ts ≡ false

-- ---- step 2
-- a function with its core beside it
pub record Coring (n room : ℕ) (f : Tree) (n' room' : ℕ) (core : Tree) (cases : ℕ) : Type 0 where
  pub inner : Inner n f
  pub marks : n' ≡ n
  pub rooms : room' ≡ room
  pub is : core ≡ core_of n f
  pub count : cases ≡ case_count (core_of n f)

abbrev pub RestGiven : ℕ → ℕ → List ℕ → Tree → List Tree → Option ℕ → Type 0
RestGiven n room w g ts (Some k) = Tab n room w k g × (all_fit room n ts ≡ true)
RestGiven n room w g ts None = all_fit room n ts ≡ false

-- ---- step 3
-- the mark of the smallest node total over xs and its total, from one with a total so far
unfoldable pub pick_from : ℕ → Tree → List ℕ → ℕ → ℕ → ℕ × ℕ
pick_from n g [] best least = (best, least)
pick_from n g (x ∷ xs) best least = cond (ltb (node_total n g x) least) (pick_from n g xs x (node_total n g x)) (pick_from n g xs best least)

abbrev pub Picks : ℕ → ℕ → Tree → List ℕ → ℕ → ℕ → Option Least → Type 0
Picks n room g xs best least (Some l) = (◌≡◌ {A = ℕ × ℕ} (l.mark.0, l.total) (pick_from n g xs best least)) × (all_fit room n (restrictions g xs) ≡ true)
Picks n room g xs best least None = all_fit room n (restrictions g xs) ≡ false

-- ---- the three steps
abbrev pub Divides : ℕ → ℕ → Tree → List ℕ → List ℕ → Option Parts → Type 0
Divides n room f core rest (Some p) = Tab n room core p.core (core_of n f) × Tab n room rest p.rest (rest_of n f) × (p.mark.0 ≡ mark_of n f) × (all_fit room n (step_calls n f) ≡ true)
Divides n room f core rest None = all_fit room n (step_calls n f) ≡ false
