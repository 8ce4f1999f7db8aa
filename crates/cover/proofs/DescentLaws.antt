-- Two nodes of a good table, descended together.
use mathlib.Core.Path.{◌≡◌, refl, sym, ap, ap₂, ◌∙◌}
use mathlib.Core.Bool.{Bool, true, false, cond}
use mathlib.Core.List.{List}
use Prim.Native.Nat.{ℕ, zero, suc, ◌+◌, ◌*◌, ◌-◌, ◌^◌, ◌<◌, ◌≤◌}
use native.Mathlib.Omega.{arith}
use native.Mathlib.Decide.{ℕ_discrete}
use native.Mathlib.Numerals.{add-one}
use lib.Dec.{eqb}
use lib.Pow.{pow_mono}
use borrow.Author.Tests.{eq-eqb, ne_eqb}
use Rattle.theory.specs.Tree.{Tree, leaf, fork, Deep, same_tree}
use Rattle.theory.specs.Table.{Table, step, tree_of, Good}
use Rattle.theory.specs.Words.{nodes}
use Rattle.theory.proofs.Step.{Stands, stands-step}
use Rattle.theory.proofs.Walk.{alone}
use Rattle.theory.proofs.Small.{tree_of-deep}
use Rattle.theory.proofs.Words.{length-nodes}
use Rattle.theory.proofs.Support.{same_equal, same_refl}
use Rattle.refusal.specs.Limits.{max_marks}
use Rattle.join.specs.Task.{step_in}
use Rattle.join.proofs.LeafLaws.{step_in_lem}
use Rattle.cover.specs.Cover.{first_differing}
use Rattle.cover.specs.Compare.{Paired}

-- ---- in a good table equal functions are one node
pub same_nodes : (n : ℕ) (s : Table) → Good n s → (k l p q : ℕ) → l + k ≡ n → Stands s l p → Stands s l q → same_tree (tree_of k s l p) (tree_of k s l q) ≡ eqb p q
same_nodes n s g k l p q e a b = elim (ℕ_discrete p q) [
  | yes is ↦ rw is (same_refl (tree_of k s l q) ∙ sym (eq-eqb q q refl))
  | no ne ↦ told-apart ne (same_tree (tree_of k s l p) (tree_of k s l q)) refl ∙ sym (ne_eqb p q ne)
]
  where
    told-apart : (p ≡ q → ⊥) → (v : Bool) → same_tree (tree_of k s l p) (tree_of k s l q) ≡ v → same_tree (tree_of k s l p) (tree_of k s l q) ≡ false
    told-apart ne true is = absurd (ne (alone n s g k l p q e a b (same_equal (tree_of k s l p) (tree_of k s l q) is)))
    told-apart ne false is = is

-- ---- the descent
pub first_small : (k : ℕ) (t u : Tree) → Deep k t → first_differing t u < 2 ^ k
unfolding first_differing
first_small zero (leaf a) u d = omega arith
first_small zero (fork lo hi) u d = absurd d
first_small (suc k) (leaf a) u d = absurd d
first_small (suc k) (fork lo hi) (leaf b) d = omega (arith, pow_mono {i = 0} {j = suc k} (omega arith))
first_small (suc k) (fork lo hi) (fork lo' hi') d = side (same_tree lo lo') (first_small k lo lo' d.0) (first_small k hi hi' d.1)
  where
    side : (same : Bool) → first_differing lo lo' < 2 ^ k → first_differing hi hi' < 2 ^ k → cond same (2 * first_differing hi hi' + 1) (2 * first_differing lo lo') < 2 ^ suc k
    side true a b = omega arith
    side false a b = omega arith

down : (k : ℕ) (s : Table) (l p q : ℕ) (same : Bool) → same_tree (tree_of k s (suc l) (step s l false p)) (tree_of k s (suc l) (step s l false q)) ≡ same
    → first_differing (tree_of (suc k) s l p) (tree_of (suc k) s l q)
    ≡ cond same (2 * first_differing (tree_of k s (suc l) (step s l true p)) (tree_of k s (suc l) (step s l true q)) + 1) (2 * first_differing (tree_of k s (suc l) (step s l false p)) (tree_of k s (suc l) (step s l false q)))
unfolding tree_of first_differing
down k s l p q same e = rw e

module _ (n count : ℕ) (words : List ℕ) where
  abbrev s : Table
  s = nodes count words

  -- the first case from a level on
  abbrev pub first_from : ℕ → ℕ → ℕ → ℕ
  first_from level p q = first_differing (tree_of (n - level) s level p) (tree_of (n - level) s level q)

  pub none_left : (level p q : ℕ) → level ≡ n → 0 ≡ first_from level p q
  unfolding tree_of first_differing
  none_left level p q e = let z : n - level ≡ 0 = omega arith in rw z

  module _ (level p q : ℕ) (g : Paired n level count words p q) where
    pub left-lies : p < count
    left-lies = omega (arith, g.left.lies, length-nodes count words)

    pub right-lies : q < count
    right-lies = omega (arith, g.right.lies, length-nodes count words)

    module _ (ne : level ≡ n → ⊥) where
      more : n - level ≡ suc (n - suc level)
      more = omega (arith, g.within)

      module _ (bit : Bool) (p' q' : ℕ) (ep : p' ≡ step_in words level bit p) (eq : q' ≡ step_in words level bit q) where
        left_is : p' ≡ step s level bit p
        left_is = ep ∙ step_in_lem count words level bit p left-lies

        right_is : q' ≡ step s level bit q
        right_is = eq ∙ step_in_lem count words level bit q right-lies

        pub paired_below : Paired n (level + 1) count words p' q'
        paired_below = record {
          marks = g.marks;
          within = omega (arith, g.within);
          few = g.few;
          long = g.long;
          good = g.good;
          left = rw (left_is, add-one level) (stands-step n s g.good.ordered level bit p (omega (arith, g.within)) g.left);
          right = rw (right_is, add-one level) (stands-step n s g.good.ordered level bit q (omega (arith, g.within)) g.right);
        }

        -- a case of fewer marks, so that twice it and one more is a case too
        pub first_fits : (r : ℕ) → r ≡ first_from (level + 1) p' q' → 2 * r + 1 < 2 ^ max_marks
        first_fits r e =
            let small = first_small (n - (level + 1)) _ (tree_of (n - (level + 1)) s (level + 1) q') (tree_of-deep (n - (level + 1)) s (level + 1) p') in
            let most : 2 ^ (n - (level + 1)) ≤ 2 ^ 59 = pow_mono {i = n - (level + 1)} {j = 59} (omega (arith, g.marks, g.within)) in
            omega (arith, e, small, most)

        first-is : (r : ℕ) → r ≡ first_from (level + 1) p' q'
            → r ≡ first_differing (tree_of (n - suc level) s (suc level) (step s level bit p)) (tree_of (n - suc level) s (suc level) (step s level bit q))
        first-is r e = rw (left_is, right_is, add-one level) at e

      module _ (low other : ℕ) (el : low ≡ step_in words level false p) (eo : other ≡ step_in words level false q) where
        same-is : same_tree (tree_of (n - suc level) s (suc level) (step s level false p)) (tree_of (n - suc level) s (suc level) (step s level false q)) ≡ eqb low other
        same-is =
            same_nodes n s g.good (n - suc level) (suc level) _ _ (omega (arith, g.within))
            (stands-step n s g.good.ordered level false p (omega (arith, g.within)) g.left)
            (stands-step n s g.good.ordered level false q (omega (arith, g.within)) g.right)
            ∙ sym (ap₂ eqb (left_is false low other el eo) (right_is false low other el eo))

        pub first-high : low ≡ other → (high other-high : ℕ) → high ≡ step_in words level true p → other-high ≡ step_in words level true q
            → (r : ℕ) → r ≡ first_from (level + 1) high other-high → 2 * r + 1 ≡ first_from level p q
        first-high same high other-high eh eo r e =
            rw more (ap (λ x. 2 * x + 1) (first-is true high other-high eh eo r e) ∙ sym (down (n - suc level) s level p q true (same-is ∙ eq-eqb low other same)))

        pub first-low : (low ≡ other → ⊥) → (r : ℕ) → r ≡ first_from (level + 1) low other → 2 * r ≡ first_from level p q
        first-low ne r e = rw more (ap (λ x. 2 * x) (first-is false low other el eo r e) ∙ sym (down (n - suc level) s level p q false (same-is ∙ ne_eqb low other ne)))
