-- The walk as a whole: each step yields the next clause of the table's path list, and after the last every step says ended.
use mathlib.Core.Path.{◌≡◌, refl, sym, ap, ap₂, subst⁻¹, ◌∙◌}
use mathlib.Core.Logic.{inl, inr}
use mathlib.Core.Bool.{true}
use mathlib.Core.List.{List, [], ◌∷◌}
use Prim.Native.Nat.{ℕ, zero, suc, ◌-◌, ◌≤◌, ◌<◌}
use native.Mathlib.Omega.{arith}
use lib.ListN.{length, get_or}
use borrow.Author.Tests.{ne_eqb}
use Rattle.theory.specs.Table.{Reduced}
use Rattle.theory.specs.Words.{nodes}
use Rattle.theory.specs.Clause.{Clause, empty_clause}
use Rattle.theory.proofs.Words.{length-nodes}
use Rattle.refusal.specs.Verdict.{refused}
use Rattle.table.specs.Inspection.{SoundTable}
use Rattle.paths.specs.Paths.{path_list}
use Rattle.reduced.specs.Reduced.{admits_walk}
use Rattle.walk.specs.Path.{kept, turned, path_next, first_path, state_of, Held}
use Rattle.walk.specs.Step.{ended, yields, step_of, next_path, start_by, start_of, held_words, words_of, path_of, path_after, kth_step, tells, clauses_by, walk_clauses}
use Rattle.reduced.proofs.CheckLaws.{Stopped, Admitted, walk-either, reduced_admits, refused-number}
use Rattle.walk.proofs.PathLaws.{held-is}
use Rattle.walk.proofs.Ways.{walk-holds, walk-tells}

-- with no path, there is none after it
none_after : (w : List ℕ) (k : ℕ) → path_after k w (state_of []) ≡ state_of []
unfolding next_path path_next kept turned
none_after w zero = refl
none_after w (suc k) = ap (next_path w) (none_after w k) ∙ ap (λ x. state_of (path_next w x)) (held-is [])

none-ends : (w : List ℕ) → step_of w (state_of []) ≡ ended
unfolding step_of
none-ends w = refl

module _ (n count : ℕ) (w : List ℕ) where
  -- a refused start has no path
  module _ (m : Stopped n count w) where
    stopped_path : path_of (start_of n count w) ≡ state_of []
    unfolding start_of start_by
    stopped_path = ap (λ v. path_of (start_by v (first_path w (count - 1)))) m.is

    stopped_after : (k : ℕ) → path_after k (words_of n count w) (path_of (start_of n count w)) ≡ state_of []
    stopped_after k = ap (path_after k (words_of n count w)) stopped_path ∙ none_after (words_of n count w) k

    stopped-ends : (k : ℕ) → kth_step n count w k ≡ tells (walk_clauses n count w) k
    unfolding tells clauses_by
    stopped-ends k = ap (step_of (words_of n count w)) (stopped_after k) ∙ none-ends (words_of n count w) ∙ sym (ap (λ v. tells (clauses_by v (path_list true n (nodes count w))) k) m.is)

  -- an admitted one has the first
  module _ (m : Admitted n count w) where
    admitted_path : path_of (start_of n count w) ≡ state_of (first_path w (count - 1))
    unfolding start_of start_by
    admitted_path = ap (λ v. path_of (start_by v (first_path w (count - 1)))) m.is

    admitted_words : words_of n count w ≡ w
    unfolding start_of start_by held_words
    admitted_words = ap (λ v. held_words (start_by v (first_path w (count - 1))).number w) m.is

    lies : count - 1 < count
    lies = omega (arith, m.sound.some)

    last : count - 1 ≡ length (nodes count w) - 1
    last = omega (arith, length-nodes count w)

    admitted_after : (k : ℕ) → path_after k (words_of n count w) (path_of (start_of n count w)) ≡ path_after k w (state_of (first_path w (count - 1)))
    admitted_after k = ap₂ (path_after k) admitted_words admitted_path

    admitted_tells : (k : ℕ) → kth_step n count w k ≡ tells (walk_clauses n count w) k
    unfolding clauses_by
    admitted_tells k =
        ap₂ step_of admitted_words (admitted_after k) ∙ walk-tells w n count m.reduced m.sound.marks m.sound.long (count - 1) lies last k
        ∙ sym (ap (λ v. tells (clauses_by v (path_list true n (nodes count w))) k) m.is)

  -- the step after k others, for any words at all
  pub kth_tells : (k : ℕ) → kth_step n count w k ≡ tells (walk_clauses n count w) k
  kth_tells k = elim (walk-either n count w) [ inl m ↦ admitted_tells m k | inr m ↦ stopped-ends m k ]

  -- what the walk holds then
  pub after_held : (k : ℕ) → Held (words_of n count w) (path_after k (words_of n count w) (path_of (start_of n count w)))
  after_held k = elim (walk-either n count w) [
    | inl m ↦
        subst⁻¹ (Held (words_of n count w)) (admitted_after m k)
        (subst⁻¹ (λ v. Held v (path_after k w (state_of (first_path w (count - 1))))) (admitted_words m) (walk-holds w n count m.reduced m.sound.marks m.sound.long (count - 1) (lies m) (last m) k))
    | inr m ↦ record { way = []; is = stopped_after m k; right = inl refl }
  ]

  -- a refused start: number and place of the refusal, none of the words, no path; an admitted one: the first path over the whole words
  pub start_refused : (number place : ℕ) → admits_walk n count w ≡ refused number place
      → (start_of n count w ≡ record { number = number; place = place; first = state_of [] }) × (words_of n count w ≡ [])
  unfolding start_of start_by held_words
  start_refused number place e = (
    ap (λ v. start_by v (first_path w (count - 1))) e,
    ap (λ v. held_words (start_by v (first_path w (count - 1))).number w) e ∙ rw (ne_eqb number 0 (refused-number n count w number place e)),
  )

  -- the clauses of a walk that is not refused are the table's path list, and of one that is there are none
  pub reduced-clauses : SoundTable n count w (count - 1) → Reduced n (nodes count w) → walk_clauses n count w ≡ path_list true n (nodes count w)
  unfolding clauses_by
  reduced-clauses t r = ap (λ v. clauses_by v (path_list true n (nodes count w))) (reduced_admits n count w t r)

  pub refused-clauses : (number place : ℕ) → admits_walk n count w ≡ refused number place → walk_clauses n count w ≡ []
  unfolding clauses_by
  refused-clauses number place e = ap (λ v. clauses_by v (path_list true n (nodes count w))) e

-- a walk through clauses, step by step
pub tells-clause : (cs : List Clause) (k : ℕ) → k < length cs → tells cs k ≡ yields (get_or cs k empty_clause)
unfolding tells
tells-clause [] k h = absurd (let z : ⊥ = omega arith in z)
tells-clause (c ∷ cs) zero h = refl
tells-clause (c ∷ cs) (suc k) h = tells-clause cs k (omega arith)

pub tells-ended : (cs : List Clause) (k : ℕ) → length cs ≤ k → tells cs k ≡ ended
unfolding tells
tells-ended [] k h = refl
tells-ended (c ∷ cs) zero h = absurd (let z : ⊥ = omega arith in z)
tells-ended (c ∷ cs) (suc k) h = tells-ended cs k (omega arith)
