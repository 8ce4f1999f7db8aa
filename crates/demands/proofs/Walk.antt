-- The path walk and the posting choice, over their entries' own definitions: step k of a walk yields clause k of to_dnf's list, and every later step says ended; a
-- refused start's steps all say ended; past inspection a start is refused exactly for a table that is not reduced, at its lowest offending node. Each promise leaves one
-- possible answer.
use mathlib.Core.Path.{◌≡◌, ◌∙◌, ap}
use mathlib.Core.Bool.{true, false, cond}
use mathlib.Core.List.{List}
use Prim.Native.Nat.{ℕ, ◌-◌, ◌≤◌, ◌<◌}
use lib.ListN.{length, get_or}
use Rattle.std.specs.Prelude.{Option}
use Rattle.theory.specs.Clause.{empty_clause}
use Rattle.theory.specs.Table.{Reduced}
use Rattle.theory.specs.Words.{nodes}
use Rattle.refusal.specs.Number.{REDUCED}
use Rattle.refusal.specs.Verdict.{refused}
use Rattle.refusal.specs.declared.Refusal.{Refusal}
use Rattle.refusal.proofs.Single.{Single, single}
use Rattle.table.specs.Inspection.{inspection_reply, SoundTable}
use Rattle.table.proofs.InspectionSingle.{inspection_one}
use Rattle.paths.specs.Paths.{path_list}
use Rattle.posting.specs.Posting.{posts_dnf, posting}
use Rattle.posting.proofs.Chosen as chosen
use Rattle.walk.specs.declared.BddPathIterator.{BddPathIterator}
use Rattle.valuation.specs.declared.BddPartialValuation.{BddPartialValuation}
use Rattle.reduced.specs.Reduced.{node_reduced, first_unreduced, admits_walk}
use Rattle.walk.specs.Step.{path_step_reply, ended, yields, kth_step, tells, walk_clauses, PathStart, start_of, words_of}
use Rattle.walk.specs.Walk.{start_in, refusal_in, Steps}
use Rattle.reduced.proofs.CheckLaws as check
use Rattle.walk.proofs.KthLaws as of
use Rattle.walk.proofs.WalkSingle as one

module _ (n count : ℕ) (words : List ℕ) where
  -- the step after k others, of a walk that is not refused
  step-tells : SoundTable n count words (count - 1) → Reduced n (nodes count words) → (k : ℕ)
      → (k < length (path_list true n (nodes count words)) → kth_step n count words k ≡ yields (get_or (path_list true n (nodes count words)) k empty_clause))
      × (length (path_list true n (nodes count words)) ≤ k → kth_step n count words k ≡ ended)
  step-tells t r k =
      let told : kth_step n count words k ≡ tells (path_list true n (nodes count words)) k = of.kth_tells n count words k ∙ ap (λ cs. tells cs k) (of.reduced-clauses n count words t r) in (
        (λ h. told ∙ of.tells-clause (path_list true n (nodes count words)) k h),
        (λ h. told ∙ of.tells-ended (path_list true n (nodes count words)) k h),
      )

  -- of a walk whose start is refused
  refused-ends : (number place : ℕ) → admits_walk n count words ≡ refused number place → (k : ℕ) → kth_step n count words k ≡ ended
  unfolding tells
  refused-ends number place e k = of.kth_tells n count words k ∙ ap (λ cs. tells cs k) (of.refused-clauses n count words number place e)

  -- REDUCED exactly for a sound table that is not reduced
  start_refused : SoundTable n count words (count - 1) → (Reduced n (nodes count words) → ⊥)
      → (first_unreduced n count words < count) × (admits_walk n count words ≡ refused REDUCED (first_unreduced n count words))
  start_refused = check.unreduced_refused n count words

  -- its place is the lowest node that offends
  start_lowest : first_unreduced n count words < count
      → (node_reduced n (nodes count words) (first_unreduced n count words) ≡ false) × ((i : ℕ) → i < first_unreduced n count words → node_reduced n (nodes count words) i ≡ true)
  start_lowest = check.unreduced_lowest n count words

  walk_check-single : Single inspection_reply (admits_walk n count words)
  walk_check-single = single inspection_reply inspection_one (admits_walk n count words)

  kth_step-single : (k : ℕ) → Single path_step_reply (tells (walk_clauses n count words) k)
  kth_step-single = one.kth_single n count words

  -- a start: the words that it holds, where they start, and what it found
  new-single : {P : Type 0} (at p q : P) (u v : List ℕ) (a b : PathStart)
      → (u ≡ words_of n count words) × (p ≡ at) × (a ≡ start_of n count words) → (v ≡ words_of n count words) × (q ≡ at) × (b ≡ start_of n count words) → (u ≡ v) × (p ≡ q) × (a ≡ b)
  new-single = one.new-single n count words

  -- what it found is the path and the refusal of the walk, so the walk itself is one
  started-single : (at : ℕ × ℕ) (a b : BddPathIterator)
      → (a.bdd.now ≡ words_of n count words) × (a.bdd.ref_ptr ≡ at) × (start_in a ≡ start_of n count words)
      → (b.bdd.now ≡ words_of n count words) × (b.bdd.ref_ptr ≡ at) × (start_in b ≡ start_of n count words) → a ≡ b
  started-single = one.started-single n count words

-- a step: what it says, and the walk afterwards
next-single : (i a b : BddPathIterator) (x y : Option BddPartialValuation) → Steps i x a → Steps i y b → (x ≡ y) × (a ≡ b)
next-single = one.next-single

refusal-single : (i : BddPathIterator) (a b : Option Refusal) → a ≡ refusal_in i → b ≡ refusal_in i → a ≡ b
refusal-single = one.refusal-single

-- the posting choice: its words, and where they start
choose_posting-single : (dnf cnf : List ℕ) {P : Type 0} (d c p q : P) (u v : List ℕ)
    → u ≡ posting dnf cnf → p ≡ cond (posts_dnf dnf cnf) d c → v ≡ posting dnf cnf → q ≡ cond (posts_dnf dnf cnf) d c → (u ≡ v) × (p ≡ q)
choose_posting-single dnf cnf = chosen.single dnf cnf
