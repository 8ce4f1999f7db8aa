-- When the check says that list and table agree, where it says that they differ, and when it is refused for nodes: of its own verdict.
use mathlib.Core.Path.{◌≡◌, refl, sym, ap, subst, ◌∙◌}
use mathlib.Core.Logic.{◌↔◌, ◌⊎◌, inl, inr}
use mathlib.Core.Bool.{Bool, true, false, cond}
use mathlib.Core.List.{List}
use Prim.Native.Nat.{ℕ, ◌^◌, ◌<◌, ◌≤◌}
use native.Mathlib.Omega.{arith}
use lib.ListN.{length}
use Rattle.theory.specs.Tree.{Tree, Deep, look, same_tree}
use Rattle.theory.specs.Table.{Table, meaning}
use Rattle.theory.specs.Words.{nodes}
use Rattle.theory.proofs.Cases.{look-tabulate}
use Rattle.theory.proofs.Small.{meaning-deep}
use Rattle.theory.proofs.Support.{same_equal}
use Rattle.refusal.specs.Number.{NODES}
use Rattle.refusal.specs.Verdict.{Finding, Verdict, refused, answered, judged}
use Rattle.refusal.proofs.Judged.{Clean, judged-answer, not-answered}
use Rattle.refusal.proofs.Single.{OneToOne, Single, single, reply-one}
use Rattle.table.specs.Case.{table_says}
use Rattle.making.specs.Made.{table_answer}
use Rattle.cube.specs.Cube.{dnf, clause_at, opening}
use Rattle.cube.proofs.Runs.{means-deep}
use Rattle.builders.specs.Builders.{run_means, shortest_over}
use Rattle.builders.proofs.Built.{NoRoom, build-is, refused_none, none-refused}
use Rattle.refusal.specs.Told.{reply_of}
use Rattle.cover.specs.declared.Cover.{Cover}
use Rattle.cover.specs.declared.Cover.TheVariants.{Agrees, Differs}
use Rattle.cover.specs.Cover.{cover_words, cover_findings, first_differing, agreement, difference, cover_answer, checks_cover}
use Rattle.cover.proofs.FirstLaws.{First, first_one, first-is, first-same}
use Rattle.cover.proofs.CoverLaws.{over_runs, covers-is}

-- different answers have different words
pub cover-apart : (x y : Cover) → cover_words x ≡ cover_words y → x ≡ y
cover-apart Agrees Agrees e = refl
cover-apart Agrees (Differs d) e = absurd (omega (arith, ap length e))
cover-apart (Differs c) Agrees e = absurd (omega (arith, ap length e))
cover-apart (Differs c) (Differs d) e = let is : c ≡ d = cc in ap Differs is

pub cover_one : OneToOne (reply_of cover_words)
cover_one = reply-one cover_words cover-apart

-- ---- two functions compared
not-both : (c : ℕ) → agreement ≡ difference c → ⊥
not-both c e = let z : ◌≡◌ {A = ℕ} 0 1 = cc in omega arith

case-is : (c d : ℕ) → difference c ≡ difference d → c ≡ d
case-is c d e = cc

module _ (t u : Tree) where
  answer-cases : (v : Verdict) → v ≡ cover_answer t u → ((same_tree t u ≡ true) × (v ≡ agreement)) ⊎ ((same_tree t u ≡ false) × (v ≡ difference (first_differing t u)))
  unfolding cover_answer
  answer-cases v e =
      (elim (same_tree t u) as (λ b. same_tree t u ≡ b → v ≡ cond b agreement (difference (first_differing t u)) → ((same_tree t u ≡ true) × (v ≡ agreement)) ⊎ ((same_tree t u ≡ false) × (v ≡ difference (first_differing t u)))) [
        | true ↦ λ s h. inl (s, h)
        | false ↦ λ s h. inr (s, h)
      ]) refl e

  module _ (n : ℕ) (d : Deep n t) (d' : Deep n u) (v : Verdict) (e : v ≡ cover_answer t u) where
    abbrev Same : Type 0
    Same = (case : ℕ) → case < 2 ^ n → look t case ≡ look u case

    compared_same : (v ≡ agreement) ↔ Same
    compared_same = elim (answer-cases v e) [
      | inl h ↦ ((λ a case lt. ap (λ x. look x case) (same_equal t u h.0)), λ s. h.1)
      | inr h ↦
          let f : First n (look t) (look u) (first_differing t u) = first-is n t u d d' h.0 in
          ((λ a. absurd (not-both _ (sym a ∙ h.1))), λ s. absurd (f.differ (s _ f.small)))
    ]

    compared_first : (c : ℕ) → (v ≡ difference c) ↔ First n (look t) (look u) c
    compared_first c = elim (answer-cases v e) [
      | inl h ↦ ((λ a. absurd (not-both _ (sym h.1 ∙ a))), λ f. absurd (f.differ (ap (λ x. look x c) (same_equal t u h.0))))
      | inr h ↦
          let f : First n (look t) (look u) (first_differing t u) = first-is n t u d d' h.0 in
          ((λ a. subst (First n (look t) (look u)) (case-is _ c (sym h.1 ∙ a)) f), λ g. h.1 ∙ ap difference (first_one n (look t) (look u) _ c f g))
    ]

-- ---- the runs' room
past : (over : Bool) (place : ℕ) (answer v : Verdict) (vs : List ℕ) (outs : List (List ℕ)) → v ≡ cond over (refused NODES place) answer → v ≡ answered vs outs → v ≡ answer
past true place answer v vs outs e h = absurd (not-answered NODES place vs outs (sym e ∙ h))
past false place answer v vs outs e h = e

-- whatever the answer would be, it is refused for nodes alike
alike : (over : Bool) (place q : ℕ) (answer other : Verdict) → (answer ≡ refused NODES q → ⊥) → cond over (refused NODES place) answer ≡ refused NODES q → cond over (refused NODES place) other ≡ refused NODES q
alike true place q answer other never e = e
alike false place q answer other never e = absurd (never e)

answer_never : (t u : Tree) (q : ℕ) → cover_answer t u ≡ refused NODES q → ⊥
answer_never t u q e = elim (answer-cases t u (cover_answer t u) refl) [
  | inl h ↦ not-answered NODES q _ _ (sym e ∙ h.1)
  | inr h ↦ not-answered NODES q _ _ (sym e ∙ h.1)
]

table_never : (s : Table) (q : ℕ) → table_answer s ≡ refused NODES q → ⊥
unfolding table_answer
table_never s q e = not-answered NODES q _ _ (sym e)

-- ---- the check, for any input at all
module _ (n count : ℕ) (words : List ℕ) (clauses : ℕ) (list : List ℕ) (room : ℕ) (work : List ℕ) where
  -- what the list says of a case
  abbrev listed : ℕ → Bool
  listed = dnf n (opening (clause_at list) clauses)

  abbrev shortest : ℕ
  shortest = shortest_over true n clauses (clause_at list) room

  -- what may be wrong with the call
  abbrev fs : List Finding
  fs = cover_findings n count words clauses list room work

  abbrev verdict : Verdict
  verdict = checks_cover n count words clauses list room work

  t_deep : Deep n (run_means true n (clause_at list) clauses)
  t_deep = means-deep true n (opening (clause_at list) clauses)

  says : (case : ℕ) → case < 2 ^ n → look (run_means true n (clause_at list) clauses) case ≡ listed case
  says = look-tabulate n listed

  verdict_is : Clean (judged fs) → verdict
      ≡ cond (over_runs n clauses list room) (refused NODES shortest) (cover_answer (run_means true n (clause_at list) clauses) (meaning n (nodes count words)))
  unfolding checks_cover
  verdict_is clean = clean _ ∙ covers-is n count words clauses list room

  -- a check that is not refused has compared the two
  module _ (values : List ℕ) (outs : List (List ℕ)) (e : verdict ≡ answered values outs) where
    clean : Clean (judged fs)
    unfolding checks_cover
    clean = judged-answer fs _ values outs e

    compared : verdict ≡ cover_answer (run_means true n (clause_at list) clauses) (meaning n (nodes count words))
    compared = past (over_runs n clauses list room) shortest _ verdict values outs (verdict_is clean) e

    -- it says that they agree exactly if they say the same of every case
    pub agrees : (verdict ≡ agreement) ↔ ((case : ℕ) → case < 2 ^ n → listed case ≡ table_says n count words case)
    agrees =
        let same = compared_same (run_means true n (clause_at list) clauses) (meaning n (nodes count words)) n t_deep (meaning-deep n (nodes count words)) verdict compared in (
          (λ a case h. sym (says case h) ∙ same.0 a case h),
          (λ s. same.1 (λ case h. says case h ∙ s case h)),
        )

    -- it says that they differ at a case exactly if that is the first in which they do, in the order that compares mark 0 first, 0 before 1
    pub differs : (c : ℕ) → (verdict ≡ difference c) ↔ First n listed (table_says n count words) c
    differs c =
        let first = compared_first (run_means true n (clause_at list) clauses) (meaning n (nodes count words)) n t_deep (meaning-deep n (nodes count words)) verdict compared c in (
          (λ a. first-same n _ _ _ _ says (λ d h. refl) c (first.0 a)),
          (λ f. first.1 (first-same n _ _ _ _ (λ d h. sym (says d h)) (λ d h. refl) c f)),
        )

  -- past inspection
  module _ (clean : Clean (judged fs)) where
    -- refused for nodes: that run has no ordered table of at most room nodes, and every shorter one has
    pub check_refused : (place : ℕ) → verdict ≡ refused NODES place
        → (place ≤ clauses) × NoRoom n room (dnf n (opening (clause_at list) place)) × ((k : ℕ) → k < place → NoRoom n room (dnf n (opening (clause_at list) k)) → ⊥)
    check_refused place e =
        refused_none fs true n clauses (clause_at list) room clean place
        (build-is fs true n clauses (clause_at list) room clean ∙ alike (over_runs n clauses list room) shortest place _ _ (answer_never _ _ place) (sym (verdict_is clean) ∙ e))

    -- where some opening run has none, the check is refused for nodes
    pub check_over : (k : ℕ) → k ≤ clauses → NoRoom n room (dnf n (opening (clause_at list) k)) → verdict ≡ refused NODES shortest
    check_over k h no_room =
        verdict_is clean
        ∙ alike (over_runs n clauses list room) shortest shortest _ _ (table_never _ shortest)
        (sym (build-is fs true n clauses (clause_at list) room clean) ∙ none-refused fs true n clauses (clause_at list) room clean k h no_room)

  -- for any input at all, one possible return value; the work is given by an equation
  pub check_cover-single : Single (reply_of cover_words) verdict
  check_cover-single = single (reply_of cover_words) cover_one verdict
