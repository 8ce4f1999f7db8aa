-- What a built table means, that it is smallest, and when a build is refused for nodes: of each builder's own verdict.
use mathlib.Core.Path.{◌≡◌, refl, sym, ap, subst, ◌∙◌}
use mathlib.Core.Bool.{Bool, true, false, cond, not}
use mathlib.Core.List.{List}
use Prim.Native.Nat.{ℕ, suc, ◌-◌, ◌^◌, ◌<◌, ◌≤◌}
use native.Mathlib.Omega.{arith}
use native.Mathlib.Decide.{dec_lt}
use lib.Dec.{ltb}
use lib.ListN.{length}
use borrow.Author.Tests.{lt-ltb, ltb-true}
use Rattle.theory.specs.Tree.{Tree, look, tabulate}
use Rattle.theory.specs.Table.{Table, meaning, canon, Ordered}
use Rattle.theory.specs.Clause.{Clause}
use Rattle.theory.proofs.Cases.{look_ext, look-tabulate, tabulate-deep}
use Rattle.theory.proofs.Canon.{canon-means, canon-ordered}
use Rattle.theory.proofs.Small.{small, tree_of-deep}
use Rattle.refusal.specs.Number.{NODES, order}
use Rattle.refusal.specs.Verdict.{Finding, Verdict, refused, answered, first_of, tried, judged}
use Rattle.refusal.proofs.Judged.{Clean, judged-answer, not-answered}
use Rattle.refusal.proofs.Firsts.{first-before, first_fails}
use Rattle.making.specs.Made.{makes, table_answer}
use Rattle.cube.specs.Cube.{dnf, cnf, list_says, clause_at, case_at, opening}
use Rattle.builders.specs.Builders.{listed_case, list_findings, run_means, shortest_over, builds, makes_dnf, makes_cnf, makes_dnf_valuation, makes_cnf_valuation}
use Rattle.builders.proofs.ListLaws.{cases-small}
use Rattle.builders.proofs.ListedCases.{dnf-listed, cnf-listed}

-- an ordered table that says f of every case
pub record Says (n : ℕ) (f : ℕ → Bool) (table : Table) : Type 0 where
  pub ordered : Ordered n table
  pub answers : (case : ℕ) → case < 2 ^ n → look (meaning n table) case ≡ f case

-- the verdict is a table that says f of every case, and no ordered table that does has fewer nodes
pub record Smallest (n : ℕ) (f : ℕ → Bool) (v : Verdict) : Type 0 where
  pub table : Table
  pub answer : v ≡ table_answer table
  pub says : Says n f table
  pub least : (other : Table) → Says n f other → length table ≤ length other

-- no ordered table of at most room nodes says f of every case
pub NoRoom : ℕ → ℕ → (ℕ → Bool) → Type 0
NoRoom n room f = (table : Table) → Says n f table → length table ≤ room → ⊥

-- ---- one function
module _ (n : ℕ) (f : ℕ → Bool) where
  canon-says : Says n f (canon n (tabulate n f))
  canon-says = record {
    ordered = canon-ordered n (tabulate n f) (tabulate-deep n f);
    answers = λ case h. ap (λ t. look t case) (canon-means n (tabulate n f) (tabulate-deep n f)) ∙ look-tabulate n f case h;
  }

  canon-least : (other : Table) → Says n f other → length (canon n (tabulate n f)) ≤ length other
  unfolding meaning
  canon-least other s =
      let same : meaning n other ≡ tabulate n f =
      look_ext n (meaning n other) (tabulate n f) (tree_of-deep n other 0 _) (tabulate-deep n f) (λ case h. s.answers case h ∙ sym (look-tabulate n f case h)) in
      subst (λ (t : Tree). length (canon n t) ≤ length other) same (small n other s.ordered)

  over_none : (room : ℕ) → room < length (canon n (tabulate n f)) → NoRoom n room f
  unfolding NoRoom
  over_none room h table s le = omega (arith, canon-least table s)

  none_over : (room : ℕ) → NoRoom n room f → room < length (canon n (tabulate n f))
  unfolding NoRoom
  none_over room h = elim (dec_lt room (length (canon n (tabulate n f)))) [
    | yes e ↦ e
    | no e ↦ absurd (h (canon n (tabulate n f)) canon-says (omega arith))
  ]

-- what says the same of every case
smallest-same : (n : ℕ) (f g : ℕ → Bool) (v : Verdict) → ((case : ℕ) → case < 2 ^ n → f case ≡ g case) → Smallest n f v → Smallest n g v
smallest-same n f g v same s = record {
  table = s.table;
  answer = s.answer;
  says = record { ordered = s.says.ordered; answers = λ case h. s.says.answers case h ∙ same case h };
  least = λ other o. s.least other (record { ordered = o.ordered; answers = λ case h. o.answers case h ∙ sym (same case h) });
}

-- ---- one verdict
place_is : (k p q : ℕ) → refused k p ≡ refused k q → p ≡ q
place_is k p q e = cc

table-answered : (o : Bool) (p : ℕ) (t : Table) (v : Verdict) (vs : List ℕ) (outs : List (List ℕ)) → v ≡ cond o (refused NODES p) (table_answer t) → v ≡ answered vs outs → v ≡ table_answer t
table-answered true p t v vs outs e h = absurd (not-answered NODES p vs outs (sym e ∙ h))
table-answered false p t v vs outs e h = e

nodes-refused : (o : Bool) (p : ℕ) (t : Table) (v : Verdict) (q : ℕ) → v ≡ cond o (refused NODES p) (table_answer t) → v ≡ refused NODES q → (o ≡ true) × (p ≡ q)
unfolding table_answer
nodes-refused true p t v q e h = (refl, place_is NODES p q (sym e ∙ h))
nodes-refused false p t v q e h = absurd (not-answered NODES q _ _ (sym h ∙ e))

not_true : (x : Bool) → not x ≡ true → x ≡ true → ⊥
not_true x e h = let z : ◌≡◌ {A = ℕ} 0 1 = ap (λ b. cond b 1 0) (sym (ap not h) ∙ e) in omega arith

not_false : (x : Bool) → not x ≡ false → x ≡ true
not_false true e = refl
not_false false e = sym e

-- ---- a build
module _ (fs : List Finding) (b : Bool) (n count : ℕ) (entry : ℕ → Clause) (room : ℕ) where
  -- what the opening run of k entries says
  abbrev run_says : ℕ → ℕ → Bool
  run_says k = list_says b n (opening entry k)

  abbrev shortest : ℕ
  shortest = shortest_over b n count entry room

  abbrev fits : ℕ → Bool
  fits k = not (ltb room (length (canon n (run_means b n entry k))))

  pub build-is : Clean (judged fs) → builds fs b n count entry room ≡ cond (ltb shortest (suc count)) (refused NODES shortest) (table_answer (canon n (run_means b n entry count)))
  unfolding makes judged tried order first_of
  build-is clean = clean _

  -- a build that answers, answers the smallest table that says of every case what the list says
  built-smallest : (values : List ℕ) (outs : List (List ℕ)) → builds fs b n count entry room ≡ answered values outs → Smallest n (run_says count) (builds fs b n count entry room)
  unfolding makes
  built-smallest values outs e =
      let clean : Clean (judged fs) = judged-answer fs _ values outs e in
      record {
        table = canon n (run_means b n entry count);
        answer = table-answered (ltb shortest (suc count)) shortest _ _ values outs (build-is clean) e;
        says = canon-says n (run_says count);
        least = canon-least n (run_says count);
      }

  module _ (clean : Clean (judged fs)) where
    -- past inspection, refused for nodes: that run has no table within room, and every shorter run has one
    pub refused_none : (place : ℕ) → builds fs b n count entry room ≡ refused NODES place → (place ≤ count) × NoRoom n room (run_says place) × ((k : ℕ) → k < place → NoRoom n room (run_says k) → ⊥)
    refused_none place e =
        let d : (ltb shortest (suc count) ≡ true) × (shortest ≡ place) = nodes-refused _ _ _ _ place (build-is clean) e in
        let within : shortest < suc count = ltb-true shortest (suc count) d.0 in
        (omega (arith, within, d.1), over_none n (run_says place) room (over-at place d.1 within), λ k h no_room. fit_at k (omega (arith, d.1)) (none_over n (run_says k) room no_room))
      where
        over-at : (place : ℕ) → shortest ≡ place → shortest < suc count → room < length (canon n (run_means b n entry place))
        over-at place is within = ltb-true _ _ (not_false _ (subst (λ (k : ℕ). fits k ≡ false) is (fails within)))
          where
            fails : shortest < suc count → fits shortest ≡ false
            fails h = unfold shortest_over in first_fails fits (suc count) h

        fit_at : (k : ℕ) → k < shortest → room < length (canon n (run_means b n entry k)) → ⊥
        fit_at k h over = not_true (ltb room (length (canon n (run_means b n entry k)))) (unfold shortest_over in first-before fits (suc count) k h) (lt-ltb _ _ over)

    -- past inspection, where some opening run has no table within room, the build is refused for nodes
    pub none-refused : (k : ℕ) → k ≤ count → NoRoom n room (run_says k) → builds fs b n count entry room ≡ refused NODES shortest
    none-refused k h no_room =
        let within : shortest < suc count = before (none_over n (run_says k) room no_room) in
        build-is clean ∙ ap (λ o. cond o (refused NODES shortest) (table_answer (canon n (run_means b n entry count)))) (lt-ltb shortest (suc count) within)
      where
        before : room < length (canon n (run_means b n entry k)) → shortest < suc count
        before over = elim (dec_lt shortest (suc count)) [
          | yes e ↦ e
          | no e ↦ absurd (not_true (ltb room (length (canon n (run_means b n entry k)))) (unfold shortest_over in first-before fits (suc count) k (omega arith)) (lt-ltb _ _ over))
        ]

-- ---- the four builders, for any input at all
-- a builder's verdict v, where run k says what the opening run of k entries says
pub record Built (fs : List Finding) (v : Verdict) (n count room : ℕ) (run : ℕ → ℕ → Bool) : Type 0 where
  -- a build that answers, answers the smallest table that says of every case what the list says
  pub built : (values : List ℕ) (outs : List (List ℕ)) → v ≡ answered values outs → Smallest n (run count) v
  -- past inspection, it is refused for nodes if some opening run has no ordered table of at most room nodes ..
  pub over : Clean (judged fs) → (k : ℕ) → k ≤ count → NoRoom n room (run k) → (place : ℕ) × (v ≡ refused NODES place)
  -- .. and only then: the place is the length of the shortest such run
  pub shortest : Clean (judged fs) → (place : ℕ) → v ≡ refused NODES place
      → (place ≤ count) × NoRoom n room (run place) × ((k : ℕ) → k < place → NoRoom n room (run k) → ⊥)

pub builds-built : (fs : List Finding) (b : Bool) (n count : ℕ) (entry : ℕ → Clause) (room : ℕ)
    → Built fs (builds fs b n count entry room) n count room (λ k. list_says b n (opening entry k))
builds-built fs b n count entry room = record {
  built = built-smallest fs b n count entry room;
  over = λ clean k h no_room. (_, none-refused fs b n count entry room clean k h no_room);
  shortest = refused_none fs b n count entry room;
}

module _ (n count : ℕ) (list : List ℕ) (room : ℕ) (out work : List ℕ) where
  pub dnf-built : Built (list_findings false n count list room out work) (makes_dnf n count list room out work) n count room (λ k. dnf n (opening (clause_at list) k))
  unfolding makes_dnf
  dnf-built = builds-built (list_findings false n count list room out work) true n count (clause_at list) room

  pub cnf-built : Built (list_findings false n count list room out work) (makes_cnf n count list room out work) n count room (λ k. cnf n (opening (clause_at list) k))
  unfolding makes_cnf
  cnf-built = builds-built (list_findings false n count list room out work) false n count (clause_at list) room

  pub dnf_valuation_built : Built (list_findings true n count list room out work) (makes_dnf_valuation n count list room out work) n count room (λ k. dnf n (opening (case_at n list) k))
  unfolding makes_dnf_valuation
  dnf_valuation_built = builds-built (list_findings true n count list room out work) true n count (case_at n list) room

  pub cnf_valuation_built : Built (list_findings true n count list room out work) (makes_cnf_valuation n count list room out work) n count room (λ k. cnf n (opening (case_at n list) k))
  unfolding makes_cnf_valuation
  cnf_valuation_built = builds-built (list_findings true n count list room out work) false n count (case_at n list) room

  -- from a list of cases as DNF clauses: yes exactly at the listed cases
  pub dnf_valuation_cases : (values : List ℕ) (outs : List (List ℕ)) → makes_dnf_valuation n count list room out work ≡ answered values outs
      → Smallest n (listed_case list count) (makes_dnf_valuation n count list room out work)
  unfolding makes_dnf_valuation makes
  dnf_valuation_cases values outs e =
      let clean : Clean (judged (list_findings true n count list room out work)) = judged-answer (list_findings true n count list room out work) _ values outs e in
      smallest-same n (dnf n (opening (case_at n list) count)) (listed_case list count) _
      (λ case h. dnf-listed n list case h count (cases-small true n count list room out work clean refl))
      (dnf_valuation_built.built values outs e)

  -- as CNF clauses: no exactly at the complements of the listed cases over the n marks
  pub cnf_valuation_cases : (values : List ℕ) (outs : List (List ℕ)) → makes_cnf_valuation n count list room out work ≡ answered values outs
      → Smallest n (λ case. not (listed_case list count (2 ^ n - 1 - case))) (makes_cnf_valuation n count list room out work)
  unfolding makes_cnf_valuation makes
  cnf_valuation_cases values outs e =
      let clean : Clean (judged (list_findings true n count list room out work)) = judged-answer (list_findings true n count list room out work) _ values outs e in
      smallest-same n (cnf n (opening (case_at n list) count)) (λ case. not (listed_case list count (2 ^ n - 1 - case))) _
      (λ case h. cnf-listed n list case h count (cases-small true n count list room out work clean refl))
      (cnf_valuation_built.built values outs e)
