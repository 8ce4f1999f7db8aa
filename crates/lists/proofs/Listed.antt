-- What the extractors' answers are, over their own verdicts: their clauses are the table's paths, of each case exactly one is taken, the sums over all
-- cases come out, and CLAUSES is given exactly when the paths are more than the output holds.
use mathlib.Core.Path.{◌≡◌, refl, sym, ap, ap₂, ◌∙◌}
use mathlib.Core.Logic.{inl, inr}
use mathlib.Core.Bool.{Bool, true, false, cond}
use mathlib.Core.List.{List, [], ◌∷◌}
use Prim.Native.Nat.{ℕ, ◌+◌, ◌-◌, ◌^◌, ◌≤◌, ◌<◌}
use native.Mathlib.Omega.{arith}
use native.Mathlib.Decide.{dec_lt}
use lib.Dec.{ltb}
use lib.ListN.{length}
use borrow.Author.Tests.{lt-ltb, le-ltb}
use Rattle.theory.specs.Tree.{tally}
use Rattle.theory.specs.Table.{meaning, Ordered}
use Rattle.theory.specs.Words.{nodes}
use Rattle.theory.specs.Clause.{Clause, empty_clause}
use Rattle.theory.proofs.Cases.{case_count-tally}
use Rattle.theory.proofs.Clauses.{empty-formed}
use Rattle.theory.proofs.Small.{meaning-deep}
use Rattle.refusal.specs.Number.{CLAUSES, order}
use Rattle.refusal.specs.Buffers.{zeroing}
use Rattle.refusal.specs.Verdict.{Verdict, refused, answered, first_of, tried, judged, replied}
use Rattle.refusal.proofs.Single.{Single, single, number-one}
use Rattle.refusal.proofs.Judged.{Clean, judged-either, judged-answer, refused_quiet}
use Rattle.table.specs.declared.Inspection.TheVariants.{Sound}
use Rattle.table.specs.Inspection.{inspection_reply, root_of}
use Rattle.table.specs.Case.{table_says}
use Rattle.admission.specs.Admission.{work_findings}
use Rattle.admission.proofs.Admitted.{work_quiet, work_admitted}
use Rattle.cube.specs.Cube.{clause_at, opening, list_means}
use Rattle.paths.specs.Paths.{path_list, hits, misses, covered, AllFormed}
use Rattle.paths.proofs.PathLaws.{path_count_lem, count_small, paths_formed}
use Rattle.paths.proofs.Once.{dnf-once, cnf-once}
use Rattle.paths.proofs.Sums.{dnf_sum, both_sum}
use Rattle.paths.proofs.Agrees.{list-means}
use Rattle.listing.specs.Listed.{capacity, list_answer, lists}
use Rattle.listing.specs.Listing.{too_many_paths}
use Rattle.refusal.specs.Told.{number, reply_of}
use Rattle.listing.proofs.ClauseLaws.{answered-clauses}
use Rattle.lists.specs.Lists.{lists_paths, lists_dnf, lists_cnf}

-- the clauses of an answer: so many, as they lie in its words
abbrev pub list_in : ℕ → List ℕ → List Clause
list_in k result = opening (clause_at result) k

module _ (b : Bool) (n count : ℕ) (words out work : List ℕ) where
  -- after the admission the number of paths decides
  room-decides : (v : Verdict) → judged (too_many_paths b n count words out ∷ []) v
      ≡ cond (ltb (capacity out) (length (path_list b n (nodes count words)))) (refused CLAUSES (length (path_list b n (nodes count words)))) v
  unfolding judged tried order first_of
  room-decides v = refl

  admitted_ordered : Clean (judged (work_findings n count words work)) → Ordered n (nodes count words)
  unfolding inspection_reply replied
  admitted_ordered clean = (work_admitted n count words work (Sound (record { 0 = count - 1 })) (sym (ap replied (clean (root_of count)))) _ refl).0.ordered

  -- ---- an answer
  module _ (k : ℕ) (result : List ℕ) (e : lists_paths b n count words out work ≡ answered (k ∷ []) (result ∷ [])) where
    -- the clauses in the answer's words are the table's paths
    pub list-clauses : list_in k result ≡ path_list b n (nodes count words)
    list-clauses = answered-clauses (work_findings n count words work) (too_many_paths b n count words out ∷ []) (path_list b n (nodes count words)) k result e

    pub list-ordered : Ordered n (nodes count words)
    unfolding lists
    list-ordered = admitted_ordered (judged-answer (work_findings n count words work) _ _ _ e)

    -- they are well formed, and say of every case what the table says
    pub list-formed : AllFormed n (list_in k result)
    unfolding path_list
    list-formed = rw list-clauses (paths_formed n (nodes count words) list-ordered b n (length (nodes count words) - 1) empty_clause (omega (arith, list-ordered.some)) (empty-formed n))

    pub list-agrees : list_means b n (list_in k result) ≡ meaning n (nodes count words)
    list-agrees = ap (list_means b n) list-clauses ∙ list-means b n (nodes count words) list-ordered

  -- ---- CLAUSES

  verdict_is : Clean (judged (work_findings n count words work)) → lists_paths b n count words out work
      ≡ cond (ltb (capacity out) (length (path_list b n (nodes count words)))) (refused CLAUSES (length (path_list b n (nodes count words)))) (list_answer (path_list b n (nodes count words)))
  unfolding lists
  verdict_is clean = clean _ ∙ room-decides _

  -- admitted, a list that the output holds is the answer, and one that it does not hold is CLAUSES with the number of paths
  pub list-fits : Clean (judged (work_findings n count words work)) → length (path_list b n (nodes count words)) ≤ capacity out
      → lists_paths b n count words out work ≡ list_answer (path_list b n (nodes count words))
  list-fits clean h = verdict_is clean ∙ rw (le-ltb (capacity out) (length (path_list b n (nodes count words))) h)

  pub list_exceeds : Clean (judged (work_findings n count words work)) → capacity out < length (path_list b n (nodes count words))
      → lists_paths b n count words out work ≡ refused CLAUSES (length (path_list b n (nodes count words)))
  list_exceeds clean h = verdict_is clean ∙ rw (lt-ltb (capacity out) (length (path_list b n (nodes count words))) h)

  -- CLAUSES comes from the list alone
  over-clean : (place : ℕ) → lists_paths b n count words out work ≡ refused CLAUSES place → Clean (judged (work_findings n count words work))
  unfolding lists
  over-clean place e = elim (judged-either (work_findings n count words work)) [
    | inl clean ↦ clean
    | inr c ↦
        absurd (loud c.number (same c.number c.place (sym (c.always _) ∙ e))
        (refused_quiet [] [] c.number c.place (work_findings n count words work) (work_quiet n count words work) (c.always (answered [] []))))
  ]
    where
      same : (k p : ℕ) → refused k p ≡ refused CLAUSES place → k ≡ CLAUSES
      same k p d = cc

      loud : (k : ℕ) → k ≡ CLAUSES → zeroing k ≡ false → ⊥
      loud k d q =
          let zeroes : zeroing CLAUSES ≡ true = unfold zeroing in refl in
          let z : ◌≡◌ {A = ℕ} 1 0 = ap (λ t. cond t 1 0) (sym (ap zeroing d ∙ zeroes) ∙ q) in
          omega arith

  -- its place is the number of paths, and the output does not hold so many
  pub list_over : (place : ℕ) → lists_paths b n count words out work ≡ refused CLAUSES place → (place ≡ length (path_list b n (nodes count words))) × (capacity out < place) × (place ≤ 2 ^ n)
  list_over place e = elim (dec_lt (capacity out) (length (path_list b n (nodes count words)))) [
    | yes h ↦ let is : place ≡ length (path_list b n (nodes count words)) = same (sym e ∙ list_exceeds (over-clean place e) h) in (is, omega arith, rw is few)
    | no h ↦ absurd (answers (sym (list-fits (over-clean place e) (omega arith)) ∙ e))
  ]
    where
      same : refused CLAUSES place ≡ refused CLAUSES (length (path_list b n (nodes count words))) → place ≡ length (path_list b n (nodes count words))
      same d = cc

      answers : list_answer (path_list b n (nodes count words)) ≡ refused CLAUSES place → ⊥
      answers d = unfold list_answer in let z : ◌≡◌ {A = ℕ} 0 1 = cc in omega arith

      few : length (path_list b n (nodes count words)) ≤ 2 ^ n
      few = unfold path_list in omega (arith, path_count_lem b n (nodes count words) (length (nodes count words) - 1) empty_clause, count_small b n (nodes count words) (length (nodes count words) - 1))

-- ---- DNF and CNF
module _ (n count : ℕ) (words : List ℕ) where
  module _ (out work : List ℕ) (k : ℕ) (result : List ℕ) (e : lists_dnf n count words out work ≡ answered (k ∷ []) (result ∷ [])) where
    -- a case satisfies exactly one clause if the table says yes, else none
    pub dnf_exactly_one : (case : ℕ) → hits n (list_in k result) case ≡ cond (table_says n count words case) 1 0
    dnf_exactly_one case =
        ap (λ xs. hits n xs case) (list-clauses true n count words out work k result e) ∙ dnf-once n (nodes count words) (list-ordered true n count words out work k result e) case

    -- 2^(n - k) over k fixed marks per clause sums to the case count
    pub dnf-adds-up : covered n (list_in k result) ≡ tally (2 ^ n) (table_says n count words)
    dnf-adds-up =
        ap (covered n) (list-clauses true n count words out work k result e)
        ∙ dnf_sum n (nodes count words) (list-ordered true n count words out work k result e)
        ∙ case_count-tally n (meaning n (nodes count words)) (meaning-deep n (nodes count words))

    -- over DNF and CNF together to 2^n
    pub both-add-up : (out' work' : List ℕ) (k' : ℕ) (result' : List ℕ) → lists_cnf n count words out' work' ≡ answered (k' ∷ []) (result' ∷ [])
        → covered n (list_in k result) + covered n (list_in k' result') ≡ 2 ^ n
    both-add-up out' work' k' result' e' =
        ap₂ (λ xs ys. covered n xs + covered n ys) (list-clauses true n count words out work k result e) (list-clauses false n count words out' work' k' result' e')
        ∙ both_sum n (nodes count words) (list-ordered true n count words out work k result e)

  module _ (out work : List ℕ) (k : ℕ) (result : List ℕ) (e : lists_cnf n count words out work ≡ answered (k ∷ []) (result ∷ [])) where
    -- a case falsifies exactly one clause if the table says no, else none
    pub cnf_exactly_one : (case : ℕ) → misses n (list_in k result) case ≡ cond (table_says n count words case) 0 1
    cnf_exactly_one case =
        ap (λ xs. misses n xs case) (list-clauses false n count words out work k result e) ∙ cnf-once n (nodes count words) (list-ordered false n count words out work k result e) case

  -- each promise leaves one answer
  pub to_dnf-single : (out work : List ℕ) → Single (reply_of number) (lists_dnf n count words out work)
  to_dnf-single out work = single (reply_of number) number-one (lists_dnf n count words out work)

  pub to_cnf-single : (out work : List ℕ) → Single (reply_of number) (lists_cnf n count words out work)
  to_cnf-single out work = single (reply_of number) number-one (lists_cnf n count words out work)
