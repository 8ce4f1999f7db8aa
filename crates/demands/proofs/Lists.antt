-- The path lists, each over its entry's own verdict: a case satisfies exactly one path DNF clause if the table says yes, else none; it falsifies exactly one path CNF
-- clause if no, else none; the sums of 2^(n - k) over k fixed marks per clause; CLAUSES exactly when the paths are more than the output holds, with their number. Each
-- promise leaves one possible answer.
use mathlib.Core.Path.{◌≡◌}
use mathlib.Core.Bool.{true, false, cond}
use mathlib.Core.List.{List, [], ◌∷◌}
use Prim.Native.Nat.{ℕ, ◌+◌, ◌^◌, ◌≤◌, ◌<◌}
use lib.ListN.{length}
use Rattle.theory.specs.Tree.{tally}
use Rattle.theory.specs.Words.{nodes}
use Rattle.refusal.specs.Number.{CLAUSES}
use Rattle.refusal.specs.Verdict.{refused, answered, judged}
use Rattle.refusal.proofs.Judged.{Clean}
use Rattle.refusal.specs.Told.{number, reply_of}
use Rattle.refusal.proofs.Single.{Single}
use Rattle.table.specs.Case.{table_says}
use Rattle.admission.specs.Admission.{work_findings}
use Rattle.paths.specs.Paths.{path_list, hits, misses, covered}
use Rattle.listing.specs.Listed.{capacity, list_answer}
use Rattle.lists.specs.Lists.{lists_dnf, lists_cnf}
use Rattle.lists.proofs.Listed as of
use Rattle.lists.proofs.Listed.{list_in}

module _ (n count : ℕ) (words out work : List ℕ) where
  module _ (k : ℕ) (result : List ℕ) (e : lists_dnf n count words out work ≡ answered (k ∷ []) (result ∷ [])) where
    dnf_exactly_one : (case : ℕ) → hits n (list_in k result) case ≡ cond (table_says n count words case) 1 0
    dnf_exactly_one = of.dnf_exactly_one n count words out work k result e

    -- added clause by clause: the case count
    dnf-adds-up : covered n (list_in k result) ≡ tally (2 ^ n) (table_says n count words)
    dnf-adds-up = of.dnf-adds-up n count words out work k result e

    -- over DNF and CNF together: every case
    both-add-up : (out' work' : List ℕ) (k' : ℕ) (result' : List ℕ) → lists_cnf n count words out' work' ≡ answered (k' ∷ []) (result' ∷ [])
        → covered n (list_in k result) + covered n (list_in k' result') ≡ 2 ^ n
    both-add-up = of.both-add-up n count words out work k result e

  cnf_exactly_one : (k : ℕ) (result : List ℕ) → lists_cnf n count words out work ≡ answered (k ∷ []) (result ∷ [])
      → (case : ℕ) → misses n (list_in k result) case ≡ cond (table_says n count words case) 0 1
  cnf_exactly_one = of.cnf_exactly_one n count words out work

  -- past inspection, the list itself where the output holds it, else CLAUSES with the number of paths
  dnf-fits : Clean (judged (work_findings n count words work)) → length (path_list true n (nodes count words)) ≤ capacity out
      → lists_dnf n count words out work ≡ list_answer (path_list true n (nodes count words))
  dnf-fits = of.list-fits true n count words out work

  dnf_exceeds : Clean (judged (work_findings n count words work)) → capacity out < length (path_list true n (nodes count words))
      → lists_dnf n count words out work ≡ refused CLAUSES (length (path_list true n (nodes count words)))
  dnf_exceeds = of.list_exceeds true n count words out work

  cnf-fits : Clean (judged (work_findings n count words work)) → length (path_list false n (nodes count words)) ≤ capacity out
      → lists_cnf n count words out work ≡ list_answer (path_list false n (nodes count words))
  cnf-fits = of.list-fits false n count words out work

  cnf_exceeds : Clean (judged (work_findings n count words work)) → capacity out < length (path_list false n (nodes count words))
      → lists_cnf n count words out work ≡ refused CLAUSES (length (path_list false n (nodes count words)))
  cnf_exceeds = of.list_exceeds false n count words out work

  to_dnf-single : Single (reply_of number) (lists_dnf n count words out work)
  to_dnf-single = of.to_dnf-single n count words out work

  to_cnf-single : Single (reply_of number) (lists_cnf n count words out work)
  to_cnf-single = of.to_cnf-single n count words out work
