-- The builders, each over its entry's own verdict (`Built`): a built table says of every case what its list says, and no ordered table over the same marks in the same
-- order, with the same answer for every case, has fewer nodes; with input past inspection, a build is refused for nodes exactly if some opening run of its list has no
-- such table of at most room nodes, and the place is the length of the shortest such run. Each promise leaves one possible answer.
use mathlib.Core.Path.{◌≡◌}
use mathlib.Core.Bool.{true, false, not}
use mathlib.Core.List.{List}
use Prim.Native.Nat.{ℕ, ◌-◌, ◌^◌}
use Rattle.refusal.specs.Verdict.{answered}
use Rattle.refusal.specs.Told.{number, reply_of}
use Rattle.refusal.proofs.Single.{Single, single, number-one}
use Rattle.cube.specs.Cube.{dnf, cnf, clause_at, case_at, opening}
use Rattle.builders.specs.Builders.{listed_case, list_findings, makes_dnf, makes_cnf, makes_dnf_valuation, makes_cnf_valuation}
use Rattle.builders.proofs.Built as of
use Rattle.builders.proofs.Built.{Built, Smallest}

module _ (n count : ℕ) (list : List ℕ) (room : ℕ) (out work : List ℕ) where
  mk_dnf-built : Built (list_findings false n count list room out work) (makes_dnf n count list room out work) n count room (λ k. dnf n (opening (clause_at list) k))
  mk_dnf-built = of.dnf-built n count list room out work

  mk_cnf-built : Built (list_findings false n count list room out work) (makes_cnf n count list room out work) n count room (λ k. cnf n (opening (clause_at list) k))
  mk_cnf-built = of.cnf-built n count list room out work

  mk_dnf_valuation-built : Built (list_findings true n count list room out work) (makes_dnf_valuation n count list room out work) n count room (λ k. dnf n (opening (case_at n list) k))
  mk_dnf_valuation-built = of.dnf_valuation_built n count list room out work

  mk_cnf_valuation-built : Built (list_findings true n count list room out work) (makes_cnf_valuation n count list room out work) n count room (λ k. cnf n (opening (case_at n list) k))
  mk_cnf_valuation-built = of.cnf_valuation_built n count list room out work

  -- the valuation forms in plain words: yes exactly at the listed cases; no exactly at their complements over the n marks
  mk_dnf_valuation-says : (values : List ℕ) (outs : List (List ℕ)) → makes_dnf_valuation n count list room out work ≡ answered values outs
      → Smallest n (listed_case list count) (makes_dnf_valuation n count list room out work)
  mk_dnf_valuation-says = of.dnf_valuation_cases n count list room out work

  mk_cnf_valuation-says : (values : List ℕ) (outs : List (List ℕ)) → makes_cnf_valuation n count list room out work ≡ answered values outs
      → Smallest n (λ case. not (listed_case list count (2 ^ n - 1 - case))) (makes_cnf_valuation n count list room out work)
  mk_cnf_valuation-says = of.cnf_valuation_cases n count list room out work

  mk_dnf-single : Single (reply_of number) (makes_dnf n count list room out work)
  mk_dnf-single = single (reply_of number) number-one (makes_dnf n count list room out work)

  mk_cnf-single : Single (reply_of number) (makes_cnf n count list room out work)
  mk_cnf-single = single (reply_of number) number-one (makes_cnf n count list room out work)

  mk_dnf_valuation-single : Single (reply_of number) (makes_dnf_valuation n count list room out work)
  mk_dnf_valuation-single = single (reply_of number) number-one (makes_dnf_valuation n count list room out work)

  mk_cnf_valuation-single : Single (reply_of number) (makes_cnf_valuation n count list room out work)
  mk_cnf_valuation-single = single (reply_of number) number-one (makes_cnf_valuation n count list room out work)
