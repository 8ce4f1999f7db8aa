-- What the extractors answer, for any words at all.
use Rattle.std.specs.Prelude.{Bool, true, false, List, [], ◌∷◌, ℕ}
use Rattle.theory.specs.Words.{nodes}
use Rattle.refusal.specs.Verdict.{Verdict}
use Rattle.admission.specs.Admission.{work_findings}
use Rattle.paths.specs.Paths.{path_list}
use Rattle.listing.specs.Listed.{lists}
use Rattle.listing.specs.Listing.{too_many_paths}

-- one clause for each path to the constant b, low branch first; CLAUSES, with the number of paths, where the output does not hold them
abbrev pub lists_paths : Bool → ℕ → ℕ → List ℕ → List ℕ → List ℕ → Verdict
lists_paths b n count words out work = lists (work_findings n count words work) (too_many_paths b n count words out ∷ []) (path_list b n (nodes count words))

-- to_dnf: the paths to node 1, low sets 0, high sets 1
abbrev pub lists_dnf : ℕ → ℕ → List ℕ → List ℕ → List ℕ → Verdict
lists_dnf = lists_paths true

-- to_cnf: the paths to node 0, low sets 1, high sets 0
abbrev pub lists_cnf : ℕ → ℕ → List ℕ → List ℕ → List ℕ → Verdict
lists_cnf = lists_paths false
