-- What evaluation answers, for any words and any case.
use Rattle.std.specs.Prelude.{Bool, not, ◌&&◌, List, [], ◌∷◌, ℕ, ◌^◌, leb}
use Rattle.theory.specs.Mask.{bit}
use Rattle.theory.specs.Tree.{look}
use Rattle.theory.specs.Table.{Node, child_of, num, meaning}
use Rattle.theory.specs.Words.{nodes}
use Rattle.refusal.specs.Number.{VARIABLE}
use Rattle.refusal.specs.Limits.{case_bits}
use Rattle.refusal.specs.First.{first_failing}
use Rattle.refusal.specs.Verdict.{Finding, finding, Verdict, answered, judged}
use Rattle.table.specs.Inspection.{table_findings, root_of}

-- VARIABLE: the case has a bit from n up
unfoldable pub over_case : ℕ → ℕ → Bool
over_case n case = leb (2 ^ n) case

-- the lowest such mark
unfoldable pub lowest_over : ℕ → ℕ → ℕ
lowest_over n case = first_failing (λ i. not (leb n i && bit i case)) case_bits

-- what may be wrong with a table and a case
abbrev pub case_findings : ℕ → ℕ → List ℕ → ℕ → List Finding
case_findings n count words case = finding VARIABLE (over_case n case) (lowest_over n case) ∷ table_findings n count words

-- the admission of a table and a case: the root where nothing is wrong
unfoldable pub admits_case : ℕ → ℕ → List ℕ → ℕ → Verdict
admits_case n count words case = judged (case_findings n count words case) (root_of count)

-- what the table says of the case
abbrev pub table_says : ℕ → ℕ → List ℕ → ℕ → Bool
table_says n count words case = look (meaning n (nodes count words)) case

-- where the case leads from a node
abbrev pub child_for : Node → ℕ → ℕ
child_for x case = child_of (bit x.mark case) x

-- yes or no, as the table says
unfoldable pub evaluates : ℕ → ℕ → List ℕ → ℕ → Verdict
evaluates n count words case = judged (case_findings n count words case) (answered (num (table_says n count words case) ∷ []) [])
