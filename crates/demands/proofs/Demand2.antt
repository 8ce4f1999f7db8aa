-- What a table says of a case.
use mathlib.Core.Path.{◌≡◌, sym, ap, ◌∙◌}
use mathlib.Core.List.{List, [], ◌∷◌}
use Prim.Native.Nat.{ℕ, ◌-◌, ◌^◌, ◌<◌}
use lib.ListN.{length}
use Rattle.theory.specs.Tree.{Tree, Deep, look, case_count, tally}
use Rattle.theory.specs.Table.{Table, num, follow, truth, meaning, canon, tree_of}
use Rattle.theory.specs.Words.{nodes}
use Rattle.theory.proofs.Cases.{says-look, says-follow, case_count-tally}
use Rattle.theory.proofs.Canon.{canon-means}
use Rattle.theory.proofs.Small.{tree_of-deep}
use Rattle.refusal.specs.Verdict.{answered}
use Rattle.table.specs.Inspection.{SoundTable}
use Rattle.table.specs.Case.{evaluates}
use Rattle.table.proofs.Evaluated.{sound-evaluates}

-- evaluation answers what the table means at the case
eval_in-means : (n count : ℕ) (words : List ℕ) (case : ℕ) → SoundTable n count words (count - 1) → case < 2 ^ n
    → evaluates n count words case ≡ answered (num (look (meaning n (nodes count words)) case) ∷ []) []
eval_in-means n count words case t h = sound-evaluates n count words case t h

-- and that is the constant at the end of the path that the case's bits choose from the root
eval_in_follows : (n : ℕ) (table : Table) (case : ℕ) → look (meaning n table) case ≡ truth (follow n table 0 (length table - 1) case)
unfolding meaning
eval_in_follows n table case = sym (says-look n table 0 (length table - 1) case) ∙ says-follow n table 0 (length table - 1) case

-- a canonical table says of every case what its function says
canon-says : (n : ℕ) (f : Tree) → Deep n f → (case : ℕ) → look (meaning n (canon n f)) case ≡ look f case
canon-says n f d case = ap (λ t. look t case) (canon-means n f d)

-- the case count is the number of cases that get yes
cases-counted : (n : ℕ) (table : Table) → case_count (meaning n table) ≡ tally (2 ^ n) (look (meaning n table))
unfolding meaning
cases-counted n table = case_count-tally n (tree_of n table 0 (length table - 1)) (tree_of-deep n table 0 (length table - 1))
