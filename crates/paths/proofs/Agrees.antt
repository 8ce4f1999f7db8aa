-- A path list says of every case what its table says.
use mathlib.Core.Path.{◌≡◌, refl, sym, ap, ◌∙◌}
use mathlib.Core.Bool.{Bool, true, false, cond, not, ◌&&◌, ◌||◌}
use mathlib.Core.List.{List, [], ◌∷◌}
use Prim.Native.Nat.{ℕ, ◌+◌}
use native.Mathlib.Omega.{arith}
use native.Mathlib.Nat.{zero-add}
use lib.Dec.{ltb}
use borrow.Author.Tests.{lt-ltb}
use Rattle.theory.specs.Tree.{look}
use Rattle.theory.specs.Table.{Table, meaning, Ordered}
use Rattle.theory.specs.Clause.{Clause}
use Rattle.theory.proofs.Cases.{look_ext, look-tabulate, tabulate-deep}
use Rattle.theory.proofs.Small.{meaning-deep}
use Rattle.cube.specs.Cube.{all_hold, one_holds, dnf, cnf, list_says, list_means}
use Rattle.paths.specs.Paths.{path_list, hits, misses}
use Rattle.paths.proofs.Once.{dnf-once, cnf-once}

-- a DNF says yes where some clause holds, a CNF where none fails
dnf-hits : (n : ℕ) (xs : List Clause) (c : ℕ) → dnf n xs c ≡ ltb 0 (hits n xs c)
unfolding dnf hits
dnf-hits n [] c = refl
dnf-hits n (x ∷ xs) c = go (all_hold n x c) (dnf-hits n xs c)
  where
    go : (t : Bool) → dnf n xs c ≡ ltb 0 (hits n xs c) → t || dnf n xs c ≡ ltb 0 (cond t 1 0 + hits n xs c)
    go true rest = sym (lt-ltb 0 (1 + hits n xs c) (omega arith))
    go false rest = rest ∙ ap (ltb 0) (sym (zero-add (hits n xs c)))

cnf-misses : (n : ℕ) (xs : List Clause) (c : ℕ) → cnf n xs c ≡ not (ltb 0 (misses n xs c))
unfolding cnf misses
cnf-misses n [] c = refl
cnf-misses n (x ∷ xs) c = go (one_holds n x c) (cnf-misses n xs c)
  where
    go : (t : Bool) → cnf n xs c ≡ not (ltb 0 (misses n xs c)) → t && cnf n xs c ≡ not (ltb 0 (cond t 0 1 + misses n xs c))
    go true rest = rest ∙ ap (λ k. not (ltb 0 k)) (sym (zero-add (misses n xs c)))
    go false rest = sym (ap not (lt-ltb 0 (1 + misses n xs c) (omega arith)))

list-says : (b : Bool) (n : ℕ) (s : Table) → Ordered n s → (c : ℕ) → list_says b n (path_list b n s) c ≡ look (meaning n s) c
list-says true n s o c = dnf-hits n (path_list true n s) c ∙ ap (ltb 0) (dnf-once n s o c) ∙ go (look (meaning n s) c)
  where
    go : (x : Bool) → ltb 0 (cond x 1 0) ≡ x
    go true = refl
    go false = refl
list-says false n s o c = cnf-misses n (path_list false n s) c ∙ ap (λ k. not (ltb 0 k)) (cnf-once n s o c) ∙ go (look (meaning n s) c)
  where
    go : (x : Bool) → not (ltb 0 (cond x 0 1)) ≡ x
    go true = refl
    go false = refl

-- so it means the table's function
pub list-means : (b : Bool) (n : ℕ) (s : Table) → Ordered n s → list_means b n (path_list b n s) ≡ meaning n s
list-means b n s o =
    look_ext n (list_means b n (path_list b n s)) (meaning n s) (tabulate-deep n (list_says b n (path_list b n s))) (meaning-deep n s)
    (λ c h. look-tabulate n (list_says b n (path_list b n s)) c h ∙ list-says b n s o c)
