-- Runs of a list of clauses.
use mathlib.Core.Path.{◌≡◌, refl, sym, ap, ap₂, ◌∙◌}
use mathlib.Core.Bool.{Bool, true, false, cond, not, ◌&&◌, ◌||◌, beq}
use mathlib.Core.List.{List, [], ◌∷◌, ◌++◌}
use Prim.Native.Nat.{ℕ, zero, suc, ◌/◌}
use Rattle.theory.specs.Tree.{Tree, Deep, look, konst, tabulate}
use Rattle.theory.specs.Mask.{odd, bit}
use Rattle.theory.specs.Clause.{Clause, clause}
use Rattle.theory.proofs.Truths.{beq_one}
use Rattle.theory.proofs.Cases.{konst-deep, konst-look, look_ext, look-tabulate, tabulate-deep}
use Rattle.cube.specs.Cube.{every_mark, some_mark, all_hold, one_holds, dnf, cnf, list_says, list_means, set_cube, all_are, run, built}
use Rattle.cube.proofs.Cubes.{set-deep, set-look}

pub run-deep : (b : Bool) (k : ℕ) (t : Tree) (xs : List Clause) → Deep k t → Deep k (run b t xs)
unfolding run
run-deep b k t [] d = d
run-deep b k t (x ∷ xs) d = run-deep b k (set_cube b x.fixed x.values t) xs (set-deep b x.fixed x.values k t d)

-- one clause more
pub run_snoc : (b : Bool) (t : Tree) (xs : List Clause) (x : Clause) → run b t (xs ++ (x ∷ [])) ≡ set_cube b x.fixed x.values (run b t xs)
unfolding run
run_snoc b t [] x = refl
run_snoc b t (y ∷ xs) x = run_snoc b (set_cube b y.fixed y.values t) xs x

pub built_snoc : (b : Bool) (n : ℕ) (xs : List Clause) (x : Clause) → built b n (xs ++ (x ∷ [])) ≡ set_cube b x.fixed x.values (built b n xs)
unfolding built
built_snoc b n xs x = run_snoc b (konst n (not b)) xs x

-- ---- literal by literal
pub all_hold_lem : (n f v c : ℕ) → all_are true n f v c ≡ all_hold n (clause f v) c
unfolding all_are all_hold every_mark bit
all_hold_lem zero f v c = refl
all_hold_lem (suc n) f v c = ap₂ (λ x y. (not (odd f) || x) && y) (beq_one (beq (odd v) (odd c))) (all_hold_lem n (f / 2) (v / 2) (c / 2))

pub one_holds_lem : (n f v c : ℕ) → not (all_are false n f v c) ≡ one_holds n (clause f v) c
unfolding all_are one_holds some_mark bit
one_holds_lem zero f v c = refl
one_holds_lem (suc n) f v c = go (odd f) (beq (odd v) (odd c)) (all_are false n (f / 2) (v / 2) (c / 2)) ∙ ap (λ y. odd f && beq (odd v) (odd c) || y) (one_holds_lem n (f / 2) (v / 2) (c / 2))
  where
    go : (x y z : Bool) → not ((not x || beq y false) && z) ≡ x && y || not z
    go true true z = refl
    go true false z = refl
    go false y z = refl

-- what a run says of a case
run-dnf : (n : ℕ) (t : Tree) (xs : List Clause) → Deep n t → (c : ℕ) → look (run true t xs) c ≡ look t c || dnf n xs c
unfolding run dnf
run-dnf n t [] d c = go (look t c)
  where
    go : (x : Bool) → x ≡ x || false
    go true = refl
    go false = refl
run-dnf n t (x ∷ xs) d c =
    run-dnf n (set_cube true x.fixed x.values t) xs (set-deep true x.fixed x.values n t d) c
    ∙ ap (λ y. y || dnf n xs c) (set-look true n x.fixed x.values t d c ∙ ap (λ y. cond y true (look t c)) (all_hold_lem n x.fixed x.values c))
    ∙ go (all_hold n x c) (look t c) (dnf n xs c)
  where
    go : (a y z : Bool) → cond a true y || z ≡ y || (a || z)
    go true true z = refl
    go true false z = refl
    go false true z = refl
    go false false z = refl

run-cnf : (n : ℕ) (t : Tree) (xs : List Clause) → Deep n t → (c : ℕ) → look (run false t xs) c ≡ look t c && cnf n xs c
unfolding run cnf
run-cnf n t [] d c = go (look t c)
  where
    go : (x : Bool) → x ≡ x && true
    go true = refl
    go false = refl
run-cnf n t (x ∷ xs) d c =
    run-cnf n (set_cube false x.fixed x.values t) xs (set-deep false x.fixed x.values n t d) c
    ∙ ap (λ y. y && cnf n xs c) (set-look false n x.fixed x.values t d c)
    ∙ go (all_are false n x.fixed x.values c) (look t c) (cnf n xs c)
    ∙ ap (λ y. look t c && (y && cnf n xs c)) (one_holds_lem n x.fixed x.values c)
  where
    go : (a y z : Bool) → cond a false y && z ≡ y && (not a && z)
    go true true z = refl
    go true false z = refl
    go false true z = refl
    go false false z = refl

built-dnf : (n : ℕ) (xs : List Clause) → built true n xs ≡ tabulate n (dnf n xs)
unfolding built
built-dnf n xs = look_ext n (run true (konst n false) xs) (tabulate n (dnf n xs)) (run-deep true n (konst n false) xs (konst-deep n false)) (tabulate-deep n (dnf n xs))
    (λ c h. run-dnf n (konst n false) xs (konst-deep n false) c ∙ ap (λ y. y || dnf n xs c) (konst-look n false c) ∙ sym (look-tabulate n (dnf n xs) c h))

built-cnf : (n : ℕ) (xs : List Clause) → built false n xs ≡ tabulate n (cnf n xs)
unfolding built
built-cnf n xs = look_ext n (run false (konst n true) xs) (tabulate n (cnf n xs)) (run-deep false n (konst n true) xs (konst-deep n true)) (tabulate-deep n (cnf n xs))
    (λ c h. run-cnf n (konst n true) xs (konst-deep n true) c ∙ ap (λ y. y && cnf n xs c) (konst-look n true c) ∙ sym (look-tabulate n (cnf n xs) c h))

-- a list built from the front is what the list says
pub built-means : (b : Bool) (n : ℕ) (xs : List Clause) → built b n xs ≡ list_means b n xs
built-means true n xs = built-dnf n xs
built-means false n xs = built-cnf n xs

pub means-deep : (b : Bool) (n : ℕ) (xs : List Clause) → Deep n (list_means b n xs)
means-deep b n xs = tabulate-deep n (list_says b n xs)
