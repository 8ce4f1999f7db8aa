-- What a list of cases says: as DNF clauses yes exactly at the listed cases, as CNF clauses no exactly at their complements over the n marks.
use mathlib.Core.Path.{◌≡◌, refl, sym, ap, ap₂, ◌∙◌}
use mathlib.Core.Bool.{Bool, true, false, not, ◌&&◌, ◌||◌, beq}
use mathlib.Core.List.{List, [], ◌∷◌, ◌++◌}
use Prim.Native.Nat.{ℕ, zero, suc, ◌-◌, ◌/◌, ◌%◌, ◌^◌, ◌<◌}
use native.Mathlib.Omega.{arith}
use native.Mathlib.Decide.{ℕ_discrete}
use lib.Dec.{eqb}
use lib.ListN.{get_or}
use borrow.Author.Tests.{eq-eqb, ne_eqb}
use Rattle.theory.specs.Mask.{odd, bit}
use Rattle.theory.specs.Clause.{Clause, clause}
use Rattle.theory.proofs.Truths.{or_assoc}
use Rattle.cube.specs.Cube.{every_mark, some_mark, all_hold, one_holds, dnf, cnf, case_at, opening}
use Rattle.builders.specs.Builders.{listed_case}

and_false : (x : Bool) → x && false ≡ false
and_false true = refl
and_false false = refl

-- equal numbers, by their bit 0 and their halves
halves : (v c : ℕ) → beq (odd v) (odd c) && eqb (v / 2) (c / 2) ≡ eqb v c
halves v c = elim (ℕ_discrete v c) [
  | yes e ↦ rw (e, eq-eqb (c / 2) (c / 2) refl, eq-eqb c c refl) (same (odd c))
  | no e ↦ elim (ℕ_discrete (v / 2) (c / 2)) [
    | yes d ↦ elim (ℕ_discrete (v % 2) 1) [
      | yes a ↦ rw (eq-eqb (v % 2) 1 a, ne_eqb (c % 2) 1 (λ z. e (omega arith)), ne_eqb v c e)
      | no a ↦ rw (ne_eqb (v % 2) 1 a, eq-eqb (c % 2) 1 (other e a d), ne_eqb v c e)
    ]
    | no d ↦ rw (ne_eqb (v / 2) (c / 2) d, ne_eqb v c e) (and_false (beq (odd v) (odd c)))
  ]
]
  where
    same : (x : Bool) → beq x x && true ≡ true
    same true = refl
    same false = refl

    other : (v ≡ c → ⊥) → (v % 2 ≡ 1 → ⊥) → v / 2 ≡ c / 2 → c % 2 ≡ 1
    other e a d = elim (ℕ_discrete (c % 2) 1) [
      | yes z ↦ z
      | no z ↦ absurd (e (omega arith))
    ]

module _ (n : ℕ) where
  abbrev ones : ℕ
  ones = 2 ^ suc n - 1

  ones_odd : 0 < 2 ^ n → odd ones ≡ true
  ones_odd h = eq-eqb (ones % 2) 1 (omega arith)

  ones_half : 0 < 2 ^ n → ones / 2 ≡ 2 ^ n - 1
  ones_half h = omega arith

-- a clause that fixes every mark holds as a DNF clause at its own case only
full_all : (n v c : ℕ) → v < 2 ^ n → c < 2 ^ n → all_hold n (clause (2 ^ n - 1) v) c ≡ eqb v c
unfolding all_hold every_mark bit
full_all zero v c h k = let a : v ≡ 0 = omega arith in let b : c ≡ 0 = omega arith in rw (a, b)
full_all (suc n) v c h k =
    let some : 0 < 2 ^ n = omega arith in
    ap (λ x. (not x || beq (odd v) (odd c)) && every_mark n (λ i. not (bit i (ones n / 2)) || beq (bit i (v / 2)) (bit i (c / 2)))) (ones_odd n some)
    ∙ ap (λ y. beq (odd v) (odd c) && every_mark n (λ i. not (bit i y) || beq (bit i (v / 2)) (bit i (c / 2)))) (ones_half n some)
    ∙ ap (λ y. beq (odd v) (odd c) && y) (full_all n (v / 2) (c / 2) (omega arith) (omega arith))
    ∙ halves v c

-- as a CNF clause it fails at the complement of its case only
full_one : (n v c : ℕ) → v < 2 ^ n → c < 2 ^ n → one_holds n (clause (2 ^ n - 1) v) c ≡ not (eqb v (2 ^ n - 1 - c))
unfolding one_holds some_mark bit
full_one zero v c h k = let a : v ≡ 0 = omega arith in let b : 2 ^ 0 - 1 - c ≡ 0 = omega arith in rw (a, b)
full_one (suc n) v c h k =
    let some : 0 < 2 ^ n = omega arith in
    let half : (ones n - c) / 2 ≡ 2 ^ n - 1 - c / 2 = omega arith in
    ap (λ x. x && beq (odd v) (odd c) || some_mark n (λ i. bit i (ones n / 2) && beq (bit i (v / 2)) (bit i (c / 2)))) (ones_odd n some)
    ∙ ap (λ y. beq (odd v) (odd c) || some_mark n (λ i. bit i y && beq (bit i (v / 2)) (bit i (c / 2)))) (ones_half n some)
    ∙ ap (λ y. beq (odd v) (odd c) || y) (full_one n (v / 2) (c / 2) (omega arith) (omega arith))
    ∙ turn (odd v) (odd c) (eqb (v / 2) (2 ^ n - 1 - c / 2))
    ∙ ap not
    (ap₂ (λ x y. beq (odd v) x && eqb (v / 2) y) (sym (turned n c k)) (sym half) ∙ halves v (ones n - c))
  where
    turn : (x y z : Bool) → beq x y || not z ≡ not (beq x (not y) && z)
    turn true true z = refl
    turn true false z = refl
    turn false true z = refl
    turn false false z = refl

    turned : (n c : ℕ) → c < 2 ^ suc n → odd (ones n - c) ≡ not (odd c)
    turned n c k = elim (ℕ_discrete (c % 2) 1) [
      | yes e ↦ rw (eq-eqb (c % 2) 1 e) (ne_eqb ((ones n - c) % 2) 1 (omega arith))
      | no e ↦ rw (ne_eqb (c % 2) 1 e) (eq-eqb ((ones n - c) % 2) 1 (omega arith))
    ]

-- one entry more
dnf-more : (n : ℕ) (xs : List Clause) (x : Clause) (c : ℕ) → dnf n (xs ++ (x ∷ [])) c ≡ dnf n xs c || all_hold n x c
unfolding dnf
dnf-more n [] x c = go (all_hold n x c)
  where
    go : (a : Bool) → a || false ≡ a
    go true = refl
    go false = refl
dnf-more n (y ∷ xs) x c = ap (λ z. all_hold n y c || z) (dnf-more n xs x c) ∙ or_assoc (all_hold n y c) (dnf n xs c) (all_hold n x c)

cnf-more : (n : ℕ) (xs : List Clause) (x : Clause) (c : ℕ) → cnf n (xs ++ (x ∷ [])) c ≡ cnf n xs c && one_holds n x c
unfolding cnf
cnf-more n [] x c = go (one_holds n x c)
  where
    go : (a : Bool) → a && true ≡ a
    go true = refl
    go false = refl
cnf-more n (y ∷ xs) x c = ap (λ z. one_holds n y c && z) (cnf-more n xs x c) ∙ go (one_holds n y c) (cnf n xs c) (one_holds n x c)
  where
    go : (a b d : Bool) → a && (b && d) ≡ (a && b) && d
    go true b d = refl
    go false b d = refl

module _ (n : ℕ) (list : List ℕ) (c : ℕ) (small : c < 2 ^ n) where
  pub dnf-listed : (k : ℕ) → ((i : ℕ) → i < k → get_or list i 0 < 2 ^ n) → dnf n (opening (case_at n list) k) c ≡ listed_case list k c
  unfolding opening listed_case dnf
  dnf-listed zero h = refl
  dnf-listed (suc k) h =
      dnf-more n (opening (case_at n list) k) (case_at n list k) c
      ∙ ap₂ ◌||◌ (dnf-listed k (λ i l. h i (omega arith))) (full_all n (get_or list k 0) c (h k (omega arith)) small)

  pub cnf-listed : (k : ℕ) → ((i : ℕ) → i < k → get_or list i 0 < 2 ^ n) → cnf n (opening (case_at n list) k) c ≡ not (listed_case list k (2 ^ n - 1 - c))
  unfolding opening listed_case cnf
  cnf-listed zero h = refl
  cnf-listed (suc k) h =
      cnf-more n (opening (case_at n list) k) (case_at n list k) c
      ∙ ap₂ ◌&&◌ (cnf-listed k (λ i l. h i (omega arith))) (full_one n (get_or list k 0) c (h k (omega arith)) small)
      ∙ go (listed_case list k (2 ^ n - 1 - c)) (eqb (get_or list k 0) (2 ^ n - 1 - c))
    where
      go : (a b : Bool) → not a && not b ≡ not (a || b)
      go true b = refl
      go false b = refl
