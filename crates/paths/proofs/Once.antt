-- Of each case exactly one path is taken: exactly one clause of the path DNF holds where the table says yes, exactly one of the path CNF fails where it says no.
use mathlib.Core.Path.{◌≡◌, refl, sym, ap, ap₂, ◌∙◌}
use mathlib.Core.Bool.{Bool, true, false, cond, not, ◌&&◌, ◌||◌, beq}
use mathlib.Core.List.{List, [], ◌∷◌, ◌++◌}
use Prim.Native.Nat.{ℕ, zero, suc, ◌+◌, ◌-◌, ◌/◌, ◌^◌, ◌≤◌, ◌<◌}
use native.Mathlib.Omega.{arith}
use native.Mathlib.Decide.{ℕ_discrete, dec_lt}
use native.Mathlib.Nat.{div-one}
use lib.Dec.{eqb, eqb-suc-suc, eqb-zero-suc, eqb-suc-zero}
use lib.ListN.{length}
use lib.Pow.{pow_pos, pow_mono}
use borrow.Author.Tests.{eq-eqb, ne_eqb}
use Rattle.theory.specs.Mask.{odd, bit, set_bit}
use Rattle.theory.specs.Tree.{look}
use Rattle.theory.specs.Table.{Node, Table, at, truth, says, meaning, Ordered}
use Rattle.theory.specs.Clause.{Clause, empty_clause, set_cell}
use Rattle.theory.proofs.Masks.{bit_past, bit-set_bit, set_bit-lt}
use Rattle.theory.proofs.Step.{Stands, stands_child, mark-le}
use Rattle.theory.proofs.Cases.{says-look}
use Rattle.theory.proofs.Levels.{node_says, node_says-level, node_says-step, node_says_bottom}
use Rattle.theory.proofs.Truths.{beq_one}
use Rattle.cube.specs.Cube.{every_mark, all_are}
use Rattle.cube.proofs.Runs.{all_hold_lem, one_holds_lem}
use Rattle.paths.specs.Paths.{ended, paths_from, path_list, hits, misses, decides}
use Rattle.paths.proofs.PathLaws.{ends, paths_end, paths_step}

-- ---- one literal more

-- the literal at mark i, where there is one, has the truth value b
abbrev literal_is : Bool → ℕ → ℕ → ℕ → ℕ → Bool
literal_is b f v c i = not (bit i f) || beq (beq (bit i v) (bit i c)) b

each_literal : (b : Bool) (n f v c : ℕ) → all_are b n f v c ≡ every_mark n (literal_is b f v c)
unfolding all_are every_mark bit
each_literal b zero f v c = refl
each_literal b (suc n) f v c = ap (λ y. (not (odd f) || beq (beq (odd v) (odd c)) b) && y) (each_literal b n (f / 2) (v / 2) (c / 2))

every_same : (k : ℕ) (p q : ℕ → Bool) → ((i : ℕ) → q i ≡ p i) → every_mark k q ≡ every_mark k p
unfolding every_mark
every_same zero p q e = refl
every_same (suc k) p q e = ap₂ ◌&&◌ (e 0) (every_same k (λ i. p (suc i)) (λ i. q (suc i)) (λ i. e (suc i)))

and_swap : (x y t : Bool) → x && (y && t) ≡ (x && y) && t
and_swap true y t = refl
and_swap false y t = refl

and-turn : (t y : Bool) → t && y ≡ (true && y) && t
and-turn true true = refl
and-turn true false = refl
and-turn false true = refl
and-turn false false = refl

-- a test that is passed at mark m, made t there
every_set : (k m : ℕ) (t : Bool) (p q : ℕ → Bool) → m < k → p m ≡ true → ((i : ℕ) → q i ≡ cond (eqb i m) t (p i)) → every_mark k q ≡ every_mark k p && t
unfolding every_mark
every_set zero m t p q h at-m e = absurd (let z : ⊥ = omega arith in z)
every_set (suc k) zero t p q h at-m e =
    rw (e 0, at-m, every_same k (λ i. p (suc i)) (λ i. q (suc i)) (λ i. e (suc i) ∙ ap (λ x. cond x t (p (suc i))) (eqb-suc-zero i)))
    (and-turn t (every_mark k (λ i. p (suc i))))
every_set (suc k) (suc m) t p q h at-m e =
    ap₂ ◌&&◌ (e 0 ∙ ap (λ x. cond x t (p 0)) (eqb-zero-suc m))
    (every_set k m t (λ i. p (suc i)) (λ i. q (suc i)) (omega arith) at-m (λ i. e (suc i) ∙ ap (λ x. cond x t (p (suc i))) (eqb-suc-suc i m)))
    ∙ and_swap (p 0) (every_mark k (λ i. p (suc i))) t

pub literal_more : (b : Bool) (n f v m : ℕ) (y : Bool) (c : ℕ) → m < n → bit m f ≡ false
    → all_are b n (set_bit m true f) (set_bit m y v) c ≡ all_are b n f v c && beq (beq y (bit m c)) b
literal_more b n f v m y c h unset =
    each_literal b n (set_bit m true f) (set_bit m y v) c
    ∙ every_set n m (beq (beq y (bit m c)) b) (literal_is b f v c) (literal_is b (set_bit m true f) (set_bit m y v) c) h (free _ _ unset)
    (λ i. rw (bit-set_bit i m true f, bit-set_bit i m y v) (elim (ℕ_discrete i m) [ yes e ↦ rw (eq-eqb i m e, e) | no e ↦ rw (ne_eqb i m e) ]))
    ∙ ap (λ z. z && beq (beq y (bit m c)) b) (sym (each_literal b n f v c))
  where
    free : (x z : Bool) → x ≡ false → not x || z ≡ true
    free x z e = rw e

-- ---- counts over a list

pub decides-append : (b : Bool) (n : ℕ) (xs ys : List Clause) (c : ℕ) → decides b n (xs ++ ys) c ≡ decides b n xs c + decides b n ys c
unfolding decides
decides-append b n [] ys c = omega arith
decides-append b n (x ∷ xs) ys c = omega (arith, decides-append b n xs ys c)

pub decides-hits : (n : ℕ) (xs : List Clause) (c : ℕ) → decides true n xs c ≡ hits n xs c
unfolding decides hits
decides-hits n [] c = refl
decides-hits n (x ∷ xs) c = ap₂ (λ t k. cond t 1 0 + k) (all_hold_lem n x.fixed x.values c) (decides-hits n xs c)

pub decides-misses : (n : ℕ) (xs : List Clause) (c : ℕ) → decides false n xs c ≡ misses n xs c
unfolding decides misses
decides-misses n [] c = refl
decides-misses n (x ∷ xs) c = ap₂ ◌+◌ (turn (all_are false n x.fixed x.values c) ∙ ap (λ t. cond t 0 1) (one_holds_lem n x.fixed x.values c)) (decides-misses n xs c)
  where
    turn : (t : Bool) → ◌≡◌ {A = ℕ} (cond t 1 0) (cond (not t) 0 1)
    turn true = refl
    turn false = refl

-- ---- from a node

end-once : (b : Bool) (n p : ℕ) (x : Clause) (c : ℕ) → decides b n (ended b p x) c ≡ cond (all_are b n x.fixed x.values c && beq (truth p) b) 1 0
unfolding decides
end-once b n p x c = go (beq (truth p) b)
  where
    whole : (a : Bool) → ◌≡◌ {A = ℕ} (cond a 1 0 + 0) (cond (a && true) 1 0)
    whole true = refl
    whole false = refl

    none : (a : Bool) → ◌≡◌ {A = ℕ} 0 (cond (a && false) 1 0)
    none true = refl
    none false = refl

    go : (t : Bool) → decides b n (cond t (x ∷ []) []) c ≡ cond (all_are b n x.fixed x.values c && t) 1 0
    go true = whole (all_are b n x.fixed x.values c)
    go false = none (all_are b n x.fixed x.values c)

-- the case's bit leads to one child, and the literal there has the value b on that side alone
side_once : (b t a lo hi : Bool)
    → cond ((a && beq (beq (not b) t) b) && beq lo b) 1 0 + cond ((a && beq (beq b t) b) && beq hi b) 1 0
    ≡ cond (a && beq (cond t hi lo) b) 1 0
side_once true true true lo hi = omega arith
side_once true true false lo hi = refl
side_once true false true lo hi = omega arith
side_once true false false lo hi = refl
side_once false true true lo hi = omega arith
side_once false true false lo hi = refl
side_once false false true lo hi = omega arith
side_once false false false lo hi = refl

-- a cell set at mark m: the clause fixes nothing from any greater mark up
below : (x : Clause) (m : ℕ) (y : Bool) (l : ℕ) → x.fixed < 2 ^ m → suc m ≤ l → (set_cell x m y).fixed < 2 ^ l
unfolding set_cell
below x m y l w h =
    omega (arith, set_bit-lt (suc m) m true x.fixed (omega arith) (omega (arith, pow_mono {i = m} {j = suc m} (omega arith))), pow_mono {i = suc m} {j = l} h)

module _ (n : ℕ) (s : Table) (o : Ordered n s) where
  constant_mark : (p : ℕ) → p < length s → p < 2 → (at s p).mark ≡ n
  constant_mark zero l h = ap (λ (x : Node). x.mark) o.first
  constant_mark (suc zero) l h = ap (λ (x : Node). x.mark) (o.second l)
  constant_mark (suc (suc p)) l h = absurd (let z : ⊥ = omega arith in z)

  -- what the paths from a node come to, over the cells x set above it
  abbrev Once : Bool → ℕ → ℕ → Clause → ℕ → Type 0
  Once b k p x c = decides b n (paths_from b k s p x) c ≡ cond (all_are b n x.fixed x.values c && beq (node_says n s p c) b) 1 0

  end_of_path : (b : Bool) (k p : ℕ) (x : Clause) (c : ℕ) → p < length s → p < 2 → Once b k p x c
  end_of_path b k p x c l h =
      ap (λ xs. decides b n xs c) (paths_end b k s p x h)
      ∙ end-once b n p x c
      ∙ ap (λ t. cond (all_are b n x.fixed x.values c && beq t b) 1 0) (sym (node_says_bottom n s p c (constant_mark p l h)))

  both_sides : (b : Bool) (k p : ℕ) (x : Clause) (c : ℕ) → p < length s → 2 ≤ p → x.fixed < 2 ^ (at s p).mark
      → Once b k (at s p).low (set_cell x (at s p).mark (not b)) c → Once b k (at s p).high (set_cell x (at s p).mark b) c → Once b (suc k) p x c
  unfolding set_cell
  both_sides b k p x c l h w lows highs =
      let m : (at s p).mark < n = o.marks p h l in
      let unset : bit (at s p).mark x.fixed ≡ false = bit_past (at s p).mark (at s p).mark x.fixed w (omega arith) in
      ap (λ xs. decides b n xs c) (paths_step b k s p x h)
      ∙ decides-append b n _ _ c
      ∙ ap₂ ◌+◌ lows highs
      ∙ (rw (literal_more b n x.fixed x.values (at s p).mark (not b) c m unset, literal_more b n x.fixed x.values (at s p).mark b c m unset)
      (side_once b (bit (at s p).mark c) (all_are b n x.fixed x.values c) (node_says n s (at s p).low c) (node_says n s (at s p).high c)))
      ∙ ap (λ t. cond (all_are b n x.fixed x.values c && beq t b) 1 0) (sym (leads (bit (at s p).mark c) refl))
    where
      lo : Stands s (suc (at s p).mark) (at s p).low
      lo = stands_child n s o false p h l

      hi : Stands s (suc (at s p).mark) (at s p).high
      hi = stands_child n s o true p h l

      leads : (t : Bool) → t ≡ bit (at s p).mark c → node_says n s p c ≡ cond t (node_says n s (at s p).high c) (node_says n s (at s p).low c)
      leads true e = node_says-step n s p c (o.marks p h l) (at s p).high (rw (← e)) hi.fits (mark-le n s o (at s p).high hi.lies)
      leads false e = node_says-step n s p c (o.marks p h l) (at s p).low (rw (← e)) lo.fits (mark-le n s o (at s p).low lo.lies)

  pub once : (b : Bool) (k p : ℕ) (x : Clause) (c : ℕ) → p < length s → n ≤ k + (at s p).mark → x.fixed < 2 ^ (at s p).mark → Once b k p x c
  once b zero p x c l e w = end_of_path b zero p x c l (ends n s o p l (omega arith))
  once b (suc k) p x c l e w = elim (dec_lt p 2) [
    | yes h ↦ end_of_path b (suc k) p x c l h
    | no h ↦
        let lo : Stands s (suc (at s p).mark) (at s p).low = stands_child n s o false p (omega arith) l in
        let hi : Stands s (suc (at s p).mark) (at s p).high = stands_child n s o true p (omega arith) l in
        both_sides b k p x c l (omega arith) w
        (once b k (at s p).low (set_cell x (at s p).mark (not b)) c lo.lies (omega (arith, lo.fits)) (below x (at s p).mark (not b) (at s (at s p).low).mark w lo.fits))
        (once b k (at s p).high (set_cell x (at s p).mark b) c hi.lies (omega (arith, hi.fits)) (below x (at s p).mark b (at s (at s p).high).mark w hi.fits))
  ]

no_literal : (b : Bool) (n c : ℕ) → all_are b n 0 0 c ≡ true
unfolding all_are
no_literal b zero c = refl
no_literal b (suc n) c = no_literal b n (c / 2)

-- a table's path list: exactly one clause where it says b, and none elsewhere
pub list-once : (b : Bool) (n : ℕ) (s : Table) → Ordered n s → (c : ℕ) → decides b n (path_list b n s) c ≡ cond (beq (look (meaning n s) c) b) 1 0
unfolding path_list meaning empty_clause
list-once b n s o c =
    once n s o b n (length s - 1) empty_clause c (omega (arith, o.some)) (omega arith) (pow_pos (at s (length s - 1)).mark)
    ∙ ap₂ (λ a t. cond (a && beq t b) 1 0) (no_literal b n c) (sym whole)
  where
    whole : look (meaning n s) c ≡ node_says n s (length s - 1) c
    whole = unfold meaning in
        sym (says-look n s 0 (length s - 1) c)
        ∙ ap₂ (λ k d. says k s 0 (length s - 1) d) (let z : n ≡ n - 0 = omega arith in z) (sym (div-one c))
        ∙ node_says-level n s 0 (length s - 1) c (omega arith) (mark-le n s o (length s - 1) (omega (arith, o.some)))

-- a case satisfies exactly one clause of the path DNF if the table says yes, else none
pub dnf-once : (n : ℕ) (s : Table) → Ordered n s → (c : ℕ) → hits n (path_list true n s) c ≡ cond (look (meaning n s) c) 1 0
dnf-once n s o c = sym (decides-hits n (path_list true n s) c) ∙ list-once true n s o c ∙ ap (λ t. cond t 1 0) (beq_one (look (meaning n s) c))

-- it falsifies exactly one clause of the path CNF if the table says no, else none
pub cnf-once : (n : ℕ) (s : Table) → Ordered n s → (c : ℕ) → misses n (path_list false n s) c ≡ cond (look (meaning n s) c) 0 1
cnf-once n s o c = sym (decides-misses n (path_list false n s) c) ∙ list-once false n s o c ∙ turned (look (meaning n s) c)
  where
    turned : (x : Bool) → ◌≡◌ {A = ℕ} (cond (beq x false) 1 0) (cond x 0 1)
    turned true = refl
    turned false = refl
