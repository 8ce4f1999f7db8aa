-- Laws of lists of words: the last entry of a mark wins, and a clause and its words give each other.
use mathlib.Core.Path.{◌≡◌, refl, sym, ap, ap₂, subst, ◌∙◌}
use mathlib.Core.Logic.{◌≢◌}
use mathlib.Core.Bool.{Bool, true, false, cond}
use mathlib.Core.List.{List, [], ◌∷◌, ◌++◌, map, append-nil, map-append}
use mathlib.Core.Option.{Option, none, some}
use Prim.Native.Nat.{ℕ, zero, suc, ◌+◌, ◌*◌, ◌/◌, ◌%◌, ◌≤◌, ◌<◌}
use native.Mathlib.Omega.{arith}
use native.Mathlib.Decide.{ℕ_discrete, dec_lt}
use lib.Dec.{ltb}
use lib.ListN.{length, get_or, length-append, get_or-append}
use lib.Pow.{pow_mono}
use lib.Seq.{append_snoc, get_or-append_seam}
use borrow.Author.Tests.{eq-eqb, ne_eqb, lt-ltb, le-ltb}
use Rattle.theory.specs.Mask.{odd, bit, set_bit}
use Rattle.theory.specs.Clause.{Clause, WellFormed, cell, empty_clause, set_cell, marks_of, entry_of, entries_of, gather}
use Rattle.theory.proofs.Masks.{bit_past, bit-set_bit}
use Rattle.theory.proofs.Marks.{marks_of-zero}
use Rattle.theory.proofs.Clauses.{empty-formed, set-formed, cell_set, cell-empty, cell_ext}

-- ---- one word

pub entry-mark : (m : ℕ) (b : Bool) → entry_of m b / 2 ≡ m
entry-mark m true = omega arith
entry-mark m false = omega arith

pub entry_value : (m : ℕ) (b : Bool) → odd (entry_of m b) ≡ b
entry_value m true = eq-eqb ((2 * m + 1) % 2) 1 (omega arith)
entry_value m false = ne_eqb ((2 * m + 0) % 2) 1 (omega arith)

pub entry_again : (w : ℕ) → entry_of (w / 2) (odd w) ≡ w
entry_again w = elim (ℕ_discrete (w % 2) 1) [
  | yes e ↦ rw (eq-eqb (w % 2) 1 e) (omega arith)
  | no e ↦ rw (ne_eqb (w % 2) 1 e) (omega arith)
]

-- ---- the fold

pub gather_append : (c : Clause) (us ws : List ℕ) → gather c (us ++ ws) ≡ gather (gather c us) ws
unfolding gather
gather_append c [] ws = refl
gather_append c (u ∷ us) ws = gather_append (set_cell c (u / 2) (odd u)) us ws

-- the last entry sets its mark, whatever stands before it
pub gather-last : (c : Clause) (ws : List ℕ) (w : ℕ) → gather c (ws ++ (w ∷ [])) ≡ set_cell (gather c ws) (w / 2) (odd w)
unfolding gather
gather-last c ws w = gather_append c ws (w ∷ [])

-- every entry's mark is below n
abbrev pub MarksBelow : ℕ → List ℕ → Type 0
MarksBelow n ws = (i : ℕ) → i < length ws → get_or ws i 0 / 2 < n

pub gather-formed : (n : ℕ) (c : Clause) (ws : List ℕ) → MarksBelow n ws → WellFormed n c → WellFormed n (gather c ws)
unfolding gather
gather-formed n c [] below w = w
gather-formed n c (u ∷ us) below w =
    gather-formed n (set_cell c (u / 2) (odd u)) us (λ i d. below (suc i) (omega arith)) (set-formed n c (u / 2) (odd u) (below 0 (omega arith)) w)

-- ---- a clause from its words

-- the words below n, and that of n if it is fixed
entries_more : (n : ℕ) (c : Clause) → entries_of (suc n) c ≡ entries_of n c ++ cond (bit n c.fixed) (entry_of n (bit n c.values) ∷ []) []
unfolding entries_of marks_of
entries_more n c = map-append (λ m. entry_of m (bit m c.values)) (marks_of n c.fixed) (cond (bit n c.fixed) (n ∷ []) []) ∙ ap (λ x. entries_of n c ++ x) (split (bit n c.fixed))
  where
    split : (b : Bool) → map (λ m. entry_of m (bit m c.values)) (cond b (n ∷ []) []) ≡ cond b (entry_of n (bit n c.values) ∷ []) []
    split true = refl
    split false = refl

below_snoc : (n : ℕ) (us : List ℕ) (w : ℕ) → MarksBelow n us → w / 2 < n → MarksBelow n (us ++ (w ∷ []))
below_snoc n us w below h i d = elim (dec_lt i (length us)) [
  | yes l ↦ rw (get_or-append us (w ∷ []) 0 i l) (below i l)
  | no l ↦ let e : i ≡ length us = omega (arith, length-append us (w ∷ [])) in rw (e, get_or-append_seam us w [] 0) h
]

pub entries_below : (n k : ℕ) (c : Clause) → k ≤ n → MarksBelow n (entries_of k c)
entries_below n zero c h = unfold entries_of marks_of in λ i d. absurd (let z : ⊥ = omega arith in z)
entries_below n (suc k) c h = subst (MarksBelow n) (sym (entries_more k c)) (split (bit k c.fixed) (entries_below n k c (omega arith)))
  where
    split : (b : Bool) → MarksBelow n (entries_of k c) → MarksBelow n (entries_of k c ++ cond b (entry_of k (bit k c.values) ∷ []) [])
    split true ih = below_snoc n (entries_of k c) (entry_of k (bit k c.values)) ih (omega (arith, entry-mark k (bit k c.values)))
    split false ih = subst (MarksBelow n) (sym (append-nil (entries_of k c))) ih

ltb_skip : (m k : ℕ) → m ≢ k → ltb m k ≡ ltb m (suc k)
ltb_skip m k e = elim (dec_lt m k) [
  | yes l ↦ lt-ltb m k l ∙ sym (lt-ltb m (suc k) (omega arith))
  | no l ↦ le-ltb m k (omega arith) ∙ sym (le-ltb m (suc k) (omega arith))
]

-- the cells that the words below k give are those below k
module _ (c : Clause) (m : ℕ) where
  abbrev up_to : ℕ → Option Bool
  up_to k = cond (ltb m k) (cell c m) none

  up_to_skip : (k : ℕ) → m ≢ k → up_to k ≡ up_to (suc k)
  up_to_skip k e = ap (λ t. cond t (cell c m) none) (ltb_skip m k e)

  up_to_here : (k : ℕ) → m ≡ k → up_to (suc k) ≡ cell c k
  up_to_here k e = ap (λ t. cond t (cell c m) none) (lt-ltb m (suc k) (omega arith)) ∙ ap (cell c) e

  next-fixed : (k : ℕ) → bit k c.fixed ≡ true → cell (gather empty_clause (entries_of k c)) m ≡ up_to k
      → cell (gather empty_clause (entries_of k c ++ (entry_of k (bit k c.values) ∷ []))) m ≡ up_to (suc k)
  next-fixed k t ih =
      ap (λ d. cell d m) (gather-last empty_clause (entries_of k c) (entry_of k (bit k c.values)))
      ∙ ap₂ (λ j b. cell (set_cell (gather empty_clause (entries_of k c)) j b) m) (entry-mark k (bit k c.values)) (entry_value k (bit k c.values))
      ∙ cell_set (gather empty_clause (entries_of k c)) k (bit k c.values) m
      ∙ elim (ℕ_discrete m k) [
        | yes e ↦ rw (eq-eqb m k e) (sym (up_to_here k e ∙ held))
        | no e ↦ rw (ne_eqb m k e) (ih ∙ up_to_skip k e)
      ]
    where
      held : cell c k ≡ some (bit k c.values)
      held = unfold cell in rw t

  next_unset : (k : ℕ) → bit k c.fixed ≡ false → cell (gather empty_clause (entries_of k c)) m ≡ up_to k
      → cell (gather empty_clause (entries_of k c ++ [])) m ≡ up_to (suc k)
  next_unset k t ih = ap (λ ws. cell (gather empty_clause ws) m) (append-nil (entries_of k c)) ∙ ih ∙ elim (ℕ_discrete m k) [
    | yes e ↦ ap (λ t. cond t (cell c m) none) (le-ltb m k (omega arith)) ∙ sym (up_to_here k e ∙ free)
    | no e ↦ up_to_skip k e
  ]
    where
      free : cell c k ≡ none
      free = unfold cell in rw t

  gather-cells : (k : ℕ) → cell (gather empty_clause (entries_of k c)) m ≡ up_to k
  gather-cells zero = unfold entries_of marks_of gather in cell-empty m ∙ sym (ap (λ t. cond t (cell c m) none) (le-ltb m 0 (omega arith)))
  gather-cells (suc k) =
      ap (λ ws. cell (gather empty_clause ws) m) (entries_more k c)
      ∙ (elim (bit k c.fixed) as (λ b. bit k c.fixed ≡ b → cell (gather empty_clause (entries_of k c ++ cond b (entry_of k (bit k c.values) ∷ []) [])) m ≡ up_to (suc k)) [
        | true ↦ λ t. next-fixed k t (gather-cells k)
        | false ↦ λ t. next_unset k t (gather-cells k)
      ]) refl

-- a well-formed clause is what its words give
pub from_entries : (n : ℕ) (c : Clause) → WellFormed n c → gather empty_clause (entries_of n c) ≡ c
from_entries n c w =
    cell_ext n (gather empty_clause (entries_of n c)) c (gather-formed n empty_clause (entries_of n c) (entries_below n n c (omega arith)) (empty-formed n)) w
    (λ m h. gather-cells c m n ∙ ap (λ t. cond t (cell c m) none) (lt-ltb m n h))

-- ---- words from a rising list

-- each mark is at least l and above those before it
pub data Rising : ℕ → List ℕ → Type 0 where
  rising_end : {l : ℕ} → Rising l []
  rising_more : {l w : ℕ} {ws : List ℕ} → l ≤ w / 2 → Rising (suc (w / 2)) ws → Rising l (w ∷ ws)

entries_low : (k : ℕ) (c : Clause) (m : ℕ) (b : Bool) → k ≤ m → entries_of k (set_cell c m b) ≡ entries_of k c
unfolding set_cell
entries_low zero c m b h = unfold entries_of marks_of in refl
entries_low (suc k) c m b h =
    entries_more k (set_cell c m b)
    ∙ ap₂ (λ us x. us ++ x) (entries_low k c m b (omega arith)) (ap₂ (λ f v. cond f (entry_of k v ∷ []) []) (same true c.fixed) (same b c.values))
    ∙ sym (entries_more k c)
  where
    same : (v : Bool) (x : ℕ) → bit k (set_bit m v x) ≡ bit k x
    same v x = bit-set_bit k m v x ∙ ap (λ t. cond t v (bit k x)) (ne_eqb k m (omega arith))

wider : (l n : ℕ) (c : Clause) → l ≤ n → WellFormed l c → WellFormed n c
wider l n c h w = record { small = omega (arith, w.small, pow_mono h); small-values = omega (arith, w.small-values, pow_mono h); inside = w.inside }

-- a mark above all that are fixed adds its word at the end
entries_set : (n l : ℕ) (c : Clause) (m : ℕ) (b : Bool) → WellFormed l c → l ≤ m → m < n → entries_of n (set_cell c m b) ≡ entries_of n c ++ (entry_of m b ∷ [])
unfolding set_cell
entries_set zero l c m b w h d = absurd (let z : ⊥ = omega arith in z)
entries_set (suc k) l c m b w h d = entries_more k (set_cell c m b) ∙ elim (ℕ_discrete m k) [
  | yes e ↦
      ap₂ (λ us x. us ++ x) (entries_low k c m b (omega arith))
      (ap₂ (λ f v. cond f (entry_of k v ∷ []) []) (hit true c.fixed e) (hit b c.values e) ∙ ap (λ j. entry_of j b ∷ []) (sym e))
      ∙ ap (λ us. us ++ (entry_of m b ∷ [])) (sym all)
  | no e ↦
      ap₂ (λ us x. us ++ x) (entries_set k l c m b w h (omega arith)) (ap (λ f. cond f (entry_of k (bit k (set_cell c m b).values) ∷ []) []) (miss e))
      ∙ append-nil _
      ∙ ap (λ us. us ++ (entry_of m b ∷ [])) (sym all)
]
  where
    -- nothing is fixed at k
    all : entries_of (suc k) c ≡ entries_of k c
    all = entries_more k c ∙ ap (λ f. entries_of k c ++ cond f (entry_of k (bit k c.values) ∷ []) []) (bit_past l k c.fixed w.small (omega arith)) ∙ append-nil (entries_of k c)

    hit : (v : Bool) (x : ℕ) → m ≡ k → bit k (set_bit m v x) ≡ v
    hit v x e = bit-set_bit k m v x ∙ ap (λ t. cond t v (bit k x)) (eq-eqb k m (sym e))

    miss : m ≢ k → bit k (set_cell c m b).fixed ≡ false
    miss e = bit-set_bit k m true c.fixed ∙ ap (λ t. cond t true (bit k c.fixed)) (ne_eqb k m (omega arith)) ∙ bit_past l k c.fixed w.small (omega arith)

entries_after : (n l : ℕ) (c : Clause) (ws : List ℕ) → WellFormed l c → Rising l ws → MarksBelow n ws → entries_of n (gather c ws) ≡ entries_of n c ++ ws
unfolding gather
entries_after n l c [] w rising_end below = sym (append-nil (entries_of n c))
entries_after n l c (u ∷ us) w (rising_more h r) below =
    entries_after n (suc (u / 2)) (set_cell c (u / 2) (odd u)) us
    (set-formed (suc (u / 2)) c (u / 2) (odd u) (omega arith) (wider l (suc (u / 2)) c (omega arith) w))
    r
    (λ i d. below (suc i) (omega arith))
    ∙ ap (λ vs. vs ++ us) (entries_set n l c (u / 2) (odd u) w h (below 0 (omega arith)) ∙ ap (λ x. entries_of n c ++ (x ∷ [])) (entry_again u))
    ∙ append_snoc (entries_of n c) u us

-- a rising list comes back
pub to_entries : (n : ℕ) (ws : List ℕ) → Rising 0 ws → MarksBelow n ws → entries_of n (gather empty_clause ws) ≡ ws
to_entries n ws r below = entries_after n 0 empty_clause ws (empty-formed 0) r below ∙ ap (λ us. us ++ ws) nothing
  where
    nothing : entries_of n empty_clause ≡ []
    nothing = unfold entries_of empty_clause in ap (map (λ m. entry_of m (bit m 0))) (marks_of-zero n)
