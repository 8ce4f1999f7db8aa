-- All paths to node 1 in the order of the path list, as the nodes on the way; the next path after each of them, and their clauses.
use mathlib.Core.Path.{◌≡◌, refl, sym, ap, ap₂, ◌∙◌}
use mathlib.Core.Logic.{◌≢◌, ◌⊎◌, inl, inr}
use mathlib.Core.Bool.{Bool, true, false, cond}
use mathlib.Core.List.{List, [], ◌∷◌, ◌++◌, map}
use Prim.Native.Nat.{ℕ, zero, suc, ◌+◌, ◌*◌, ◌-◌, ◌≤◌, ◌<◌}
use native.Mathlib.Omega.{arith}
use native.Mathlib.Nat.{pos_of_ne-zero}
use native.Mathlib.Decide.{ℕ_discrete, dec_lt}
use lib.Dec.{eqb, ltb}
use lib.ListN.{length, get_or}
use borrow.Author.Tests.{eq-eqb, ne_eqb, lt-ltb, le-ltb}
use Rattle.theory.specs.Table.{Table, child_of, Reduced}
use Rattle.theory.specs.Words.{stride, node_at, nodes}
use Rattle.theory.specs.Clause.{Clause, empty_clause, set_cell}
use Rattle.theory.proofs.Words.{at-nodes, child_falls}
use Rattle.refusal.specs.Limits.{max_marks}
use Rattle.paths.specs.Paths.{ended, paths_from, path_list}
use Rattle.table.specs.declared.BddPointer.{BddPointer}
use Rattle.walk.specs.Path.{Path, pointer, on, onward, first_from, first_path, can_turn, kept, turned, path_next, cells_from, clause_along, Along}
use Rattle.walk.specs.declared.PathState.{PathState}
use Rattle.walk.specs.Path.{state_of, held, Held}
use Rattle.walk.specs.Step.{step_of, yields, next_path, path_after, tells}
use Rattle.walk.proofs.PathLaws.{held-is, first-end, first_inner, mark_rises, mark-inner, links-differ}

-- the ways on from a constant: none from 0, and one from 1
abbrev arrived : ℕ → List Path
arrived p = cond (eqb p 1) ([] ∷ []) []

-- a node before each way
abbrev behind : ℕ → List Path → List Path
behind p L = map (λ (x : Path). pointer p ∷ x) L

-- the ways on from node p to node 1, low branch first; none has more than k nodes
unfoldable pub ways_on : ℕ → List ℕ → ℕ → List Path
ways_on zero w p = arrived p
ways_on (suc k) w p =
    cond (ltb p 2) (arrived p)
    (behind (node_at w p).low (ways_on k w (node_at w p).low) ++ behind (node_at w p).high (ways_on k w (node_at w p).high))

-- the paths from node p
abbrev pub ways : ℕ → List ℕ → ℕ → List Path
ways k w p = behind p (ways_on k w p)

map-append : {A B : Type 0} (f : A → B) (L M : List A) → map f (L ++ M) ≡ map f L ++ map f M
map-append f [] M = refl
map-append f (x ∷ L) M = ap (λ r. f x ∷ r) (map-append f L M)

map-map : {A B C : Type 0} (f : B → C) (g : A → B) (L : List A) → map f (map g L) ≡ map (λ x. f (g x)) L
map-map f g [] = refl
map-map f g (x ∷ L) = ap (λ r. f (g x) ∷ r) (map-map f g L)

-- the first of a list, or e
abbrev head_or : Path → List Path → Path
head_or e [] = e
head_or e (x ∷ L) = x

module _ (w : List ℕ) where
  on_constant : (k p : ℕ) → p < 2 → ways_on k w p ≡ arrived p
  unfolding ways_on
  on_constant zero p h = refl
  on_constant (suc k) p h = rw (lt-ltb p 2 h)

  on-inner : (k p : ℕ) → 2 ≤ p → ways_on (suc k) w p ≡ ways k w (node_at w p).low ++ ways k w (node_at w p).high
  unfolding ways_on
  on-inner k p h = rw (le-ltb p 2 h)

  ways-inner : (k p : ℕ) → 2 ≤ p → ways (suc k) w p ≡ behind p (ways k w (node_at w p).low) ++ behind p (ways k w (node_at w p).high)
  ways-inner k p h = ap (behind p) (on-inner k p h) ∙ map-append (λ (x : Path). pointer p ∷ x) (ways k w (node_at w p).low) (ways k w (node_at w p).high)

  ways-none : (k : ℕ) → ways k w 0 ≡ []
  ways-none k = ap (behind 0) (on_constant k 0 (omega arith))

  ways-one : (k : ℕ) → ways k w 1 ≡ (pointer 1 ∷ []) ∷ []
  ways-one k = ap (behind 1) (on_constant k 1 (omega arith))

  -- one node before a path: what is kept of it
  kept-behind : (p : BddPointer) (x : Path) (m : ℕ)
      → (kept w x m ≡ 0 → kept w (p ∷ x) (suc m) ≡ cond (can_turn w p.0 (on x 0)) 1 0) × ((i : ℕ) → kept w x m ≡ suc i → kept w (p ∷ x) (suc m) ≡ suc (suc i))
  unfolding kept
  kept-behind p x zero = (λ e. refl, λ i e. absurd (let z : ⊥ = omega arith in z))
  kept-behind p x (suc m) = elim (can_turn w (on x m) (on x (suc m)))
      as (λ v. (cond v (suc m) (kept w x m) ≡ 0 → cond v (suc (suc m)) (kept w (p ∷ x) (suc m)) ≡ cond (can_turn w p.0 (on x 0)) 1 0)
      × ((i : ℕ) → cond v (suc m) (kept w x m) ≡ suc i → cond v (suc (suc m)) (kept w (p ∷ x) (suc m)) ≡ suc (suc i))) [
        | true ↦ (λ e. absurd (let z : ⊥ = omega arith in z), λ i e. ap suc e)
        | false ↦ kept-behind p x m
      ]

  -- the path after one that is a node longer
  abbrev turned_at : ℕ → ℕ → Path
  turned_at p q = cond (can_turn w p q) (pointer p ∷ first_from max_marks w (node_at w p).high) []

  next-kept : (p q : BddPointer) (y : Path) (i : ℕ) → kept w (q ∷ y) (length y) ≡ suc i → path_next w (p ∷ q ∷ y) ≡ p ∷ path_next w (q ∷ y)
  unfolding path_next turned
  next-kept p q y i e =
      let z₁ : length (p ∷ q ∷ y) - 1 ≡ suc (length y) = omega arith in
      let z₀ : length (q ∷ y) - 1 ≡ length y = omega arith in
      rw (z₁, z₀, (kept-behind p (q ∷ y) (length y)).1 i e, e)

  next-fresh : (p q : BddPointer) (y : Path) → kept w (q ∷ y) (length y) ≡ 0 → (path_next w (q ∷ y) ≡ []) × (path_next w (p ∷ q ∷ y) ≡ turned_at p.0 q.0)
  unfolding path_next turned
  next-fresh p q y e =
      let z₁ : length (p ∷ q ∷ y) - 1 ≡ suc (length y) = omega arith in
      let z₀ : length (q ∷ y) - 1 ≡ length y = omega arith in
      (rw (z₀, e), rw (z₁, (kept-behind p (q ∷ y) (length y)).0 e) (pick (can_turn w p.0 q.0)))
    where
      pick : (v : Bool) → turned w (p ∷ q ∷ y) (cond v 1 0) ≡ cond v (p ∷ first_from max_marks w (node_at w p.0).high) []
      pick true = refl
      pick false = refl

  first_some : (f p : ℕ) → first_from f w p ≡ [] → ⊥
  unfolding first_from
  first_some zero p e = let z : ◌≡◌ {A = ℕ} 0 1 = cc in omega arith
  first_some (suc f) p e = (elim (ltb p 2) as (λ v. cond v (pointer p ∷ []) (pointer p ∷ first_from f w (onward (node_at w p))) ≡ [] → ⊥) [
    | true ↦ λ d. let z : ◌≡◌ {A = ℕ} 0 1 = cc in omega arith
    | false ↦ λ d. let z : ◌≡◌ {A = ℕ} 0 1 = cc in omega arith
  ]) e

  cons_some : (x : BddPointer) (y : Path) → x ∷ y ≡ [] → ⊥
  cons_some x y e = let z : ◌≡◌ {A = ℕ} 0 1 = cc in omega arith

  -- a path behind a node goes on as the path does; where it has none after it, the node may turn
  next-some : (p q z : BddPointer) (y zs : Path) → path_next w (q ∷ y) ≡ z ∷ zs → path_next w (p ∷ q ∷ y) ≡ p ∷ z ∷ zs
  next-some p q z y zs e = go (kept w (q ∷ y) (length y)) refl
    where
      go : (k : ℕ) → kept w (q ∷ y) (length y) ≡ k → path_next w (p ∷ q ∷ y) ≡ p ∷ z ∷ zs
      go zero d = absurd (cons_some z zs (sym e ∙ (next-fresh p q y d).0))
      go (suc i) d = next-kept p q y i d ∙ ap (λ r. p ∷ r) e

  turned-some : (x : Path) (i : ℕ) → turned w x (suc i) ≡ [] → ⊥
  unfolding turned
  turned-some [] i e = first_some max_marks _ e
  turned-some (p ∷ x) i e = cons_some p _ e

  next-none : (p q : BddPointer) (y : Path) → path_next w (q ∷ y) ≡ [] → path_next w (p ∷ q ∷ y) ≡ turned_at p.0 q.0
  unfolding path_next
  next-none p q y e = go (kept w (q ∷ y) (length y)) refl
    where
      go : (k : ℕ) → kept w (q ∷ y) (length y) ≡ k → turned w (p ∷ q ∷ y) (kept w (p ∷ q ∷ y) (length (p ∷ q ∷ y) - 1)) ≡ turned_at p.0 q.0
      go zero d = (next-fresh p q y d).1
      go (suc i) d =
          let z₀ : length (q ∷ y) - 1 ≡ length y = omega arith in
          absurd (turned-some (q ∷ y) i (rw (z₀, d) at e))

  -- each path of the list is followed by the next, and the last by e
  unfoldable Runs : Path → List Path → Type 0
  Runs e [] = Unit {0}
  Runs e (x ∷ L) = (path_next w x ≡ head_or e L) × Runs e L

  head-append : (e : Path) (L M : List Path) → head_or e (L ++ M) ≡ head_or (head_or e M) L
  head-append e [] M = refl
  head-append e (x ∷ L) M = refl

  runs_append : (e : Path) (L M : List Path) → Runs (head_or e M) L → Runs e M → Runs e (L ++ M)
  unfolding Runs
  runs_append e [] M a b = b
  runs_append e (x ∷ L) M a b = (a.0 ∙ sym (head-append e L M), runs_append e L M a.1 b)

  runs_behind : (p q : ℕ) (L : List Path) → Runs [] (behind q L) → Runs (turned_at p q) (behind p (behind q L))
  unfolding Runs
  runs_behind p q [] a = a
  runs_behind p q (x ∷ []) a = (next-none (pointer p) (pointer q) x a.0, tt)
  runs_behind p q (x ∷ y ∷ L) a = (next-some (pointer p) (pointer q) (pointer q) x y a.0, runs_behind p q (y ∷ L) a.1)

module _ (w : List ℕ) (n count : ℕ) (r : Reduced n (nodes count w)) where
  abbrev s : Table
  s = nodes count w

  -- a node that stands k levels above the constants
  record Stands (k p : ℕ) : Type 0 where
    level : ℕ
    levels : level + k ≡ n
    lies : p < count
    deep : level ≤ (node_at w p).mark

  above : (k p : ℕ) (b : Bool) → 2 ≤ p → Stands (suc k) p → Stands k (child_of b (node_at w p))
  above k p b two t = record {
    level = suc t.level;
    levels = omega (arith, t.levels);
    lies = omega (arith, child_falls n count w r.ordered p b two t.lies, t.lies);
    deep = omega (arith, mark_rises w n count r p b two t.lies, t.deep);
  }

  no_levels : (p : ℕ) → 2 ≤ p → Stands zero p → ⊥
  no_levels p two t = omega (arith, t.levels, t.deep, mark-inner w n count r p two t.lies)

  -- the first of the ways is the first path
  record First (k f p : ℕ) : Type 0 where
    rest : List Path
    is : ways k w p ≡ first_from f w p ∷ rest

  low_first : (k f p : ℕ) → 2 ≤ p → (node_at w p).low ≢ 0 → First k f (node_at w p).low → First (suc k) (suc f) p
  low_first k f p two e a =
      let o : onward (node_at w p) ≡ (node_at w p).low = rw (ne_eqb (node_at w p).low 0 e) in
      record {
        rest = behind p a.rest ++ behind p (ways k w (node_at w p).high);
        is = ways-inner w k p two ∙ ap (λ L. behind p L ++ behind p (ways k w (node_at w p).high)) a.is ∙ ap (λ y. y ∷ (behind p a.rest ++ behind p (ways k w (node_at w p).high))) (sym (first_inner f w p two ∙ ap (λ q. pointer p ∷ first_from f w q) o));
      }

  high-first : (k f p : ℕ) → 2 ≤ p → (node_at w p).low ≡ 0 → First k f (node_at w p).high → First (suc k) (suc f) p
  high-first k f p two e a =
      let o : onward (node_at w p) ≡ (node_at w p).high = rw (eq-eqb (node_at w p).low 0 e) in
      let none : ways k w (node_at w p).low ≡ [] = ap (ways k w) e ∙ ways-none w k in
      record {
        rest = behind p a.rest;
        is = ways-inner w k p two ∙ ap₂ (λ L M. behind p L ++ behind p M) none a.is ∙ ap (λ y. y ∷ behind p a.rest) (sym (first_inner f w p two ∙ ap (λ q. pointer p ∷ first_from f w q) o));
      }

  one-first : (k f p : ℕ) → p ≡ 1 → First k f p
  one-first k f p e = rw e (record { rest = []; is = ways-one w k ∙ ap (λ y. y ∷ []) (sym (first-end f w 1 (omega arith))) })

  ways-first : (k f p : ℕ) → 1 ≤ p → Stands k p → n ≤ (node_at w p).mark + f → First k f p
  ways-first zero f p some t h = elim (dec_lt p 2) [
    | yes c ↦ one-first zero f p (omega arith)
    | no c ↦ absurd (no_levels p (omega arith) t)
  ]
  ways-first (suc k) zero p some t h = elim (dec_lt p 2) [
    | yes c ↦ one-first (suc k) zero p (omega arith)
    | no c ↦ absurd (let z : ⊥ = omega (arith, mark-inner w n count r p (omega arith) t.lies) in z)
  ]
  ways-first (suc k) (suc f) p some t h = elim (dec_lt p 2) [
    | yes c ↦ one-first (suc k) (suc f) p (omega arith)
    | no c ↦
        let two : 2 ≤ p = omega arith in
        elim (ℕ_discrete (node_at w p).low 0) [
          | yes e ↦
              high-first k f p two e
              (ways-first k f (node_at w p).high (omega (arith, pos_of_ne-zero (λ z. links-differ w n count r p two t.lies (e ∙ sym z)))) (above k p true two t) (omega (arith, mark_rises w n count r p true two t.lies)))
          | no e ↦ low_first k f p two e (ways-first k f (node_at w p).low (pos_of_ne-zero e) (above k p false two t) (omega (arith, mark_rises w n count r p false two t.lies)))
        ]
  ]

  -- after the last low way comes the first high one
  turn_low : (k p : ℕ) → 2 ≤ p → n ≤ max_marks → Stands (suc k) p → turned_at w p (node_at w p).low ≡ head_or [] (behind p (ways k w (node_at w p).high))
  unfolding can_turn
  turn_low k p two most t = elim (ℕ_discrete (node_at w p).high 0) [
    | yes e ↦
        let none : ways k w (node_at w p).high ≡ [] = ap (ways k w) e ∙ ways-none w k in
        rw (eq-eqb (node_at w p).low (node_at w p).low refl, eq-eqb (node_at w p).high 0 e) (sym (ap (λ L. head_or [] (behind p L)) none))
    | no e ↦
        let f : First k max_marks (node_at w p).high = ways-first k max_marks (node_at w p).high (omega (arith, e)) (above k p true two t) (omega arith) in
        rw (eq-eqb (node_at w p).low (node_at w p).low refl, ne_eqb (node_at w p).high 0 e) (sym (ap (λ L. head_or [] (behind p L)) f.is))
  ]

  -- and after the last high one none
  turn-high : (p : ℕ) → 2 ≤ p → p < count → turned_at w p (node_at w p).high ≡ []
  unfolding can_turn
  turn-high p two h = rw (ne_eqb (node_at w p).low (node_at w p).high (links-differ w n count r p two h))

  constant_run : (k p : ℕ) → p < 2 → Runs w [] (ways k w p)
  unfolding Runs path_next kept turned
  constant_run k zero h = rw (ways-none w k) tt
  constant_run k (suc zero) h = rw (ways-one w k) (refl, tt)
  constant_run k (suc (suc p)) h = absurd (let z : ⊥ = omega arith in z)

  ways-run : (k p : ℕ) → n ≤ max_marks → Stands k p → Runs w [] (ways k w p)
  ways-run zero p most t = elim (dec_lt p 2) [ yes c ↦ constant_run zero p c | no c ↦ absurd (no_levels p (omega arith) t) ]
  ways-run (suc k) p most t = elim (dec_lt p 2) [
    | yes c ↦ constant_run (suc k) p c
    | no c ↦
        let two : 2 ≤ p = omega arith in
        rw (ways-inner w k p two)
        (runs_append w [] (behind p (ways k w (node_at w p).low)) (behind p (ways k w (node_at w p).high))
        (rw (← (turn_low k p two most t)) (runs_behind w p (node_at w p).low (ways_on k w (node_at w p).low) (ways-run k (node_at w p).low most (above k p false two t))))
        (rw (← (turn-high p two t.lies)) (runs_behind w p (node_at w p).high (ways_on k w (node_at w p).high) (ways-run k (node_at w p).high most (above k p true two t)))))
  ]

  -- the clauses of the ways are the path list
  abbrev told : Clause → ℕ → List Path → List Clause
  told c p L = map (λ (x : Path). cells_from w c p x) L

  told_constant : (k p : ℕ) (c : Clause) → p < 2 → told c p (ways_on k w p) ≡ ended true p c
  unfolding cells_from
  told_constant k zero c h = rw (on_constant w k 0 h)
  told_constant k (suc zero) c h = rw (on_constant w k 1 h)
  told_constant k (suc (suc p)) c h = absurd (let z : ⊥ = omega arith in z)

  told-behind : (p q : ℕ) (c : Clause) (L : List Path) → told c p (behind q L) ≡ told (set_cell c (node_at w p).mark (eqb (node_at w p).high q)) q L
  unfolding cells_from
  told-behind p q c L = map-map (λ (x : Path). cells_from w c p x) (λ (x : Path). pointer q ∷ x) L

  from_constant : (k p : ℕ) (c : Clause) → p < 2 → paths_from true k s p c ≡ ended true p c
  unfolding paths_from
  from_constant zero p c h = refl
  from_constant (suc k) p c h = rw (lt-ltb p 2 h)

  from_inner : (k p : ℕ) (c : Clause) → 2 ≤ p → p < count
      → paths_from true (suc k) s p c
      ≡ paths_from true k s (node_at w p).low (set_cell c (node_at w p).mark false) ++ paths_from true k s (node_at w p).high (set_cell c (node_at w p).mark true)
  unfolding paths_from
  from_inner k p c two h = rw (le-ltb p 2 two, at-nodes count w p h)

  ways-told : (k p : ℕ) (c : Clause) → Stands k p → told c p (ways_on k w p) ≡ paths_from true k s p c
  ways-told zero p c t = elim (dec_lt p 2) [
    | yes h ↦ told_constant zero p c h ∙ sym (from_constant zero p c h)
    | no h ↦ absurd (no_levels p (omega arith) t)
  ]
  ways-told (suc k) p c t = elim (dec_lt p 2) [
    | yes h ↦ told_constant (suc k) p c h ∙ sym (from_constant (suc k) p c h)
    | no h ↦
        let two : 2 ≤ p = omega arith in
        let lows : told c p (ways k w (node_at w p).low) ≡ paths_from true k s (node_at w p).low (set_cell c (node_at w p).mark false) =
        told-behind p (node_at w p).low c (ways_on k w (node_at w p).low)
        ∙ ap (λ v. told (set_cell c (node_at w p).mark v) (node_at w p).low (ways_on k w (node_at w p).low)) (ne_eqb (node_at w p).high (node_at w p).low (λ z. links-differ w n count r p two t.lies (sym z)))
        ∙ ways-told k (node_at w p).low (set_cell c (node_at w p).mark false) (above k p false two t) in
        let highs : told c p (ways k w (node_at w p).high) ≡ paths_from true k s (node_at w p).high (set_cell c (node_at w p).mark true) =
        told-behind p (node_at w p).high c (ways_on k w (node_at w p).high)
        ∙ ap (λ v. told (set_cell c (node_at w p).mark v) (node_at w p).high (ways_on k w (node_at w p).high)) (eq-eqb (node_at w p).high (node_at w p).high refl)
        ∙ ways-told k (node_at w p).high (set_cell c (node_at w p).mark true) (above k p true two t) in
        ap (told c p) (on-inner w k p two) ∙ map-append (λ (x : Path). cells_from w c p x) (ways k w (node_at w p).low) (ways k w (node_at w p).high) ∙ ap₂ ◌++◌ lows highs ∙ sym (from_inner k p c two t.lies)
  ]

  -- each of the ways goes from link to link to node 1
  unfoldable Chain : ℕ → Path → Type 0
  Chain p [] = p ≡ 1
  Chain p (q ∷ x) = (2 ≤ p) × ((q.0 ≡ (node_at w p).low) ⊎ (q.0 ≡ (node_at w p).high)) × Chain q.0 x

  unfoldable Chains : ℕ → List Path → Type 0
  Chains p [] = Unit {0}
  Chains p (x ∷ L) = Chain p x × Chains p L

  chains_append : (p : ℕ) (L M : List Path) → Chains p L → Chains p M → Chains p (L ++ M)
  unfolding Chains
  chains_append p [] M a b = b
  chains_append p (x ∷ L) M a b = (a.0, chains_append p L M a.1 b)

  chains_behind : (p q : ℕ) → 2 ≤ p → ((q ≡ (node_at w p).low) ⊎ (q ≡ (node_at w p).high)) → (L : List Path) → Chains q L → Chains p (behind q L)
  unfolding Chains Chain
  chains_behind p q two h [] a = tt
  chains_behind p q two h (x ∷ L) a = ((two, h, a.0), chains_behind p q two h L a.1)

  chains_constant : (k p : ℕ) → p < 2 → Chains p (ways_on k w p)
  unfolding Chains Chain
  chains_constant k zero h = rw (on_constant w k 0 h) tt
  chains_constant k (suc zero) h = rw (on_constant w k 1 h) (refl, tt)
  chains_constant k (suc (suc p)) h = absurd (let z : ⊥ = omega arith in z)

  ways_chain : (k p : ℕ) → Stands k p → Chains p (ways_on k w p)
  ways_chain zero p t = elim (dec_lt p 2) [ yes c ↦ chains_constant zero p c | no c ↦ absurd (no_levels p (omega arith) t) ]
  ways_chain (suc k) p t = elim (dec_lt p 2) [
    | yes c ↦ chains_constant (suc k) p c
    | no c ↦
        let two : 2 ≤ p = omega arith in
        rw (on-inner w k p two)
        (chains_append p (ways k w (node_at w p).low) (ways k w (node_at w p).high)
        (chains_behind p (node_at w p).low two (inl refl) (ways_on k w (node_at w p).low) (ways_chain k (node_at w p).low (above k p false two t)))
        (chains_behind p (node_at w p).high two (inr refl) (ways_on k w (node_at w p).high) (ways_chain k (node_at w p).high (above k p true two t))))
  ]

  module _ (most : n ≤ max_marks) (long : stride * count ≤ length w) where
    chain_inner : (p : ℕ) (x : Path) → Chain p x → (i : ℕ) → suc i < suc (length x) → 2 ≤ on (pointer p ∷ x) i
    unfolding Chain
    chain_inner p [] a i h = absurd (omega arith)
    chain_inner p (q ∷ x) a zero h = a.0
    chain_inner p (q ∷ x) a (suc i) h = chain_inner q.0 x a.2 i (omega arith)

    chain_linked : (p : ℕ) (x : Path) → Chain p x → (i : ℕ) → suc i < suc (length x)
        → (on (pointer p ∷ x) (suc i) ≡ (node_at w (on (pointer p ∷ x) i)).low) ⊎ (on (pointer p ∷ x) (suc i) ≡ (node_at w (on (pointer p ∷ x) i)).high)
    unfolding Chain
    chain_linked p [] a i h = absurd (let z : ⊥ = omega arith in z)
    chain_linked p (q ∷ x) a zero h = a.1
    chain_linked p (q ∷ x) a (suc i) h = chain_linked q.0 x a.2 i (omega arith)

    chain_last : (p : ℕ) (x : Path) → Chain p x → on (pointer p ∷ x) (length x) ≡ 1
    unfolding Chain
    chain_last p [] a = a
    chain_last p (q ∷ x) a = chain_last q.0 x a.2

    chain_along : (p : ℕ) (x : Path) → p < count → Chain p x → Along w (pointer p ∷ x)
    chain_along p x h a =
        let z : length (pointer p ∷ x) - 1 ≡ length x = omega arith in
        record {
          n = n;
          count = count;
          marks = most;
          long = long;
          reduced = r;
          some = omega arith;
          root = h;
          inner = chain_inner p x a;
          linked = chain_linked p x a;
          last = rw z (chain_last p x a);
        }

    -- each path of the list, or none past its end
    nth_along : (p : ℕ) → p < count → (L : List Path) → Chains p L → (k : ℕ) → (get_or (behind p L) k [] ≡ []) ⊎ Along w (get_or (behind p L) k [])
    unfolding Chains
    nth_along p h [] a k = inl refl
    nth_along p h (x ∷ L) a zero = inr (chain_along p x h a.0)
    nth_along p h (x ∷ L) a (suc k) = nth_along p h L a.1 k

    next-empty : path_next w [] ≡ []
    unfolding path_next kept turned
    next-empty = refl

    nth_next : (L : List Path) → Runs w [] L → (k : ℕ) → path_next w (get_or L k []) ≡ get_or L (suc k) []
    unfolding Runs
    nth_next [] a k = next-empty
    nth_next (x ∷ []) a zero = a.0
    nth_next (x ∷ y ∷ L) a zero = a.0
    nth_next (x ∷ L) a (suc k) = nth_next L a.1 k

    -- a walk holds them one after another
    nth_after : (L : List Path) → Runs w [] L → (k : ℕ) → path_after k w (state_of (get_or L 0 [])) ≡ state_of (get_or L k [])
    unfolding next_path
    nth_after L a zero = refl
    nth_after L a (suc k) = ap (next_path w) (nth_after L a k) ∙ ap (λ x. state_of (path_next w x)) (held-is (get_or L k [])) ∙ ap state_of (nth_next L a k)

    step-some : (z : PathState) → z.len ≢ 0 → step_of w z ≡ yields (clause_along w (held z))
    unfolding step_of
    step-some z e = rw (ne_eqb z.len 0 e)

    nth_tells : (p : ℕ) (L : List Path) (k : ℕ) → step_of w (state_of (get_or (behind p L) k [])) ≡ tells (told empty_clause p L) k
    unfolding step_of tells clause_along
    nth_tells p [] k = refl
    nth_tells p (x ∷ L) zero = step-some (state_of (pointer p ∷ x)) (omega arith) ∙ ap (λ y. yields (clause_along w y)) (held-is (pointer p ∷ x))
    nth_tells p (x ∷ L) (suc k) = nth_tells p L k

    -- the walk from a root
    module _ (root : ℕ) (lies : root < count) (last : root ≡ length s - 1) where
      root_stands : Stands n root
      root_stands = record { level = 0; levels = omega arith; lies = lies; deep = omega arith }

      first-is : first_path w root ≡ get_or (ways n w root) 0 []
      unfolding first_path
      first-is = elim (ℕ_discrete root 0) [
        | yes e ↦ rw (eq-eqb root 0 e) (sym (ap (λ L. get_or L 0 []) (ap (ways n w) e ∙ ways-none w n)))
        | no e ↦ rw (ne_eqb root 0 e) (sym (ap (λ L. get_or L 0 []) (ways-first n max_marks root (omega (arith, e)) root_stands (omega arith)).is))
      ]

      after_is : (k : ℕ) → path_after k w (state_of (first_path w root)) ≡ state_of (get_or (ways n w root) k [])
      after_is k = ap (λ x. path_after k w (state_of x)) first-is ∙ nth_after (ways n w root) (ways-run n root most root_stands) k

      pub walk-holds : (k : ℕ) → Held w (path_after k w (state_of (first_path w root)))
      walk-holds k = record { way = get_or (ways n w root) k []; is = after_is k; right = nth_along root lies (ways_on n w root) (ways_chain n root root_stands) k }

      pub walk-tells : (k : ℕ) → step_of w (path_after k w (state_of (first_path w root))) ≡ tells (path_list true n s) k
      unfolding path_list
      walk-tells k = ap (step_of w) (after_is k) ∙ nth_tells root (ways_on n w root) k ∙ ap (λ cs. tells cs k) (ways-told n root empty_clause root_stands ∙ ap (λ p. paths_from true n s p empty_clause) last)
