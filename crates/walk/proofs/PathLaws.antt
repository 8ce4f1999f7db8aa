-- Paths in their arrays, and what is known of the nodes on them.
use mathlib.Core.Path.{◌≡◌, refl, sym, ap, ap₂, subst, ◌∙◌}
use mathlib.Core.Logic.{◌≢◌, inl, inr}
use mathlib.Core.Bool.{Bool, true, false, cond, not}
use mathlib.Core.List.{List, [], ◌∷◌, ◌++◌}
use Prim.Native.Nat.{ℕ, zero, suc, ◌+◌, ◌*◌, ◌-◌, ◌≤◌, ◌<◌}
use native.Mathlib.Omega.{arith}
use native.Mathlib.Nat.{pos_of_ne-zero}
use native.Mathlib.Decide.{ℕ_discrete, dec_lt}
use lib.Dec.{eqb}
use lib.ListN.{length, set, take, drop, replicate, length-append, length-replicate, get_or-append, drop_of_length-le}
use lib.Seq.{take-append_seam, take-append-le, set-append_seam, length-take-le, get_or-take, drop-cons, append_snoc}
use borrow.Author.Tests.{eq-eqb, ne_eqb, eqb-false, lt-ltb, le-ltb, not-true}
use Rattle.theory.specs.Table.{Table, at, child_of, Reduced}
use Rattle.theory.specs.Words.{stride, node_at, nodes}
use Rattle.theory.specs.Clause.{Clause, clause, empty_clause, set_cell}
use Rattle.theory.proofs.Words.{length-nodes, at-nodes, child_falls}
use Rattle.theory.proofs.Truths.{and_true}
use Rattle.refusal.specs.Limits.{max_marks}
use Rattle.table.specs.declared.BddPointer.{BddPointer}
use Rattle.valuation.specs.declared.BddPartialValuation.{BddPartialValuation}
use Rattle.valuation.specs.Valuation.{clause_of}
use Rattle.walk.specs.declared.PathState.{PathState}
use Rattle.std.proofs.lemmas.List.{drop-replicate}
use Rattle.walk.specs.Path.{Path, pointer, on, onward, first_from, can_turn, kept, turned, path_next, cells_from, clause_along, places, in_array, state_of, held, Along, Held, Descends, Descending}
use Rattle.walk.specs.Step.{next_path}
use Rattle.reduced.proofs.ReachLaws.{constant_mark}

-- a path in its array
pub array_long : (x : Path) → length x ≤ places → length (in_array x) ≡ places
unfolding in_array
array_long x h = omega (arith, length-append x (replicate (places - length x) (pointer 0)), length-replicate (places - length x) (pointer 0))

pub array_held : (x : Path) → take (length x) (in_array x) ≡ x
unfolding in_array
array_held x = take-append_seam x _

pub array_on : (x : Path) (i : ℕ) → i < length x → on (in_array x) i ≡ on x i
unfolding in_array
array_on x i h = ap (λ (p : BddPointer). p.0) (get_or-append x _ (pointer 0) i h)

pub array_push : (x : Path) (p : BddPointer) → length x < places → set (in_array x) (length x) p ≡ in_array (x ++ (p ∷ []))
unfolding in_array
array_push x p h =
    let e : places - length x ≡ suc (places - length (x ++ (p ∷ []))) = omega (arith, length-append x (p ∷ [])) in
    rw e (set-append_seam x (pointer 0) _ p ∙ sym (append_snoc x p _))

pub held-is : (x : Path) → held (state_of x) ≡ x
held-is x = array_held x

-- the nodes of a reduced table, in its words
module _ (w : List ℕ) (n count : ℕ) (r : Reduced n (nodes count w)) where
  abbrev s : Table
  s = nodes count w

  here : (p : ℕ) → p < count → at s p ≡ node_at w p
  here p h = at-nodes count w p h

  inside : (p : ℕ) → p < count → p < length s
  inside p h = omega (arith, length-nodes count w)

  pub mark_rises : (p : ℕ) (b : Bool) → 2 ≤ p → p < count → (node_at w p).mark < (node_at w (child_of b (node_at w p))).mark
  mark_rises p b two h =
      let f : (node_at w p).mark < (at s (child_of b (node_at w p))).mark = rw (here p h) at (r.ordered.falls p b two (inside p h)) in
      rw (here (child_of b (node_at w p)) (omega (arith, child_falls n count w r.ordered p b two h))) at f

  pub mark-inner : (p : ℕ) → 2 ≤ p → p < count → (node_at w p).mark < n
  mark-inner p two h = rw (here p h) at (r.ordered.marks p two (inside p h))

  pub mark_constant : (p : ℕ) → p < 2 → p < count → (node_at w p).mark ≡ n
  mark_constant p c h = rw (here p h) at (constant_mark n s r.ordered p c (inside p h))

  pub mark_most : (p : ℕ) → p < count → (node_at w p).mark ≤ n
  mark_most p h = elim (dec_lt p 2) [ yes c ↦ omega (arith, mark_constant p c h) | no c ↦ omega (arith, mark-inner p (omega arith) h) ]

  pub links-differ : (p : ℕ) → 2 ≤ p → p < count → (node_at w p).low ≢ (node_at w p).high
  links-differ p two h = rw (here p h) at (r.apart p two (inside p h))

  -- the first path goes on by a link, and not to node 0
  pub record Goes (p : ℕ) : Type 0 where
    pub way : Bool
    pub by : onward (node_at w p) ≡ child_of way (node_at w p)
    pub some : 1 ≤ onward (node_at w p)

  pub goes_on : (p : ℕ) → 2 ≤ p → p < count → Goes p
  goes_on p two h = elim (ℕ_discrete (node_at w p).low 0) [
    | yes e ↦
        let is : onward (node_at w p) ≡ (node_at w p).high = rw (eq-eqb (node_at w p).low 0 e) in
        record { way = true; by = is; some = omega (arith, is, pos_of_ne-zero (λ z. links-differ p two h (e ∙ sym z))) }
    | no e ↦
        let is : onward (node_at w p) ≡ (node_at w p).low = rw (ne_eqb (node_at w p).low 0 e) in
        record { way = false; by = is; some = omega (arith, is, pos_of_ne-zero e) }
  ]

-- the first path, node by node
pub first-end : (k : ℕ) (w : List ℕ) (p : ℕ) → p < 2 → first_from k w p ≡ pointer p ∷ []
unfolding first_from
first-end zero w p h = refl
first-end (suc k) w p h = rw (lt-ltb p 2 h)

pub first_inner : (k : ℕ) (w : List ℕ) (p : ℕ) → 2 ≤ p → first_from (suc k) w p ≡ pointer p ∷ first_from k w (onward (node_at w p))
unfolding first_from
first_inner k w p h = rw (le-ltb p 2 h)

-- the first path goes on from node q, behind the nodes of way
pub record Descent (w : List ℕ) (whole : Path) (len : ℕ) (path : Path) (q : ℕ) : Type 0 where
  pub way : Path
  pub is_len : len ≡ length way
  pub is_path : path ≡ in_array way
  pub goes : Descends w way q
  pub fuel : ℕ
  pub enough : goes.n ≤ (node_at w q).mark + fuel
  pub rest : way ++ first_from fuel w q ≡ whole

module _ (w : List ℕ) where
  pub descent_start : (s : PathState) (p : ℕ) → Descending w s p → Descent w (held s ++ first_from max_marks w p) s.len s.path p
  descent_start s p d = record {
    way = d.way;
    is_len = ap (λ (z : PathState). z.len) d.is;
    is_path = ap (λ (z : PathState). z.path) d.is;
    goes = d.goes;
    fuel = max_marks;
    enough = omega (arith, d.goes.marks);
    rest = ap (λ y. y ++ first_from max_marks w p) (sym (ap held d.is ∙ held-is d.way));
  }

  module _ (whole : Path) (len : ℕ) (path : Path) (q : BddPointer) (d : Descent w whole len path q.0) where
    -- there is a place for the node
    pub descent_fits : len < places
    descent_fits = omega (arith, d.is_len, d.goes.deep, d.goes.marks, mark_most w d.goes.n d.goes.count d.goes.reduced q.0 d.goes.lies)

    pub descent_reads : stride * q.0 + 2 < length w
    descent_reads = omega (arith, d.goes.lies, d.goes.long)

    pushed : set path len q ≡ in_array (d.way ++ (q ∷ []))
    pushed = rw (d.is_path, d.is_len) (array_push d.way q (omega (arith, d.is_len, descent_fits)))

    pushed_long : length (d.way ++ (q ∷ [])) ≡ len + 1
    pushed_long = omega (arith, d.is_len, length-append d.way (q ∷ []))

    pub descent_step : 1 < q.0 → (q' : ℕ) → q' ≡ onward (node_at w q.0) → Descent w whole (len + 1) (set path len q) q'
    descent_step two q' e = go d.fuel d.enough d.rest
      where
        g : Descends w d.way q.0
        g = d.goes

        on_by : Goes w g.n g.count g.reduced q.0
        on_by = goes_on w g.n g.count g.reduced q.0 two g.lies

        falls : onward (node_at w q.0) < q.0
        falls = rw on_by.by (child_falls g.n g.count w g.reduced.ordered q.0 on_by.way two g.lies)

        rises : (node_at w q.0).mark < (node_at w (onward (node_at w q.0))).mark
        rises = rw on_by.by (mark_rises w g.n g.count g.reduced q.0 on_by.way two g.lies)

        inner : (node_at w q.0).mark < g.n
        inner = mark-inner w g.n g.count g.reduced q.0 two g.lies

        further : Descends w (d.way ++ (q ∷ [])) (onward (node_at w q.0))
        further = record {
          n = g.n;
          count = g.count;
          marks = g.marks;
          long = g.long;
          reduced = g.reduced;
          lies = omega (arith, falls, g.lies);
          ends = on_by.some;
          deep = omega (arith, rises, g.deep, length-append d.way (q ∷ []));
        }

        go : (k : ℕ) → g.n ≤ (node_at w q.0).mark + k → d.way ++ first_from k w q.0 ≡ whole → Descent w whole (len + 1) (set path len q) q'
        go zero h r = absurd (omega (arith, inner))
        go (suc k) h r = rw e (record {
          way = d.way ++ (q ∷ []);
          is_len = sym pushed_long;
          is_path = pushed;
          goes = further;
          fuel = k;
          enough = omega (arith, rises);
          rest = append_snoc d.way q _ ∙ ap (λ y. d.way ++ y) (sym (first_inner k w q.0 two)) ∙ r;
        })

    pub descent_falls : 1 < q.0 → (q' : ℕ) → q' ≡ onward (node_at w q.0) → q' < q.0
    descent_falls two q' e =
        let g : Goes w d.goes.n d.goes.count d.goes.reduced q.0 = goes_on w d.goes.n d.goes.count d.goes.reduced q.0 two d.goes.lies in
        rw (e, g.by) (child_falls d.goes.n d.goes.count w d.goes.reduced.ordered q.0 g.way two d.goes.lies)

    pub descent_end : q.0 ≤ 1 → ◌≡◌ {A = PathState} (record { len = len + 1; path = set path len q }) (state_of whole)
    descent_end h =
        let last : d.way ++ (q ∷ []) ≡ whole = ap (λ y. d.way ++ y) (sym (first-end d.fuel w q.0 (omega arith))) ∙ d.rest in
        (λ i. record { len = sym pushed_long i; path = pushed i }) ∙ ap state_of last

-- the tests at one node
pub turn-other : (w : List ℕ) (p q l : ℕ) → l ≡ (node_at w p).low → l ≢ q → false ≡ can_turn w p q
unfolding can_turn
turn-other w p q l a e = rw (ne_eqb (node_at w p).low q (λ z. e (a ∙ z)))

pub turn_low : (w : List ℕ) (p q l h : ℕ) → l ≡ (node_at w p).low → l ≡ q → h ≡ (node_at w p).high → not (eqb h 0) ≡ can_turn w p q
unfolding can_turn
turn_low w p q l h a e b = rw (eq-eqb (node_at w p).low q (sym a ∙ e), b)

-- the nodes on a path to node 1
module _ (w : List ℕ) (x : Path) (a : Along w x) where
  record Place (i : ℕ) : Type 0 where
    lies : on x i < a.count
    deep : i ≤ (node_at w (on x i)).mark

  next_place : (i p q : ℕ) (b : Bool) → 2 ≤ p → p < a.count → q ≡ child_of b (node_at w p) → i ≤ (node_at w p).mark → (q < a.count) × (suc i ≤ (node_at w q).mark)
  next_place i p q b two h e d =
      let f : child_of b (node_at w p) < p = child_falls a.n a.count w a.reduced.ordered p b two h in
      let m : (node_at w p).mark < (node_at w (child_of b (node_at w p))).mark = mark_rises w a.n a.count a.reduced p b two h in
      rw e (omega arith, omega arith)

  place : (i : ℕ) → i < length x → Place i
  place zero h = record { lies = a.root; deep = omega arith }
  place (suc i) h =
      let p : Place i = place i (omega arith) in
      let r : (on x (suc i) < a.count) × (suc i ≤ (node_at w (on x (suc i))).mark) = elim (a.linked i h) [
        | inl e ↦ next_place i (on x i) (on x (suc i)) false (a.inner i h) p.lies e p.deep
        | inr e ↦ next_place i (on x i) (on x (suc i)) true (a.inner i h) p.lies e p.deep
      ] in
      record { lies = r.0; deep = r.1 }

  pub along-lies : (i : ℕ) → i < length x → on x i < a.count
  along-lies i h = (place i h).lies

  pub along-short : length x ≤ places
  along-short =
      let p : Place (length x - 1) = place (length x - 1) (omega (arith, a.some)) in
      omega (arith, p.deep, mark_most w a.n a.count a.reduced (on x (length x - 1)) p.lies, a.marks)

  -- a node kept, at which the path can turn
  pub turn-descends : (i : ℕ) → suc i < length x → can_turn w (on x i) (on x (suc i)) ≡ true → Descends w (take (suc i) x) (node_at w (on x i)).high
  unfolding can_turn
  turn-descends i h t =
      let p : Place i = place i (omega arith) in
      let two : 2 ≤ on x i = a.inner i h in
      let z : not (eqb (node_at w (on x i)).high 0) ≡ true = (and_true (eqb (node_at w (on x i)).low (on x (suc i))) (not (eqb (node_at w (on x i)).high 0)) t).1 in
      let ne : (node_at w (on x i)).high ≢ 0 = eqb-false _ _ (not-true _ z) in
      record {
        n = a.n;
        count = a.count;
        marks = a.marks;
        long = a.long;
        reduced = a.reduced;
        lies = omega (arith, child_falls a.n a.count w a.reduced.ordered (on x i) true two p.lies, p.lies);
        ends = omega (arith, ne);
        deep = omega (arith, mark_rises w a.n a.count a.reduced (on x i) true two p.lies, p.deep, length-take-le (suc i) x (omega arith));
      }

-- the nodes kept
pub kept-bound : (w : List ℕ) (x : Path) (m : ℕ) → kept w x m ≤ m
unfolding kept
kept-bound w x zero = omega arith
kept-bound w x (suc m) = elim (can_turn w (on x m) (on x (suc m))) as (λ v. cond v (suc m) (kept w x m) ≤ suc m) [ true ↦ omega arith | false ↦ omega (arith, kept-bound w x m) ]

pub kept_turns : (w : List ℕ) (x : Path) (m i : ℕ) → kept w x m ≡ suc i → (suc i ≤ m) × (can_turn w (on x i) (on x (suc i)) ≡ true)
unfolding kept
kept_turns w x zero i e = absurd (let z : ⊥ = omega arith in z)
kept_turns w x (suc m) i e =
    (elim (can_turn w (on x m) (on x (suc m))) as (λ v. can_turn w (on x m) (on x (suc m)) ≡ v → cond v (suc m) (kept w x m) ≡ suc i → (suc i ≤ suc m) × (can_turn w (on x i) (on x (suc i)) ≡ true)) [
      | true ↦ λ t d. let z : m ≡ i = omega arith in (omega arith, rw z at t)
      | false ↦ λ t d. let r : (suc i ≤ m) × (can_turn w (on x i) (on x (suc i)) ≡ true) = kept_turns w x m i d in (omega arith, r.1)
    ]) refl e

kept_here : (w : List ℕ) (x : Path) (m : ℕ) → can_turn w (on x m) (on x (suc m)) ≡ true → kept w x (suc m) ≡ suc m
unfolding kept
kept_here w x m t = rw t

kept_skip : (w : List ℕ) (x : Path) (m : ℕ) → can_turn w (on x m) (on x (suc m)) ≡ false → kept w x (suc m) ≡ kept w x m
unfolding kept
kept_skip w x m t = rw t

-- the same, counted down
pub kept-turn : (w : List ℕ) (x : Path) (i k : ℕ) → 0 < i → can_turn w (on x (i - 1)) (on x i) ≡ true → kept w x i ≡ k → i ≡ k
kept-turn w x zero k h t e = absurd (omega arith)
kept-turn w x (suc m) k h t e = let z : suc m - 1 ≡ m = omega arith in sym (kept_here w x m (rw z at t)) ∙ e

pub kept-none : (w : List ℕ) (x : Path) (i k : ℕ) → i ≤ 0 → kept w x i ≡ k → 0 ≡ k
unfolding kept
kept-none w x zero k h e = e
kept-none w x (suc m) k h e = absurd (let z : ⊥ = omega arith in z)

pub kept_pass : (w : List ℕ) (x : Path) (i k : ℕ) → 0 < i → can_turn w (on x (i - 1)) (on x i) ≡ false → kept w x i ≡ k → kept w x (i - 1) ≡ k
kept_pass w x zero k h t e = absurd (omega arith)
kept_pass w x (suc m) k h t e = let z : suc m - 1 ≡ m = omega arith in rw z (sym (kept_skip w x m (rw z at t)) ∙ e)

pub kept-agree : (w : List ℕ) (x y : Path) (m : ℕ) → ((i : ℕ) → i ≤ m → on x i ≡ on y i) → kept w x m ≡ kept w y m
unfolding kept
kept-agree w x y zero h = refl
kept-agree w x y (suc m) h = rw (h m (omega arith), h (suc m) (omega arith), kept-agree w x y m (λ i d. h i (omega arith)))

-- a state that holds a path
module _ (w : List ℕ) (s : PathState) (h : Held w s) where
  pub state_len : s.len ≡ length h.way
  state_len = ap (λ (z : PathState). z.len) h.is

  pub state_path : s.path ≡ in_array h.way
  state_path = ap (λ (z : PathState). z.path) h.is

  pub state_held : held s ≡ h.way
  state_held = ap held h.is ∙ held-is h.way

  pub state_along : s.len ≢ 0 → Along w h.way
  state_along d = elim h.right [
    | inl e ↦ absurd (d (state_len ∙ ap length e))
    | inr a ↦ a
  ]

  pub state_short : s.len ≤ places
  state_short = elim h.right [
    | inl e ↦ omega (arith, state_len, ap length e)
    | inr a ↦ omega (arith, state_len, along-short w h.way a)
  ]

  pub state_long : length s.path ≡ places
  state_long = ap length state_path ∙ array_long h.way (omega (arith, state_len, state_short))

  pub state_on : (i : ℕ) → i < s.len → on s.path i ≡ on h.way i
  state_on i d = ap (λ y. on y i) state_path ∙ array_on h.way i (omega (arith, state_len))

  pub state_reads : (i : ℕ) → i < s.len → stride * on s.path i + 2 < length w
  state_reads i d =
      let a : Along w h.way = state_along (omega arith) in
      omega (arith, state_on i d, along-lies w h.way a i (omega (arith, state_len)), a.long)

  pub state_mark : (i : ℕ) → suc i < s.len → (node_at w (on s.path i)).mark < max_marks
  state_mark i d =
      let a : Along w h.way = state_along (omega arith) in
      let inner : 2 ≤ on h.way i = a.inner i (omega (arith, state_len)) in
      omega (arith, ap (λ p. (node_at w p).mark) (state_on i (omega arith)), mark-inner w a.n a.count a.reduced (on h.way i) inner (along-lies w h.way a i (omega (arith, state_len))), a.marks)

  -- the nodes that the next path keeps
  pub kept_state : 1 ≤ s.len → kept w s.path (s.len - 1) ≡ kept w h.way (length h.way - 1)
  kept_state d = kept-agree w s.path h.way (s.len - 1) (λ i e. state_on i (omega arith)) ∙ ap (λ k. kept w h.way (k - 1)) state_len

  -- the first nodes, cut off
  pub cut-way : (k : ℕ) → k ≤ s.len → take k s.path ≡ take k h.way
  unfolding in_array
  cut-way k d = ap (take k) state_path ∙ take-append-le k h.way _ (omega (arith, state_len))

-- the first nodes of a path, copied into an array of none
pub cut_is : (old : Path) (keep : ℕ) → keep ≤ places → length old ≡ places → take keep old ++ drop keep (replicate places (pointer 0)) ≡ in_array (take keep old)
unfolding in_array
cut_is old keep h l =
    let long : length (take keep old) ≡ keep = length-take-le keep old (omega arith) in
    ap (λ y. take keep old ++ y) (drop-replicate keep places (pointer 0) ∙ ap (λ k. replicate (places - k) (pointer 0)) (sym long))

pub cut_state : (old path : Path) (keep : ℕ) → keep ≤ places → length old ≡ places → path ≡ take keep old ++ drop keep (replicate places (pointer 0))
    → ◌≡◌ {A = PathState} (record { len = keep; path = path }) (state_of (take keep old))
cut_state old path keep h l e =
    let same : path ≡ in_array (take keep old) = e ∙ cut_is old keep h l in
    λ j. record { len = sym (length-take-le keep old (omega arith)) j; path = same j }

-- a clause, cell by cell
module _ (w : List ℕ) where
  pub cells_start : (x : Path) → cells_from w empty_clause (on x 0) (drop 1 x) ≡ clause_along w x
  unfolding cells_from clause_along
  cells_start [] = refl
  cells_start (p ∷ x) = refl

  pub cells-step : (x : Path) (c : Clause) (i : ℕ) → i < length x
      → cells_from w c (on x (i - 1)) (drop i x) ≡ cells_from w (set_cell c (node_at w (on x (i - 1))).mark (eqb (node_at w (on x (i - 1))).high (on x i))) (on x (i + 1 - 1)) (drop (i + 1) x)
  unfolding cells_from
  cells-step x c i h =
      let one : i + 1 ≡ suc i = omega arith in
      let back : suc i - 1 ≡ i = omega arith in
      rw (drop-cons x i (pointer 0) h, one, back)

  pub cells-end : (x : Path) (c : Clause) (p i : ℕ) → length x ≤ i → cells_from w c p (drop i x) ≡ c
  unfolding cells_from
  cells-end x c p i h = rw (drop_of_length-le x h)

  -- the cells set before node i
  abbrev pub Celled : Path → Clause → ℕ → Type 0
  Celled x c i = (1 ≤ i) × (cells_from w c (on x (i - 1)) (drop i x) ≡ clause_along w x)

-- the path after the one that a state holds
module _ (w : List ℕ) (s : PathState) (h : Held w s) where
  next-is : next_path w s ≡ state_of (path_next w h.way)
  unfolding next_path
  next-is = ap (λ x. state_of (path_next w x)) (state_held w s h)

  empty-way : (x : Path) → length x ≡ 0 → x ≡ []
  empty-way [] e = refl
  empty-way (p ∷ x) e = absurd (let z : ⊥ = omega arith in z)

  pub next-none : s.len ≡ 0 → s ≡ next_path w s
  unfolding path_next kept turned
  next-none e =
      let none : h.way ≡ [] = empty-way h.way (sym (state_len w s h) ∙ e) in
      h.is ∙ ap state_of none ∙ sym (next-is ∙ ap (λ x. state_of (path_next w x)) none)

  module _ (some : s.len ≢ 0) (keep : ℕ) (is-kept : keep ≡ kept w s.path (s.len - 1)) (start : PathState) (is-start : start ≡ state_of (take keep s.path)) where
    keeps : kept w h.way (length h.way - 1) ≡ keep
    keeps = sym (kept_state w s h (omega arith)) ∙ sym is-kept

    fits : keep < s.len
    fits = omega (arith, is-kept, kept-bound w s.path (s.len - 1))

    start_way : start ≡ state_of (take keep h.way)
    start_way = is-start ∙ ap state_of (cut-way w s h keep (omega (arith, fits)))

    next-turned : next_path w s ≡ state_of (turned w h.way keep)
    unfolding path_next
    next-turned = next-is ∙ ap (λ k. state_of (turned w h.way k)) keeps

    pub next-ends : keep ≡ 0 → start ≡ next_path w s
    unfolding turned
    next-ends e = start_way ∙ ap (λ k. state_of (take k h.way)) e ∙ sym (next-turned ∙ ap (λ k. state_of (turned w h.way k)) e)

    module _ (more : keep ≢ 0) (high : ℕ) (is-high : high ≡ (node_at w (on s.path (keep - 1))).high) where
      last : suc (keep - 1) ≡ keep
      last = omega arith

      high-way : high ≡ (node_at w (on h.way (keep - 1))).high
      high-way = is-high ∙ ap (λ p. (node_at w p).high) (state_on w s h (keep - 1) (omega (arith, fits)))

      turns : (suc (keep - 1) ≤ length h.way - 1) × (can_turn w (on h.way (keep - 1)) (on h.way (suc (keep - 1))) ≡ true)
      turns = kept_turns w h.way (length h.way - 1) (keep - 1) (keeps ∙ sym last)

      pub next-descends : Descending w start high
      next-descends = record {
        way = take keep h.way;
        is = start_way;
        goes = rw high-way (subst (λ k. Descends w (take k h.way) (node_at w (on h.way (keep - 1))).high) last (turn-descends w h.way (state_along w s h some) (keep - 1) (omega (arith, turns.0)) turns.1));
      }

      pub next-goes : (r : PathState) → r ≡ state_of (held start ++ first_from max_marks w high) → r ≡ next_path w s
      unfolding turned
      next-goes r e =
          e ∙ ap (λ y. state_of (y ++ first_from max_marks w high)) (ap held start_way ∙ held-is (take keep h.way))
          ∙ ap₂ (λ k p. state_of (take k h.way ++ first_from max_marks w p)) (sym last) high-way
          ∙ sym (next-turned ∙ ap (λ k. state_of (turned w h.way k)) (sym last))

-- one cell more
module _ (w : List ℕ) (s : PathState) (h : Held w s) where
  held-long : length (held s) ≡ s.len
  held-long = length-take-le s.len s.path (omega (arith, state_short w s h, state_long w s h))

  held_on : (i : ℕ) → i < s.len → on (held s) i ≡ on s.path i
  held_on i d = ap (λ (p : BddPointer). p.0) (get_or-take s.len s.path i (pointer 0) d)

  pub celled_more : (v v' : BddPartialValuation) (i m high : ℕ) → i < s.len → Celled w (held s) (clause_of v) i
      → m ≡ (node_at w (on s.path (i - 1))).mark → high ≡ (node_at w (on s.path (i - 1))).high → clause_of v' ≡ set_cell (clause_of v) m (eqb high (on s.path i))
      → Celled w (held s) (clause_of v') (i + 1)
  celled_more v v' i m high d c is_m is-high e =
      let before : on s.path (i - 1) ≡ on (held s) (i - 1) = sym (held_on (i - 1) (omega (arith, c.0))) in
      let set-cell : clause_of v' ≡ set_cell (clause_of v) (node_at w (on (held s) (i - 1))).mark (eqb (node_at w (on (held s) (i - 1))).high (on (held s) i)) =
      e ∙ rw (is_m, is-high, before, held_on i d) in
      (omega arith, ap (λ z. cells_from w z (on (held s) (i + 1 - 1)) (drop (i + 1) (held s))) set-cell ∙ sym (cells-step w (held s) (clause_of v) i (omega (arith, held-long))) ∙ c.1)

  pub celled_all : (v : BddPartialValuation) (i : ℕ) → s.len ≤ i → Celled w (held s) (clause_of v) i → clause_of v ≡ clause_along w (held s)
  celled_all v i d c = sym (cells-end w (held s) (clause_of v) (on (held s) (i - 1)) i (omega (arith, held-long))) ∙ c.1

pub celled_none : (w : List ℕ) (s : PathState) → Celled w (held s) (clause 0 0) 1
unfolding empty_clause
celled_none w s = (omega arith, cells_start w (held s))
