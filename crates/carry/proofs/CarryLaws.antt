-- Node by node through the table is level by level through its function.
use mathlib.Core.Path.{◌≡◌, refl, sym, ap, subst, ◌∙◌}
use mathlib.Core.Logic.{inl, inr}
use mathlib.Core.Bool.{Bool, true, false}
use mathlib.Core.List.{List}
use Prim.Native.Nat.{ℕ, zero, suc, ◌+◌, ◌*◌, ◌-◌, ◌≤◌, ◌<◌}
use native.Mathlib.Omega.{arith}
use native.Mathlib.Decide.{ℕ_discrete}
use lib.ListN.{length, get_or, set, length-set}
use lib.Seq.{get_or-set_same, get_or-set_other}
use Rattle.theory.specs.Tree.{Tree, fork, Deep}
use Rattle.theory.specs.Table.{Node, Table, at, child_of, step, tree_of, truth, num, mk, walk, Good}
use Rattle.theory.specs.Words.{stride, node_at, nodes}
use Rattle.theory.proofs.Again.{turn, walk_again}
use Rattle.theory.proofs.Step.{Stands, step_here, stands_child, mark-le}
use Rattle.theory.proofs.Walk.{Walked}
use Rattle.theory.proofs.Words.{length-nodes, at-nodes}
use Rattle.theory.proofs.Turned.{turned, turned-deep, turned_bottom, turned-fork, turned-jump, walk_stays}
use Rattle.theory.proofs.Forks.{low-over, high-over, low_walked, high_walked, fork-is, low_stands, node_walked}
use Rattle.refusal.specs.Limits.{max_marks}
use Rattle.pool.specs.Pool.{Noding, Holds}
use Rattle.carry.specs.declared.Way.{Way}
use Rattle.carry.specs.declared.Cut.{Cut}
use Rattle.carry.specs.Carry.{flip, carried, Known, Reading, Ends, Parts, Ready}

-- a node that is read
module _ (bdd memo : List ℕ) (w : Way) (k a : ℕ) (r : Reading bdd memo w k a) where
  in_table : a < length (nodes k bdd)
  in_table = omega (arith, length-nodes k bdd, r.lies)

  is-node : at (nodes k bdd) a ≡ node_at bdd a
  is-node = at-nodes k bdd a r.lies

  pub own_mark : (node_at bdd a).mark ≤ max_marks
  own_mark = omega (arith, ap (λ (x : Node). x.mark) is-node, r.marks, mark-le w.n (nodes k bdd) r.ordered a in_table)

  pub words_in : stride * a + 2 < length bdd
  words_in = omega (arith, r.lies, r.long)

  end_mark : a < 2 → (at (nodes k bdd) a).mark ≡ w.n
  end_mark h = go a h in_table
    where
      go : (x : ℕ) → x < 2 → x < length (nodes k bdd) → (at (nodes k bdd) x).mark ≡ w.n
      go zero h i = ap (λ (y : Node). y.mark) r.ordered.first
      go (suc zero) h i = ap (λ (y : Node). y.mark) (r.ordered.second i)
      go (suc (suc x)) h i = absurd (let z : ⊥ = omega arith in z)

-- the state after a call is over the same input
same_input : (bdd bdd₁ out memo : List ℕ) (w w₁ : Way) (k k₁ m : ℕ) → (bdd₁ ≡ bdd) × (k₁ ≡ k) × (w₁ ≡ w) → Ready bdd₁ out memo w₁ k₁ m → Ready bdd out memo w k m
same_input bdd bdd₁ out memo w w₁ k k₁ m e r = subst (λ u. Ready bdd out memo u k m) e.2 (subst (λ j. Ready bdd out memo w₁ j m) e.1 (subst (λ b. Ready b out memo w₁ k₁ m) e.0 r))

module _ (bdd out memo : List ℕ) (w : Way) (k m : ℕ) (r : Ready bdd out memo w k m) (a : ℕ) (lies : a < k) where
  pub reading : Reading bdd memo w k a
  reading = record { marks = r.begun.marks; few = r.begun.few; long = r.begun.long; wide = r.begun.wide; ordered = r.begun.ordered; lies = lies }

  abbrev s : Table
  s = nodes k bdd

  abbrev o : Table
  o = nodes m out

  abbrev n : ℕ
  n = w.n

  -- the node's function on the way
  abbrev along : ℕ → ℕ → ℕ → Tree
  along j l p = turned w.variable.0 w.value (flip w.exchange) j s l p

  along-deep : (j l p : ℕ) → Deep j (along j l p)
  along-deep j l p = turned-deep w.variable.0 w.value (flip w.exchange) j s l p

  a_in : a < length s
  a_in = in_table bdd memo w k a reading

  ends : a < 2 → carried w s o a ≡ (o, num (flip w.exchange (truth a)))
  unfolding walk
  ends h =
      let e : (at s a).mark ≡ n = end_mark bdd memo w k a reading h in
      let z : n - n ≡ 0 = omega arith in
      rw (e, z, turned_bottom w.variable.0 w.value (flip w.exchange) s n a)

  -- a constant, or in the memo
  pub carry-done : (e : ℕ) → Ends memo w a e → carried w s o a ≡ (o, e)
  carry-done e (inl c) = ends c.0 ∙ ap (λ (x : ℕ). (o, x)) (sym c.1)
  carry-done e (inr c) = r.known a lies c.0 ∙ ap (λ (x : ℕ). (o, x)) (sym c.1)

  -- an inner node
  module _ (c : Cut) (parts : Parts bdd w a c) where
    abbrev v : ℕ
    v = c.variable.0

    abbrev x : ℕ
    x = c.low.0

    abbrev y : ℕ
    y = c.high.0

    node-is : at s a ≡ node_at bdd a
    node-is = is-node bdd memo w k a reading

    mark-is : (at s a).mark ≡ v
    mark-is = ap (λ (z : Node). z.mark) node-is ∙ sym parts.mark

    v_lt : v < n
    v_lt = rw mark-is at (reading.ordered.marks a parts.two a_in)

    -- a child on the way
    abbrev to : Bool → ℕ
    to b = child_of (turn w.variable.0 w.value v b) (node_at bdd a)

    to-stands : (b : Bool) → Stands s (suc v) (to b)
    to-stands b = rw (mark-is, node-is) at (stands_child n s reading.ordered (turn w.variable.0 w.value v b) a parts.two a_in)

    to-lt : (b : Bool) → to b < a
    to-lt b = rw node-is at (reading.ordered.links a (turn w.variable.0 w.value v b) parts.two a_in)

    x-stands : Stands s (suc v) x
    x-stands = rw parts.low (to-stands false)

    y_stands : Stands s (suc v) y
    y_stands = rw parts.high (to-stands true)

    pub x_lt : x < a
    x_lt = rw parts.low (to-lt false)

    pub y_lt : y < a
    y_lt = rw parts.high (to-lt true)

    abbrev lo_tree : Tree
    lo_tree = along (n - suc v) (suc v) x

    abbrev hi_tree : Tree
    hi_tree = along (n - suc v) (suc v) y

    goes : (b : Bool) → step s v (turn w.variable.0 w.value v b) a ≡ to b
    goes b = step_here s v (turn w.variable.0 w.value v b) a mark-is ∙ ap (child_of (turn w.variable.0 w.value v b)) node-is

    splits : carried w s o a ≡ walk o v (fork lo_tree hi_tree)
    splits =
        let e : n - v ≡ suc (n - suc v) = omega (arith, v_lt) in
        rw (mark-is, e, turned-fork w.variable.0 w.value (flip w.exchange) (n - suc v) s v a, goes false, goes true, ← parts.low, ← parts.high)

    jumps : (u : Table) → Good n u → (p : ℕ) → Stands s (suc v) p → walk u (suc v) (along (n - suc v) (suc v) p) ≡ carried w s u p
    jumps u g p h =
        turned-jump w.variable.0 w.value (flip w.exchange) n s u g (suc v) p h.fits (mark-le n s reading.ordered p h.lies)

    lo_deep : Deep (n - suc v) lo_tree
    lo_deep = along-deep (n - suc v) (suc v) x

    hi_deep : Deep (n - suc v) hi_tree
    hi_deep = along-deep (n - suc v) (suc v) y

    -- a walk over its room stays over it
    pub full_lo : w.room < length (carried w s o x).0 → w.room < length (carried w s o a).0
    full_lo h = rw splits (low-over n o r.begun.good v v_lt lo_tree hi_tree lo_deep hi_deep _ _ refl w.room (rw (jumps o r.begun.good x x-stands) h))

    module _ (bdd₁ out₁ memo₁ : List ℕ) (w₁ : Way) (k₁ m₁ p : ℕ) (input₁ : (bdd₁ ≡ bdd) × (k₁ ≡ k) × (w₁ ≡ w)) (u : Ready bdd₁ out₁ memo₁ w₁ k₁ m₁) (low : carried w s o x ≡ (nodes m₁ out₁, p)) where
      abbrev o₁ : Table
      o₁ = nodes m₁ out₁

      is₁ : walk o (suc v) lo_tree ≡ (o₁, p)
      is₁ = jumps o r.begun.good x x-stands ∙ low

      sound₁ : Walked n o (n - suc v) (suc v) lo_tree (o₁, p)
      sound₁ = low_walked n o r.begun.good v v_lt lo_tree hi_tree lo_deep hi_deep o₁ p is₁

      pub high_in : y < k₁
      high_in = omega (arith, y_lt, input₁.1)

      -- the same of the input as it is now
      now₁ : (z : Table × ℕ) → carried w₁ (nodes k₁ bdd₁) o₁ y ≡ z → carried w s o₁ y ≡ z
      now₁ z e = rw (input₁.0, input₁.1, input₁.2) at e

      pub full_hi : w₁.room < length (carried w₁ (nodes k₁ bdd₁) o₁ y).0 → w.room < length (carried w s o a).0
      full_hi h =
          let over : w.room < length (carried w s o₁ y).0 = rw (input₁.0, input₁.1, input₁.2) at h in
          rw splits (high-over n o r.begun.good v v_lt lo_tree hi_tree lo_deep hi_deep o₁ p is₁ w.room (rw (jumps o₁ sound₁.good y y_stands) over))

      module _ (bdd₂ out₂ memo₂ : List ℕ) (w₂ : Way) (k₂ m₂ q : ℕ) (input₂ : (bdd₂ ≡ bdd₁) × (k₂ ≡ k₁) × (w₂ ≡ w₁)) (f : Ready bdd₂ out₂ memo₂ w₂ k₂ m₂) (high : carried w₁ (nodes k₁ bdd₁) o₁ y ≡ (nodes m₂ out₂, q)) where
        input : (bdd₂ ≡ bdd) × (k₂ ≡ k) × (w₂ ≡ w)
        input = (input₂.0 ∙ input₁.0, input₂.1 ∙ input₁.1, input₂.2 ∙ input₁.2)

        ready₂ : Ready bdd out₂ memo₂ w k m₂
        ready₂ = same_input bdd bdd₂ out₂ memo₂ w w₂ k k₂ m₂ input f

        abbrev o₂ : Table
        o₂ = nodes m₂ out₂

        is₂ : walk o₁ (suc v) hi_tree ≡ (o₂, q)
        is₂ = jumps o₁ sound₁.good y y_stands ∙ now₁ (nodes m₂ out₂, q) high

        sound₂ : Walked n o₁ (n - suc v) (suc v) hi_tree (o₂, q)
        sound₂ = high_walked n o r.begun.good v v_lt lo_tree hi_tree lo_deep hi_deep o₁ p is₁ o₂ q is₂

        split₂ : carried w s o a ≡ mk o₂ v p q
        split₂ = splits ∙ fork-is n o r.begun.good v v_lt lo_tree hi_tree lo_deep hi_deep o₁ p is₁ o₂ q is₂

        pub noding : Noding out₂ n w.room m₂ v p q
        noding = record {
          pushing = ready₂.begun.pushing;
          good = sound₂.good;
          level = v_lt;
          low = low_stands n o r.begun.good v v_lt lo_tree hi_tree lo_deep hi_deep o₁ p is₁ o₂ q is₂;
          high = sound₂.stands;
        }

        pub slot_in : a < length memo₂
        slot_in = omega (arith, lies, ready₂.begun.wide)

        pub full_node : w.room < length (mk o₂ v p q).0 → w.room < length (carried w s o a).0
        full_node h = rw split₂ h

        module _ (out₃ : List ℕ) (e m₃ : ℕ) (h : Holds (mk o₂ v p q) w.room out₃ e m₃) (len₃ : length out₃ ≡ length out₂) where
          abbrev o₃ : Table
          o₃ = nodes m₃ out₃

          pub is₃ : carried w s o a ≡ (o₃, e)
          is₃ = split₂ ∙ h.is

          mk₃ : Walked n o₂ (suc (n - suc v)) v (fork (tree_of (n - suc v) o₂ (suc v) p) (tree_of (n - suc v) o₂ (suc v) q)) (o₃, e)
          mk₃ = node_walked n o r.begun.good v v_lt lo_tree hi_tree lo_deep hi_deep o₁ p is₁ o₂ q is₂ o₃ e h.is

          -- the node itself is found again, and so is what was known
          again : carried w s o₃ a ≡ (o₃, e)
          again =
              subst (λ (z : Table × ℕ). walk z.0 (at s a).mark (along (n - (at s a).mark) (at s a).mark a) ≡ z) is₃
              (walk_again n (n - (at s a).mark) (along (n - (at s a).mark) (at s a).mark a) (along-deep (n - (at s a).mark) (at s a).mark a) (at s a).mark (omega (arith, mark-is, v_lt)) o r.begun.good)

          old : (i d : ℕ) → i < k → carried w s o₂ i ≡ (o₂, d) → carried w s o₃ i ≡ (o₃, d)
          old i d lt b =
              let il : (at s i).mark ≤ n = mark-le n s reading.ordered i (omega (arith, length-nodes k bdd)) in
              subst (λ (z : Table). carried w s z i ≡ (z, d)) (sym mk₃.grown)
              (walk_stays n o₂ mk₃.more sound₂.good (subst (Good n) mk₃.grown mk₃.good) (n - (at s i).mark) (at s i).mark d (along (n - (at s i).mark) (at s i).mark i) (along-deep (n - (at s i).mark) (at s i).mark i)
              (omega arith) b)

          kept-known : (memo₃ : List ℕ) → memo₃ ≡ set memo₂ a (e + 1) → Known memo₃ w s o₃ k
          kept-known memo₃ is i lt ne = elim (ℕ_discrete i a) [
            | yes d ↦
                let word : get_or memo₃ i 0 ≡ e + 1 = ap (λ (l : List ℕ). get_or l i 0) is ∙ ap (λ j. get_or (set memo₂ a (e + 1)) j 0) d ∙ get_or-set_same memo₂ a (e + 1) 0 slot_in in
                ap (carried w s o₃) d ∙ again ∙ ap (λ (z : ℕ). (o₃, z)) (omega (arith, word))
            | no d ↦
                let word : get_or memo₃ i 0 ≡ get_or memo₂ i 0 = ap (λ (l : List ℕ). get_or l i 0) is ∙ get_or-set_other memo₂ a i (e + 1) 0 d in
                old i _ lt (ready₂.known i lt (λ z. ne (word ∙ z))) ∙ ap (λ (z : ℕ). (o₃, z - 1)) (sym word)
          ]

          back : (bdd₂ ≡ bdd) × (k₂ ≡ k) × (w₂ ≡ w) → (bdd ≡ bdd₂) × (k ≡ k₂) × (w ≡ w₂)
          back e = (sym e.0, sym e.1, sym e.2)

          finished : (memo₃ : List ℕ) → length memo₃ ≡ length memo₂ → Known memo₃ w s o₃ k → Ready bdd₂ out₃ memo₃ w₂ k₂ m₃
          finished memo₃ len known = same_input bdd₂ bdd out₃ memo₃ w₂ w k₂ k m₃ (back input) (record {
            begun = record {
              marks = r.begun.marks;
              few = r.begun.few;
              long = r.begun.long;
              wide = omega (arith, ready₂.begun.wide);
              ordered = r.begun.ordered;
              pushing = record { few = ready₂.begun.pushing.few; long = omega (arith, ready₂.begun.pushing.long); fits = h.fits };
              good = mk₃.good;
            };
            known = known;
          })

          -- the node made, the memo as it was
          pub made_ready : Ready bdd₂ out₃ memo₂ w₂ k₂ m₃
          made_ready = finished memo₂ refl (λ i lt ne. old i _ lt (ready₂.known i lt ne))

          -- and kept
          pub kept_ready : (memo₃ : List ℕ) → memo₃ ≡ set memo₂ a (e + 1) → Ready bdd₂ out₃ memo₃ w₂ k₂ m₃
          kept_ready memo₃ is = finished memo₃ (ap length is ∙ length-set memo₂ a (e + 1)) (kept-known memo₃ is)
