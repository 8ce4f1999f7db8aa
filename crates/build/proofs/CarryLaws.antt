-- What `carry` rests on: node by node through the pool is level by level through the tree.
use mathlib.Core.Path.{◌≡◌, refl, sym, ap, ap₂, subst, ◌∙◌}
use mathlib.Core.Bool.{true, false}
use mathlib.Core.List.{List, [], ◌∷◌, ◌++◌}
use mathlib.Core.Logic.{◌⊎◌, inl, inr, ◌≢◌}
use Prim.Native.Nat.{ℕ, zero, suc, ◌+◌, ◌*◌, ◌-◌, ◌/◌, ◌%◌, ◌<◌, ◌≤◌}
use native.Mathlib.Omega.{arith}
use native.Mathlib.Decide.{dec_lt}
use lib.ListN.{length, set, length-append}
use Rattle.theory.specs.Tree.{Tree, fork, Deep}
use Rattle.theory.specs.Table.{Node, node, Table, at, step, tree_of, find, grow, mk, walk, Good}
use Rattle.theory.specs.Words.{node_at, nodes}
use Rattle.theory.proofs.Step.{Stands, step_here, stands_child, inner, mark-le}
use lib.Seq.{get_or-set_same, get_or-set_other}
use Rattle.theory.proofs.Find.{Fresh, Present, grow-cases, mk-other, node-eq}
use Rattle.theory.proofs.Walk.{Walked, sound, alone, at_old, at_new, num-truth}
use Rattle.theory.proofs.Words.{length-nodes, at-nodes}
use Rattle.theory.proofs.Small.{tree_of-deep}
use Rattle.theory.proofs.Again.{walk_again}
use Rattle.theory.proofs.Levels.{tree_of-lifted, lifted-walk}
use Rattle.theory.proofs.Turned.{walk_stays}
use Rattle.theory.proofs.Forks.{low-over, high-over, low_walked, high_walked, fork-is, low-means, node_walked}
use Rattle.put.specs.Put.{memo_base, word, word_of}
use Rattle.pool.specs.Pool.{Holds, Pushing, pushed}
use Rattle.put.proofs.SettleLaws.{keep-nodes, keep-memo}
use Rattle.build.specs.declared.Goal.{Goal}
use Rattle.build.specs.Build.{carried, Source, Origin, Carrying, Carried}

-- levels that the node's mark skips
pub jump : (n : ℕ) (s o : Table) → Good n o → (l a : ℕ) → l ≤ (at s a).mark → (at s a).mark ≤ n → walk o l (tree_of (n - l) s l a) ≡ carried n s o a
jump n s o g l a h i =
    let m : ℕ = (at s a).mark in
    let e : n - l ≡ (m - l) + (n - m) = omega arith in
    let x : l + (m - l) ≡ m = omega arith in
    ap (λ y. walk o l (tree_of y s l a)) e
    ∙ ap (walk o l) (tree_of-lifted (m - l) (n - m) s l a (omega arith))
    ∙ lifted-walk n (m - l) (n - m) (tree_of (n - m) s (l + (m - l)) a) (tree_of-deep (n - m) s (l + (m - l)) a) l (omega arith) o g
    ∙ ap (λ y. walk o y (tree_of (n - m) s y a)) x

-- a constant
pub carried-end : (n : ℕ) (s o : Table) → Good n s → (a : ℕ) → a < 2 → carried n s o a ≡ (o, a)
unfolding tree_of walk
carried-end n s o g a h =
    let m : (at s a).mark ≡ n = end_mark a h in
    let z : n - n ≡ 0 = omega arith in
    rw (m, z) (ap (λ (x : ℕ). (o, x)) (num-truth a h))
  where
    end_mark : (x : ℕ) → x < 2 → (at s x).mark ≡ n
    end_mark zero h = ap (λ (y : Node). y.mark) g.ordered.first
    end_mark (suc zero) h = ap (λ (y : Node). y.mark) (g.ordered.second g.both)
    end_mark (suc (suc x)) h = absurd (let z : ⊥ = omega arith in z)

-- the memo knows it, or it is a constant
module _ (w out : List ℕ) (g : Goal) (k m a : ℕ) (r : Carrying w out g k m a) where
  -- a mark is at most 60
  pub mark-small : (node_at w a).mark ≤ 60
  mark-small = omega (arith, mark-le g.run.n (nodes k w) r.pool.ordered a (omega (arith, r.lies, length-nodes k w)), ap (λ (x : Node). x.mark) (at-nodes k w a r.lies), r.marks)

  pub carry-end : a < 2 → Carried w w out out g k m a a m
  carry-end h = record { holds = record { is = carried-end g.run.n (nodes k w) (nodes m out) r.pool a h; fits = r.holds }; pool = refl; known = r.known; origin = r.origin; above = λ y h. refl; young = r.young }

  pub carry-memo : (e : ℕ) → word w g.run.cap a / memo_base ≡ g.run.stamp → e ≡ word w g.run.cap a % memo_base → Carried w w out out g k m a e m
  carry-memo e st ee = record {
    holds = record { is = (r.known a (omega (arith, r.lies, r.fits)) st).1 ∙ ap (λ (x : ℕ). (nodes m out, x)) (sym ee); fits = r.holds };
    pool = refl;
    known = r.known;
    origin = r.origin;
    above = λ y h. refl;
    young = r.young;
  }

-- an inner node
module _ (w out : List ℕ) (g : Goal) (k m a : ℕ) (r : Carrying w out g k m a) (two : 2 ≤ a) (v x y : ℕ) (ev : v ≡ (node_at w a).mark) (ex : x ≡ (node_at w a).low) (ey : y ≡ (node_at w a).high) (nk : word w g.run.cap a / memo_base ≡ g.run.stamp → ⊥) where
  abbrev s : Table
  s = nodes k w

  abbrev o : Table
  o = nodes m out

  abbrev n : ℕ
  n = g.run.n

  a_in : a < length s
  a_in = omega (arith, r.lies, length-nodes k w)

  is : at s a ≡ node v x y
  is = at-nodes k w a r.lies ∙ node-eq (node_at w a) (node v x y) (sym ev) (sym ex) (sym ey)

  pub v_lt : v < n
  v_lt = rw is at (r.pool.ordered.marks a two a_in)

  x-stands : Stands s (suc v) x
  x-stands = rw is at (stands_child n s r.pool.ordered false a two a_in)

  y_stands : Stands s (suc v) y
  y_stands = rw is at (stands_child n s r.pool.ordered true a two a_in)

  pub x_lt : x < a
  x_lt = rw is at (r.pool.ordered.links a false two a_in)

  pub y_lt : y < a
  y_lt = rw is at (r.pool.ordered.links a true two a_in)

  whole : suc v + (n - suc v) ≡ n
  whole = omega (arith, v_lt)

  abbrev lo_tree : Tree
  lo_tree = tree_of (n - suc v) s (suc v) x

  abbrev hi_tree : Tree
  hi_tree = tree_of (n - suc v) s (suc v) y

  mark-is : (at s a).mark ≡ v
  mark-is = ap (λ (z : Node). z.mark) is

  splits : (u : Table) → carried n s u a ≡ walk u v (fork lo_tree hi_tree)
  unfolding tree_of
  splits u =
      let e : n - v ≡ suc (n - suc v) = omega (arith, v_lt) in
      let lo : step s v false a ≡ x = step_here s v false a mark-is ∙ ap (λ (z : Node). z.low) is in
      let hi : step s v true a ≡ y = step_here s v true a mark-is ∙ ap (λ (z : Node). z.high) is in
      rw (mark-is, e, lo, hi)

  pub carrying_lo : Carrying w out g k m x
  carrying_lo = record {
    marks = r.marks;
    stamp = r.stamp;
    few = r.few;
    small = r.small;
    long = r.long;
    wide = r.wide;
    fits = r.fits;
    holds = r.holds;
    pool = r.pool;
    good = r.good;
    lies = omega (arith, x_lt, r.lies);
    known = r.known;
    origin = r.origin;
    young = r.young;
  }

  lo_jump : walk o (suc v) lo_tree ≡ carried n s o x
  lo_jump = jump n s o r.good (suc v) x x-stands.fits (mark-le n s r.pool.ordered x x-stands.lies)

  hi_jump : (u : Table) → Good n u → walk u (suc v) hi_tree ≡ carried n s u y
  hi_jump u h = jump n s u h (suc v) y y_stands.fits (mark-le n s r.pool.ordered y y_stands.lies)

  lo_deep : Deep (n - suc v) lo_tree
  lo_deep = tree_of-deep (n - suc v) s (suc v) x

  hi_deep : Deep (n - suc v) hi_tree
  hi_deep = tree_of-deep (n - suc v) s (suc v) y

  pub full_lo : g.room < length (carried n s o x).0 → g.room < length (carried n s o a).0
  full_lo h = rw (splits o) (low-over n o r.good v v_lt lo_tree hi_tree lo_deep hi_deep _ _ refl g.room (rw lo_jump h))

  module _ (w₁ out₁ : List ℕ) (p m₁ : ℕ) (nw : length w₁ ≡ length w) (nt : length out₁ ≡ length out) (u : Carried w w₁ out out₁ g k m x p m₁) where
    abbrev o₁ : Table
    o₁ = nodes m₁ out₁

    is₁ : walk o (suc v) lo_tree ≡ (o₁, p)
    is₁ = lo_jump ∙ u.holds.is

    sound₁ : Walked n o (n - suc v) (suc v) lo_tree (o₁, p)
    sound₁ = low_walked n o r.good v v_lt lo_tree hi_tree lo_deep hi_deep o₁ p is₁

    pub carrying_hi : Carrying w₁ out₁ g k m₁ y
    carrying_hi = record {
      marks = r.marks;
      stamp = r.stamp;
      few = r.few;
      small = r.small;
      long = omega (arith, r.long);
      wide = omega (arith, r.wide);
      fits = r.fits;
      holds = u.holds.fits;
      pool = subst (Good n) (sym u.pool) r.pool;
      good = sound₁.good;
      lies = omega (arith, y_lt, r.lies);
      known = u.known;
      origin = u.origin;
      young = u.young;
    }

    hi_same : carried n (nodes k w₁) o₁ y ≡ walk o₁ (suc v) hi_tree
    hi_same = ap (λ (z : Table). carried n z o₁ y) u.pool ∙ sym (hi_jump o₁ sound₁.good)

    pub full_hi : g.room < length (carried n (nodes k w₁) o₁ y).0 → g.room < length (carried n s o a).0
    full_hi h = rw (splits o) (high-over n o r.good v v_lt lo_tree hi_tree lo_deep hi_deep o₁ p is₁ g.room (rw hi_same at h))

    module _ (w₂ out₂ : List ℕ) (q m₂ : ℕ) (nw₂ : length w₂ ≡ length w₁) (no₂ : length out₂ ≡ length out₁) (f : Carried w₁ w₂ out₁ out₂ g k m₁ y q m₂) where
      abbrev o₂ : Table
      o₂ = nodes m₂ out₂

      is₂ : walk o₁ (suc v) hi_tree ≡ (o₂, q)
      is₂ = sym hi_same ∙ f.holds.is

      sound₂ : Walked n o₁ (n - suc v) (suc v) hi_tree (o₂, q)
      sound₂ = high_walked n o r.good v v_lt lo_tree hi_tree lo_deep hi_deep o₁ p is₁ o₂ q is₂

      split₂ : carried n s o a ≡ mk o₂ v p q
      split₂ = splits o ∙ fork-is n o r.good v v_lt lo_tree hi_tree lo_deep hi_deep o₁ p is₁ o₂ q is₂

      pub pushing : Pushing out₂ g.room m₂
      pushing = record { few = r.small; long = omega (arith, r.wide); fits = f.holds.fits }

      pool₂ : nodes k w₂ ≡ s
      pool₂ = f.pool ∙ u.pool

      -- the memo's word for a is as it was
      still : word w₂ g.run.cap a ≡ word w g.run.cap a
      still = f.above a y_lt ∙ u.above a x_lt

      lo_means : tree_of (n - suc v) o₂ (suc v) p ≡ lo_tree
      lo_means = low-means n o r.good v v_lt lo_tree hi_tree lo_deep hi_deep o₁ p is₁ o₂ q is₂

      -- the two sides differ
      apart : p ≡ q → ⊥
      apart e =
          r.pool.apart a two a_in (rw is (alone n s r.pool (n - suc v) (suc v) x y whole x-stands y_stands
          (sym lo_means ∙ ap (tree_of (n - suc v) o₂ (suc v)) e ∙ sound₂.means)))

      a_tree : tree_of (suc (n - suc v)) s v a ≡ fork lo_tree hi_tree
      unfolding tree_of
      a_tree =
          let lo : step s v false a ≡ x = step_here s v false a mark-is ∙ ap (λ (z : Node). z.low) is in
          let hi : step s v true a ≡ y = step_here s v true a mark-is ∙ ap (λ (z : Node). z.high) is in
          rw (lo, hi)

      i_tree : (i : ℕ) → at o₂ i ≡ node v p q → tree_of (suc (n - suc v)) o₂ v i ≡ fork lo_tree hi_tree
      unfolding tree_of
      i_tree i e =
          let lo : step o₂ v false i ≡ p = step_here o₂ v false i (ap (λ (z : Node). z.mark) e) ∙ ap (λ (z : Node). z.low) e in
          let hi : step o₂ v true i ≡ q = step_here o₂ v true i (ap (λ (z : Node). z.mark) e) ∙ ap (λ (z : Node). z.high) e in
          rw (lo, hi, lo_means, sound₂.means)

      -- no such node stands in out: it would have been made for a node that means what a means, which is a
      absent : (i : ℕ) → i < length o₂ → at o₂ i ≡ node v p q → ⊥
      absent i h e =
          let ti : 2 ≤ i = inner n o₂ sound₂.good.ordered i h (rw e v_lt) in
          let c : Source w₂ out₂ g k m₂ i = f.origin i ti (omega (arith, length-nodes m₂ out₂)) in
          let ml : (at s c.x).mark ≡ v = ap (λ (z : Table). (at z c.x).mark) (sym pool₂) ∙ c.mark ∙ ap (λ (z : Node). z.mark) e in
          let w₀ : carried n s o₂ c.x ≡ (o₂, i) = ap (λ (z : Table). carried n z o₂ c.x) (sym pool₂) ∙ (f.known c.x (omega (arith, c.lies, r.fits)) c.stamp).1 ∙ ap (λ (z : ℕ). (o₂, z)) c.says in
          let nv : n - v ≡ suc (n - suc v) = omega (arith, v_lt) in
          let w₁ : walk o₂ v (tree_of (suc (n - suc v)) s v c.x) ≡ (o₂, i) = rw (ml, nv) at w₀ in
          let b : Walked n o₂ (suc (n - suc v)) v (tree_of (suc (n - suc v)) s v c.x) (o₂, i) =
          subst (λ z. Walked n o₂ (suc (n - suc v)) v (tree_of (suc (n - suc v)) s v c.x) z) w₁
          (sound n (suc (n - suc v)) (tree_of (suc (n - suc v)) s v c.x) (tree_of-deep (suc (n - suc v)) s v c.x) v (omega (arith, v_lt)) o₂ sound₂.good) in
          let same : c.x ≡ a = alone n s r.pool (suc (n - suc v)) v c.x a (omega (arith, v_lt))
          (record { lies = omega (arith, c.lies, length-nodes k w); fits = omega arith }) (record { lies = a_in; fits = omega (arith, mark-is) })
          (sym b.means ∙ i_tree i e ∙ sym a_tree) in
          nk (ap (λ z. z / memo_base) (sym still) ∙ ap (λ z. word w₂ g.run.cap z / memo_base) (sym same) ∙ c.stamp)

      mk-is : mk o₂ v p q ≡ pushed out₂ m₂ v p q
      mk-is = mk-other o₂ v p q apart ∙ go (grow-cases o₂ (node v p q))
        where
          go : Fresh o₂ (node v p q) ⊎ Present o₂ (node v p q) → ◌≡◌ {A = Table × ℕ} (grow o₂ (node v p q), find o₂ (node v p q)) (o₂ ++ (node v p q ∷ []), m₂)
          go (inl c) = rw (c.table, c.place, length-nodes m₂ out₂)
          go (inr c) = absurd (absent (find o₂ (node v p q)) c.place c.there)

      pub full_node : g.room < length (pushed out₂ m₂ v p q).0 → g.room < length (carried n s o a).0
      full_node h = rw (split₂, mk-is) h

      pub slot_in : 3 * g.run.cap + a < length w₂
      slot_in = omega (arith, r.lies, r.fits, r.long)

      module _ (out₃ : List ℕ) (e m₃ : ℕ) (h₃ : Holds (pushed out₂ m₂ v p q) g.room out₃ e m₃) where
        h : Holds (mk o₂ v p q) g.room out₃ e m₃
        h = subst (λ z. Holds z g.room out₃ e m₃) (sym mk-is) h₃

        abbrev o₃ : Table
        o₃ = nodes m₃ out₃

        is₃ : carried n s o a ≡ (o₃, e)
        is₃ = split₂ ∙ h.is

        mk₃ : Walked n o₂ (suc (n - suc v)) v (fork (tree_of (n - suc v) o₂ (suc v) p) (tree_of (n - suc v) o₂ (suc v) q)) (o₃, e)
        mk₃ = node_walked n o r.good v v_lt lo_tree hi_tree lo_deep hi_deep o₁ p is₁ o₂ q is₂ o₃ e h.is

        pub e_small : e < memo_base
        e_small = omega (arith, mk₃.stands.lies, length-nodes m₃ out₃, h.fits, r.small)

        again : carried n s o₃ a ≡ (o₃, e)
        again = subst (λ (z : Table × ℕ). walk z.0 (at s a).mark (tree_of (n - (at s a).mark) s (at s a).mark a) ≡ z) is₃
            (walk_again n (n - (at s a).mark) (tree_of (n - (at s a).mark) s (at s a).mark a) (tree_of-deep (n - (at s a).mark) s (at s a).mark a) (at s a).mark (omega (arith, mark-is, v_lt)) o r.good)

        old : (i d : ℕ) → i < k → carried n s o₂ i ≡ (o₂, d) → carried n s o₃ i ≡ (o₃, d)
        old i d lt b =
            let il : (at s i).mark ≤ n = mark-le n s r.pool.ordered i (omega (arith, length-nodes k w)) in
            subst (λ (z : Table). carried n s z i ≡ (z, d)) (sym mk₃.grown)
            (walk_stays n o₂ mk₃.more sound₂.good (subst (Good n) mk₃.grown mk₃.good) (n - (at s i).mark) (at s i).mark d (tree_of (n - (at s i).mark) s (at s i).mark i)
            (tree_of-deep (n - (at s i).mark) s (at s i).mark i) (omega arith) b)

        new_is : e ≡ m₂
        new_is = sym (ap (λ (z : Table × ℕ). z.1) h₃.is)

        o₃_is : o₃ ≡ o₂ ++ (node v p q ∷ [])
        o₃_is = sym (ap (λ (z : Table × ℕ). z.0) h₃.is)

        m₃_is : m₃ ≡ m₂ + 1
        m₃_is = omega (arith, ap length o₃_is, length-append o₂ (node v p q ∷ []), length-nodes m₃ out₃, length-nodes m₂ out₂)

        came : (w₃ : List ℕ) → w₃ ≡ set w₂ (3 * g.run.cap + a) (word_of g.run.stamp e) → nodes k w₃ ≡ s → Origin w₃ out₃ g k m₃
        came w₃ q₃ pool₃ i ti lt = elim (dec_lt i m₂) [
          | yes was ↦
              let c : Source w₂ out₂ g k m₂ i = f.origin i ti was in
              let ne : c.x ≢ a = λ z. nk (ap (λ d. d / memo_base) (sym still) ∙ ap (λ d. word w₂ g.run.cap d / memo_base) (sym z) ∙ c.stamp) in
              let b : word w₃ g.run.cap c.x ≡ word w₂ g.run.cap c.x = ap (λ (d : List ℕ). word d g.run.cap c.x) q₃ ∙ get_or-set_other w₂ (3 * g.run.cap + a) (3 * g.run.cap + c.x) (word_of g.run.stamp e) 0 (λ d. ne (omega arith)) in
              record {
                x = c.x;
                lies = c.lies;
                stamp = ap (λ d. d / memo_base) b ∙ c.stamp;
                says = ap (λ d. d % memo_base) b ∙ c.says;
                mark = ap (λ (z : Table). (at z c.x).mark) (pool₃ ∙ sym pool₂) ∙ c.mark
                    ∙ sym (ap (λ (z : Table). (at z i).mark) o₃_is ∙ ap (λ (z : Node). z.mark) (at_old o₂ (node v p q ∷ []) i (omega (arith, length-nodes m₂ out₂))));
              }
          | no not-was ↦
              let z : i ≡ m₂ = omega (arith, m₃_is) in
              let b : word w₃ g.run.cap a ≡ word_of g.run.stamp e = ap (λ (d : List ℕ). word d g.run.cap a) q₃ ∙ get_or-set_same w₂ (3 * g.run.cap + a) (word_of g.run.stamp e) 0 slot_in in
              record {
                x = a;
                lies = r.lies;
                stamp = ap (λ d. d / memo_base) b ∙ (let c : word_of g.run.stamp e / memo_base ≡ g.run.stamp = omega (arith, e_small) in c);
                says = ap (λ d. d % memo_base) b ∙ (let c : word_of g.run.stamp e % memo_base ≡ i = omega (arith, e_small, new_is) in c);
                mark = ap (λ (z : Table). (at z a).mark) pool₃ ∙ mark-is
                    ∙ sym (ap (λ (z : Table). (at z i).mark) o₃_is ∙ ap (λ (d : ℕ). (at (o₂ ++ (node v p q ∷ [])) d).mark) (z ∙ sym (length-nodes m₂ out₂)) ∙ ap (λ (z : Node). z.mark) (at_new o₂ (node v p q)));
              }
        ]

        pub done : (w₃ : List ℕ) → w₃ ≡ set w₂ (3 * g.run.cap + a) (word_of g.run.stamp e) → Carried w w₃ out out₃ g k m a e m₃
        done w₃ q₃ =
            let pool₃ : nodes k w₃ ≡ s = keep-nodes g.run.cap g.run.stamp a (word_of g.run.stamp e) w₂ w₃ slot_in true k r.fits q₃ ∙ pool₂ in
            record {
              holds = record { is = is₃; fits = h.fits };
              pool = pool₃;
              known = λ i lt st. elim (keep-memo g.run.cap g.run.stamp a (word_of g.run.stamp e) w₂ w₃ slot_in true q₃ i) [
                | inl b ↦
                    let c = f.known i lt (ap (λ z. z / memo_base) (sym b) ∙ st) in (
                      c.0,
                      ap (λ (z : Table). carried n z o₃ i) pool₃ ∙ old i _ c.0 (ap (λ (z : Table). carried n z o₂ i) (sym pool₂) ∙ c.1) ∙ ap (λ (z : ℕ). (o₃, z % memo_base)) (sym b),
                    )
                | inr b ↦ (
                  omega (arith, b.1, r.lies),
                  ap₂ (λ (z : Table) (i : ℕ). carried n z o₃ i) pool₃ b.1 ∙ again
                      ∙ ap (λ (z : ℕ). (o₃, z)) ((let c : e ≡ word_of g.run.stamp e % memo_base = omega (arith, e_small) in c) ∙ ap (λ z. z % memo_base) (sym b.2)),
                )
              ];
              origin = came w₃ q₃ pool₃;
              above = λ i lt. ap (λ (d : List ℕ). word d g.run.cap i) q₃ ∙ get_or-set_other w₂ (3 * g.run.cap + a) (3 * g.run.cap + i) (word_of g.run.stamp e) 0 (λ d. omega arith)
                  ∙ f.above i (omega (arith, y_lt)) ∙ u.above i (omega (arith, x_lt));
              young = λ i lt. elim (keep-memo g.run.cap g.run.stamp a (word_of g.run.stamp e) w₂ w₃ slot_in true q₃ i) [
                | inl b ↦ subst (λ z. z / memo_base ≤ g.run.stamp) (sym b) (f.young i lt)
                | inr b ↦ subst (λ z. z / memo_base ≤ g.run.stamp) (sym b.2) (omega (arith, e_small))
              ];
            }
