-- What `split` rests on.
use mathlib.Core.Path.{◌≡◌, refl, sym, ap, ap₂, subst, ◌∙◌}
use mathlib.Core.Bool.{Bool, true, false, true≢false}
use mathlib.Core.List.{List}
use Prim.Native.Nat.{ℕ, zero, suc, ◌+◌, ◌-◌, ◌/◌, ◌%◌, ◌^◌, ◌<◌, ◌≤◌}
use native.Mathlib.Omega.{arith}
use native.Mathlib.Nat.{div-le_self, pow-le-pow_right}
use native.Mathlib.Decide.{ℕ_discrete, dec_lt}
use lib.Count.{count_trailing_zeros, trailing_le}
use Rattle.theory.specs.Tree.{fork}
use Rattle.theory.specs.Table.{Node, Table, at, step, num, walk}
use Rattle.theory.specs.Words.{node_at, nodes}
use Rattle.theory.proofs.Step.{step_here, step_skip}
use Rattle.theory.proofs.Words.{length-nodes, at-nodes}
use Rattle.cube.specs.Cube.{part}
use Rattle.cube.proofs.Shifts.{shr_add, tz_even, tz_odd, none_left}
use Rattle.cube.proofs.Cubes.{part-fork, part-jump, part_off, part-all, part-term}
use Rattle.std.specs.Prelude.{Option}
use Rattle.entries.specs.declared.Form.{Form}
use Rattle.entries.specs.declared.Form.TheVariants.{Cnf, Dnf}
use Rattle.entries.specs.Entries.{says, term_of}
use Rattle.put.specs.declared.Job.{Job}
use Rattle.put.specs.declared.Side.{Side}
use Rattle.put.specs.declared.Cut.{Cut}
use Rattle.put.specs.declared.Side.TheVariants.{Low, High}
use Rattle.put.specs.Put.{memo_base, rest, off_low, off_high, keeps, tree, word, Ready, Parted}

num-says : (f : Form) → num (says f) ≡ term_of f
num-says Cnf = refl
num-says Dnf = refl

module _ (w : List ℕ) (j : Job) (l k a : ℕ) (r : Ready w j l k a) where
  abbrev s : Table
  s = nodes k w

  abbrev b : Bool
  b = says j.form

  pub a_in : a < k
  a_in = omega (arith, r.stands.lies, length-nodes k w)

  pub mark-is : (node_at w a).mark ≡ (at s a).mark
  mark-is = ap (λ (x : Node). x.mark) (sym (at-nodes k w a a_in))

  pub low-is : (node_at w a).low ≡ (at s a).low
  low-is = ap (λ (x : Node). x.low) (sym (at-nodes k w a a_in))

  pub high_is : (node_at w a).high ≡ (at s a).high
  high_is = ap (λ (x : Node). x.high) (sym (at-nodes k w a a_in))

  term_is : num b ≡ term_of j.form
  term_is = num-says j.form

  whole : l + (j.run.n - l) ≡ j.run.n
  whole = omega (arith, r.level)

  -- the mark of a node is at most n
  pub mark-le : (at s a).mark ≤ j.run.n
  mark-le = elim (dec_lt a 2) [
    | yes h ↦ low-mark a h
    | no h ↦ omega (arith, r.good.ordered.marks a (omega arith) r.stands.lies)
  ]
    where
      low-mark : (x : ℕ) → x < 2 → (at s x).mark ≤ j.run.n
      low-mark zero h = omega (arith, ap (λ (y : Node). y.mark) r.good.ordered.first)
      low-mark (suc zero) h = omega (arith, ap (λ (y : Node). y.mark) (r.good.ordered.second r.good.both))
      low-mark (suc (suc x)) h = absurd (let z : ⊥ = omega arith in z)

  -- ---- what is known at once
  pub done_off : walk s l (tree j s l a true) ≡ (s, a)
  done_off = part_off b j.clause.fixed j.clause.values j.run.n s r.good (j.run.n - l) l a whole r.stands

  pub done_all : rest j l ≡ 0 → (t : ℕ) → t ≡ term_of j.form → walk s l (tree j s l a false) ≡ (s, t)
  done_all e t h = part-all b j.clause.fixed j.clause.values s (j.run.n - l) l a e ∙ ap (λ (x : ℕ). (s, x)) (term_is ∙ sym h)

  pub done-term : a ≡ term_of j.form → walk s l (tree j s l a false) ≡ (s, a)
  done-term e =
      part-term b j.clause.fixed j.clause.values j.run.n s r.good (j.run.n - l) l a whole (e ∙ sym term_is)
      ∙ ap (λ (x : ℕ). (s, x)) (term_is ∙ sym e)

  -- ---- the next literal
  module _ (some : rest j l ≡ 0 → ⊥) where
    abbrev pub next : ℕ
    next = l + count_trailing_zeros 64 (rest j l)

    rest-small : rest j l < 2 ^ 64
    rest-small =
        let p : 2 ^ j.run.n ≤ 2 ^ 64 = pow-le-pow_right {n = 2} (omega arith) {i = j.run.n} {j = 64} (omega (arith, r.marks)) in
        let q : rest j l ≤ j.clause.fixed = div-le_self j.clause.fixed (2 ^ l) in
        omega (arith, r.fixed)

    pub tz_small : count_trailing_zeros 64 (rest j l) ≤ 64
    tz_small = trailing_le 64 (rest j l)

    literal : rest j next % 2 ≡ 1
    literal =
        let p : 0 < rest j l = elim (ℕ_discrete (rest j l) 0) [ yes e ↦ absurd (some e) | no e ↦ omega arith ] in
        ap (λ x. x % 2) (sym (shr_add j.clause.fixed l (count_trailing_zeros 64 (rest j l)))) ∙ tz_odd 64 (rest j l) p rest-small

    pub next-lt : next < j.run.n
    next-lt = elim (dec_lt next j.run.n) [
      | yes h ↦ h
      | no h ↦ absurd (let z : rest j next ≡ 0 = none_left j.clause.fixed j.run.n next r.fixed (omega arith) in omega (arith, literal))
    ]

    -- from level l to level v, where the next literal and the node's mark are not passed
    jump : (v : ℕ) → l ≤ v → v ≤ next → v ≤ (at s a).mark → walk s l (tree j s l a false) ≡ walk s v (tree j s v a false)
    jump v h₀ h₁ h₂ =
        let d : ℕ = v - l in
        let e : j.run.n - l ≡ (v - l) + (j.run.n - v) = omega (arith, next-lt) in
        let x : l + (v - l) ≡ v = omega arith in
        ap (λ y. walk s l (part b j.clause.fixed j.clause.values s y l a false)) e
        ∙ part-jump b j.clause.fixed j.clause.values j.run.n s r.good (v - l) (j.run.n - v) l a (omega (arith, next-lt)) (omega arith)
        (λ i lt. ap (λ y. y % 2) (sym (shr_add j.clause.fixed l i)) ∙ tz_even 64 (rest j l) i (omega arith))
        ∙ ap (λ y. walk s y (part b j.clause.fixed j.clause.values s (j.run.n - v) y a false)) x

    forked : (v : ℕ) → v < j.run.n → tree j s v a false ≡ fork (tree j s (suc v) (step s v false a) (off_low j v)) (tree j s (suc v) (step s v true a) (off_high j v))
    forked v h =
        let e : j.run.n - v ≡ suc (j.run.n - suc v) = omega arith in
        ap (λ y. part b j.clause.fixed j.clause.values s y v a false) e ∙ part-fork b j.clause.fixed j.clause.values s (j.run.n - suc v) v a

    -- a literal that the node does not look at
    pub skips : (x : Option Side) → next < (at s a).mark → keeps Low x ≡ off_low j next → keeps High x ≡ off_high j next
        → Parted w j l k a false (record { variable = record { 0 = next }; low = record { 0 = a }; high = record { 0 = a }; kept = x; own = false })
    skips x h ex ey =
        let lo : step s next false a ≡ a = step_skip s next false a (λ e. omega arith) in
        let hi : step s next true a ≡ a = step_skip s next true a (λ e. omega arith) in
        record {
          from = omega arith;
          below = next-lt;
          low = sym lo;
          high = sym hi;
          fits = record { lies = r.stands.lies; fits = omega arith };
          walks =
              jump next (omega arith) (omega arith) (omega arith)
              ∙ ap (walk s next) (forked next next-lt ∙ ap₂ fork
              (ap₂ (tree j s (suc next)) lo (sym ex))
              (ap₂ (tree j s (suc next)) hi (sym ey)));
          to = jump next (omega arith) (omega arith) (omega arith);
          owns = λ e. absurd (true≢false (sym e));
        }

    -- the node's own level
    pub owns : (m lo hi : ℕ) (x : Option Side) → m ≡ (at s a).mark → (next < m → ⊥) → keeps Low x ≡ off_low j m → keeps High x ≡ off_high j m → lo ≡ (at s a).low → hi ≡ (at s a).high
        → Parted w j l k a false (record { variable = record { 0 = m }; low = record { 0 = lo }; high = record { 0 = hi }; kept = x; own = true })
    owns m lo hi x em h ex ey el eh =
        let le : m ≤ next = omega arith in
        let lo' : step s m false a ≡ lo = step_here s m false a (sym em) ∙ sym el in
        let hi' : step s m true a ≡ hi = step_here s m true a (sym em) ∙ sym eh in
        let to : walk s l (tree j s l a false) ≡ walk s m (tree j s m a false) = jump m (omega (arith, r.stands.fits)) le (omega arith) in
        record {
          from = omega (arith, r.stands.fits);
          below = omega (arith, next-lt);
          low = sym lo';
          high = sym hi';
          fits = record { lies = r.stands.lies; fits = omega arith };
          walks = to ∙ ap (walk s m) (forked m (omega (arith, next-lt)) ∙ ap₂ fork (ap₂ (tree j s (suc m)) lo' (sym ex)) (ap₂ (tree j s (suc m)) hi' (sym ey)));
          to = to;
          owns = λ e. sym em;
        }

    pub done-memo : (m e : ℕ) → m ≡ (at s a).mark → (next < m → ⊥) → word w j.run.cap a / memo_base ≡ j.run.stamp → e ≡ word w j.run.cap a % memo_base → walk s l (tree j s l a false) ≡ (s, e)
    done-memo m e em h st ee =
        jump (at s a).mark (omega (arith, r.stands.fits)) (omega arith) (omega arith)
        ∙ (r.known a (omega (arith, a_in, r.fits)) st).1
        ∙ ap (λ (x : ℕ). (s, x)) (sym ee)

-- ---- where the way down is still on the cube
pub on-walk : (w : List ℕ) (j : Job) (l k a o : ℕ) (off : Bool) → off ≡ false → walk (nodes k w) l (tree j (nodes k w) l a false) ≡ (nodes k w, o) → walk (nodes k w) l (tree j (nodes k w) l a off) ≡ (nodes k w, o)
on-walk w j l k a o off e h = ap (λ x. walk (nodes k w) l (tree j (nodes k w) l a x)) e ∙ h

pub on-parted : (w : List ℕ) (j : Job) (l k a : ℕ) (off : Bool) (c : Cut) → off ≡ false → Parted w j l k a false c → Parted w j l k a off c
on-parted w j l k a off c e h = subst (λ x. Parted w j l k a x c) (sym e) h
