-- Node counts: one node is false, two are true; and a restriction has no more nodes than the function.
use mathlib.Core.Path.{◌≡◌, refl, sym, ap, ap₂, ◌∙◌}
use mathlib.Core.Logic.{◌≢◌}
use mathlib.Core.Bool.{Bool, true, false, cond}
use mathlib.Core.List.{[], ◌∷◌, map}
use Prim.Native.Nat.{ℕ, zero, suc, ◌+◌, ◌-◌, ◌≤◌, ◌<◌}
use native.Mathlib.Omega.{arith}
use native.Mathlib.Decide.{ℕ_discrete, dec_lt}
use lib.Dec.{eqb}
use lib.ListN.{length, get_or, get_or-map}
use borrow.Author.Tests.{eq-eqb, ne_eqb}
use Rattle.theory.specs.Tree.{Tree, leaf, fork, Deep, konst, cofactor, same_tree}
use Rattle.theory.specs.Table.{Node, node, Table, at, child_of, step, tree_of, truth, walk, constants, cut, canon, meaning, Ordered}
use Rattle.theory.proofs.Step.{Stands, step_here, step_skip, inner, stands-step, tree_of-konst}
use Rattle.theory.proofs.Canon.{constants-good, canon-means, canon-ordered}
use Rattle.theory.proofs.Again.{walk-konst, room-canon, turn, tree_set, tree_set-cofactor}
use Rattle.theory.proofs.Small.{tree_of-deep}
use Rattle.theory.proofs.Support.{same_equal, same_refl}
use Rattle.cube.proofs.Sizes.{adds}

-- ---- the constants
pub size-konst : (n : ℕ) (b : Bool) → length (canon n (konst n b)) ≡ cond b 2 1
unfolding canon
size-konst n true = ap (λ r. length (cut n r)) (walk-konst n true (constants n) 0)
size-konst n false = ap (λ r. length (cut n r)) (walk-konst n false (constants n) 0)

one_false : (n : ℕ) (f : Tree) → Deep n f → length (canon n f) ≡ 1 → f ≡ konst n false
unfolding meaning
one_false n f d e =
    let z : length (canon n f) - 1 ≡ 0 = omega arith in
    sym (canon-means n f d) ∙ ap (tree_of n (canon n f) 0) z ∙ tree_of-konst n (canon n f) n 0 0 (omega arith) (ap (λ (x : Node). x.mark) (canon-ordered n f d).first)

two_true : (n : ℕ) (f : Tree) → Deep n f → length (canon n f) ≡ 2 → f ≡ konst n true
unfolding meaning
two_true n f d e =
    let z : length (canon n f) - 1 ≡ 1 = omega arith in
    sym (canon-means n f d) ∙ ap (tree_of n (canon n f) 0) z ∙ tree_of-konst n (canon n f) n 0 1 (omega arith) (ap (λ (x : Node). x.mark) ((canon-ordered n f d).second (omega arith)))

-- the rule's tests, by the count
pub is-konst : (n k : ℕ) (b : Bool) (f : Tree) → Deep n f → k ≡ length (canon n f) → k ≡ cond b 2 1 → same_tree f (konst n b) ≡ true
is-konst n k true f d e h = rw (two_true n f d (omega arith)) (same_refl (konst n true))
is-konst n k false f d e h = rw (one_false n f d (omega arith)) (same_refl (konst n false))

pub not-konst : (n k : ℕ) (b : Bool) (f : Tree) → k ≡ length (canon n f) → k ≢ cond b 2 1 → same_tree f (konst n b) ≡ false
not-konst n k b f e h =
    (elim (same_tree f (konst n b)) as (λ v. same_tree f (konst n b) ≡ v → v ≡ false) [
      | true ↦ λ z. absurd (h (e ∙ ap (λ t. length (canon n t)) (same_equal f (konst n b) z) ∙ size-konst n b))
      | false ↦ λ z. refl
    ]) refl

-- ---- restrictions
-- a constant with a mark set is the constant
set-konst : (i k : ℕ) (b v : Bool) → cofactor i v (konst k b) ≡ konst k b
unfolding cofactor konst
set-konst i zero b v = refl
set-konst zero (suc k) b true = refl
set-konst zero (suc k) b false = refl
set-konst (suc i) (suc k) b v = ap₂ fork (set-konst i k b v) (set-konst i k b v)

-- the table with every link to a node of mark x led on to that node's child
module _ (n : ℕ) (s : Table) (o : Ordered n s) (x : ℕ) (v : Bool) (hx : x < n) where
  on : ℕ → ℕ
  on p = step s x v p

  led : Node → Node
  led z = node z.mark (on z.low) (on z.high)

  past : Table
  past = map led s

  on-zero : on 0 ≡ 0
  unfolding on
  on-zero = step_skip s x v 0 (λ e. omega (arith, ap (λ (z : Node). z.mark) o.first))

  past-long : length past ≡ length s
  unfolding past
  past-long = length-map s
    where
      length-map : (u : Table) → length (map led u) ≡ length u
      length-map [] = refl
      length-map (z ∷ u) = ap suc (length-map u)

  led_zero : node 0 0 0 ≡ led (node 0 0 0)
  unfolding led
  led_zero = λ i. node 0 (sym on-zero i) (sym on-zero i)

  at-past : (i : ℕ) → at past i ≡ led (at s i)
  unfolding past
  at-past i = ap (λ d. get_or (map led s) i d) led_zero ∙ get_or-map led s i (node 0 0 0)

  same-mark : (i : ℕ) → (at past i).mark ≡ (at s i).mark
  unfolding led
  same-mark i = ap (λ (z : Node). z.mark) (at-past i)

  -- led on, a link goes no higher, and the mark no lower
  on-le : (p : ℕ) → p < length s → on p ≤ p
  unfolding on
  on-le p h = elim (ℕ_discrete (at s p).mark x) [
    | yes e ↦ rw (step_here s x v p e) (omega (arith, o.links p v (inner n s o p h (omega arith)) h))
    | no e ↦ rw (step_skip s x v p e) (omega arith)
  ]

  on-mark : (p : ℕ) → p < length s → (at s p).mark ≤ (at s (on p)).mark
  unfolding on
  on-mark p h = elim (ℕ_discrete (at s p).mark x) [
    | yes e ↦ rw (step_here s x v p e) (omega (arith, o.falls p v (inner n s o p h (omega arith)) h))
    | no e ↦ rw (step_skip s x v p e) (omega arith)
  ]

  link_past : (i : ℕ) (b : Bool) → child_of b (at past i) ≡ on (child_of b (at s i))
  unfolding led
  link_past i true = ap (λ (z : Node). z.high) (at-past i)
  link_past i false = ap (λ (z : Node). z.low) (at-past i)

  past-ordered : Ordered n past
  unfolding led on
  past-ordered = record {
    some = omega (arith, past-long, o.some);
    first = at-past 0 ∙ ap led o.first ∙ led_const 0 (on-zero);
    second = λ h. at-past 1 ∙ ap led (o.second (omega (arith, past-long))) ∙ led_const 1 (step-one (omega (arith, past-long)));
    marks = λ i a h. rw (same-mark i) (o.marks i a (omega (arith, past-long)));
    links = λ i b a h. rw (link_past i b) (omega (arith, o.links i b a (omega (arith, past-long)), on-le _ (child_in i b a (omega (arith, past-long)))));
    falls = λ i b a h. rw (link_past i b, same-mark i, same-mark (on (child_of b (at s i))))
        (omega (arith, o.falls i b a (omega (arith, past-long)), on-mark _ (child_in i b a (omega (arith, past-long)))));
  }
    where
      led_const : (j : ℕ) → on j ≡ j → led (node n j j) ≡ node n j j
      led_const j e = λ i. node n (e i) (e i)

      step-one : 1 < length s → on 1 ≡ 1
      step-one h = step_skip s x v 1 (λ e. omega (arith, ap (λ (z : Node). z.mark) (o.second h)))

      child_in : (i : ℕ) (b : Bool) → 2 ≤ i → i < length s → child_of b (at s i) < length s
      child_in i b a h = omega (arith, o.links i b a h)

  -- one level down
  move : (l : ℕ) (b : Bool) (p : ℕ) → l < n → Stands s l p → step past l b (on p) ≡ on (step s l (turn x v l b) p)
  unfolding on
  move l b p hl w = elim (ℕ_discrete l x) [
    | yes e ↦ at_x e
    | no e ↦ rw (ne_eqb l x e) (elim (ℕ_discrete (at s p).mark x) [
      | yes a ↦
          rw (step_skip s l b p (λ z. e (sym z ∙ a))) (step_skip past l b (on p) (λ z. omega (arith, same-mark (on p), above a)))
      | no a ↦ elim (ℕ_discrete (at s p).mark l) [
        | yes c ↦ ap (step past l b) (stay p a) ∙ step_here past l b p (same-mark p ∙ c) ∙ link_past p b ∙ ap on (sym (step_here s l b p c))
        | no c ↦ ap (step past l b) (stay p a) ∙ step_skip past l b p (λ z. c (sym (same-mark p) ∙ z)) ∙ sym (ap on (step_skip s l b p c) ∙ stay p a)
      ]
    ])
  ]
    where
      stay : (p : ℕ) → ((at s p).mark ≡ x → ⊥) → on p ≡ p
      stay p a = step_skip s x v p a

      above : (at s p).mark ≡ x → x < (at s (on p)).mark
      above a = rw (step_here s x v p a) (omega (arith, o.falls p v (inner n s o p w.lies (omega arith)) w.lies))

      over-x : l ≡ x → x < (at s (on p)).mark
      over-x e = omega (arith, (stands-step n s o x v p hx (rw e at w)).fits)

      at_x : l ≡ x → step past l b (on p) ≡ on (step s l (cond (eqb l x) v b) p)
      at_x e =
          step_skip past l b (on p) (λ z. omega (arith, same-mark (on p), over-x e))
          ∙ sym (stay (on p) (λ z. omega (arith, over-x e)))
          ∙ sym (ap on (ap (λ t. step s l t p) (ap (λ t. cond t v b) (eq-eqb l x e)) ∙ ap (λ t. step s t v p) e))

  past-means : (k l p : ℕ) → l + k ≡ n → Stands s l p → tree_of k past l (on p) ≡ tree_set x v k s l p
  unfolding tree_of tree_set on
  past-means zero l p e w = ap (λ j. leaf (truth j)) (step_skip s x v p (λ z. omega (arith, w.fits)))
  past-means (suc k) l p e w =
      ap₂ fork
      (ap (tree_of k past (suc l)) (move l false p (omega arith) w) ∙ past-means k (suc l) (step s l (turn x v l false) p) (omega arith) (stands-step n s o l (turn x v l false) p (omega arith) w))
      (ap (tree_of k past (suc l)) (move l true p (omega arith) w) ∙ past-means k (suc l) (step s l (turn x v l true) p) (omega arith) (stands-step n s o l (turn x v l true) p (omega arith) w))

  restricted_le : (r : ℕ) → r < length s → 2 ≤ length s → length (canon n (cofactor x v (tree_of n s 0 r))) ≤ length s
  restricted_le r h two =
      let z : x ≡ 0 + x = omega arith in
      let e : tree_of n past 0 (on r) ≡ cofactor x v (tree_of n s 0 r) = past-means n 0 r (omega arith) (record { lies = h; fits = omega arith }) ∙ ap (λ i. tree_set i v n s 0 r) z ∙ tree_set-cofactor x v n s 0 r in
      let a : length (walk (constants n) 0 (tree_of n past 0 (on r))).0 - 2 ≤ length past - 2 =
      adds n past (constants n) past-ordered (constants-good n) (on r) (record { lies = omega (arith, past-long, on-le r h); fits = omega arith }) in
      rw e at ((room-canon n (tree_of n past 0 (on r)) (tree_of-deep n past 0 (on r)) (length s) two).0 (omega (arith, past-long)))

-- a restriction's canonical table is never larger
pub restrict-small : (n x : ℕ) (v : Bool) (f : Tree) → Deep n f → x < n → length (canon n (cofactor x v f)) ≤ length (canon n f)
unfolding meaning
restrict-small n x v f d h = elim (dec_lt 1 (length (canon n f))) [
  | yes two ↦
      let o : Ordered n (canon n f) = canon-ordered n f d in
      let e : tree_of n (canon n f) 0 (length (canon n f) - 1) ≡ f = canon-means n f d in
      rw e at (restricted_le n (canon n f) o x v h (length (canon n f) - 1) (omega (arith, o.some)) (omega arith))
  | no one ↦
      let e : f ≡ konst n false = one_false n f d (omega (arith, (canon-ordered n f d).some)) in
      rw (e, set-konst x n false v) (omega arith)
]
