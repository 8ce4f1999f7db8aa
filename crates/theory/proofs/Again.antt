-- What the core function `join` rests on: levels may be skipped, constants and remembered nodes are answered at once, and a walk only grows the table.
use mathlib.Core.Path.{◌≡◌, refl, sym, ap, ◌∙◌}
use mathlib.Core.Logic.{◌↔◌}
use mathlib.Core.Bool.{Bool, true, false, cond}
use Prim.Native.Nat.{ℕ, zero, suc, ◌+◌, ◌≤◌, ◌<◌}
use native.Mathlib.Omega.{arith}
use lib.Dec.{eqb}
use lib.ListN.{length, length-append}
use borrow.Author.Tests.{eq-eqb, ne_eqb}
use Rattle.theory.specs.Tree.{Tree, leaf, fork, Deep, cofactor, konst}
use Rattle.theory.specs.Table.{Table, step, tree_of, truth, num, walk, constants, canon, cut, Good}
use Rattle.theory.proofs.Find.{mk-same}
use Rattle.theory.proofs.Walk.{Walked, sound, found}
use Rattle.theory.proofs.Canon.{Canonical, canonical}

-- a second walk over the same tree finds all of it
pub walk_again : (n k : ℕ) (t : Tree) → Deep k t → (l : ℕ) → l + k ≡ n → (s : Table) → Good n s → walk (walk s l t).0 l t ≡ walk s l t
walk_again n k t d l e s g = go (walk s l t) (sound n k t d l e s g)
  where
    go : (r : Table × ℕ) → Walked n s k l t r → walk r.0 l t ≡ r
    go r a = ap (walk r.0 l) (sym a.means) ∙ found n r.0 a.good k l r.1 e a.stands

-- a level at which both ways are one tree makes no node
pub walk_skip : (n k : ℕ) (t : Tree) → Deep k t → (l : ℕ) → suc l + k ≡ n → (s : Table) → Good n s → walk s l (fork t t) ≡ walk s (suc l) t
unfolding walk
walk_skip n k t d l e s g = rw (walk_again n k t d (suc l) e s g) (mk-same _ l _)

pub walk-konst : (k : ℕ) (b : Bool) (s : Table) (l : ℕ) → walk s l (konst k b) ≡ (s, num b)
unfolding walk konst
walk-konst zero b s l = refl
walk-konst (suc k) b s l = rw (walk-konst k b s (suc l), walk-konst k b s (suc l)) (mk-same s l (num b))

-- a walk only grows the table, so that a table over its room stays over it
pub walk_grows : (n k : ℕ) (t : Tree) → Deep k t → (l : ℕ) → l + k ≡ n → (s : Table) → Good n s → length s ≤ length (walk s l t).0
walk_grows n k t d l e s g =
    let a : Walked n s k l t (walk s l t) = sound n k t d l e s g in
    omega (arith, ap length a.grown, length-append s a.more)

-- the room: a build in room nodes fails exactly if the canonical table has more
room_cut : (n : ℕ) (t : Tree) (r : Table × ℕ) → Canonical n t r → (room : ℕ) → 2 ≤ room → (length r.0 ≤ room) ↔ (length (cut n r) ≤ room)
room_cut n t (s, zero) m room h = ((λ a. omega arith), (λ a. omega (arith, ap length (m.plain (omega arith)))))
room_cut n t (s, suc p) m room h = ((λ a. a), (λ a. a))

pub room-canon : (n : ℕ) (t : Tree) → Deep n t → (room : ℕ) → 2 ≤ room → (length (walk (constants n) 0 t).0 ≤ room) ↔ (length (canon n t) ≤ room)
unfolding canon
room-canon n t d room h = room_cut n t (walk (constants n) 0 t) (canonical n t d) room h

-- an operand that has mark x set to v on the way down
abbrev pub turn : ℕ → Bool → ℕ → Bool → Bool
turn x v l b = cond (eqb l x) v b

unfoldable pub tree_set : ℕ → Bool → ℕ → Table → ℕ → ℕ → Tree
tree_set x v zero s l p = leaf (truth p)
tree_set x v (suc k) s l p = fork (tree_set x v k s (suc l) (step s l (turn x v l false) p)) (tree_set x v k s (suc l) (step s l (turn x v l true) p))

pub tree_set-past : (x : ℕ) (v : Bool) (k : ℕ) (s : Table) (l p : ℕ) → x < l → tree_set x v k s l p ≡ tree_of k s l p
unfolding tree_set tree_of
tree_set-past x v zero s l p h = refl
tree_set-past x v (suc k) s l p h =
    rw (ne_eqb l x (λ e. omega arith), tree_set-past x v k s (suc l) (step s l false p) (omega arith), tree_set-past x v k s (suc l) (step s l true p) (omega arith))

pub tree_set-cofactor : (i : ℕ) (v : Bool) (k : ℕ) (s : Table) (l p : ℕ) → tree_set (l + i) v k s l p ≡ cofactor i v (tree_of k s l p)
unfolding tree_set tree_of cofactor
tree_set-cofactor i v zero s l p = refl
tree_set-cofactor zero true (suc k) s l p = rw (eq-eqb l (l + 0) (omega arith), tree_set-past (l + 0) true k s (suc l) (step s l true p) (omega arith))
tree_set-cofactor zero false (suc k) s l p = rw (eq-eqb l (l + 0) (omega arith), tree_set-past (l + 0) false k s (suc l) (step s l false p) (omega arith))
tree_set-cofactor (suc i) v (suc k) s l p =
    let x : l + suc i ≡ suc l + i = omega arith in
    let lo : tree_set (l + suc i) v k s (suc l) (step s l false p) ≡ cofactor i v (tree_of k s (suc l) (step s l false p)) = rw x (tree_set-cofactor i v k s (suc l) (step s l false p)) in
    let hi : tree_set (l + suc i) v k s (suc l) (step s l true p) ≡ cofactor i v (tree_of k s (suc l) (step s l true p)) = rw x (tree_set-cofactor i v k s (suc l) (step s l true p)) in
    rw (ne_eqb l (l + suc i) (λ e. omega arith), lo, hi)
