-- The walk of a whole function from the constants leaves its canonical table, or has no room.
use Rattle.std.proofs.Common.{◌≡◌, refl, sym, ap, subst, ◌∙◌, List, [], ◌∷◌, ℕ, zero, suc, ◌*◌, ◌<◌, ◌≤◌, length, arith}
use Rattle.std.specs.Prelude.{false, Option, Some, None, ltb}
use native.Mathlib.Decide.{dec_lt}
use borrow.Author.Tests.{lt-ltb, le-ltb, ne_eqb}
use Rattle.theory.specs.Tree.{Tree, Deep}
use Rattle.theory.specs.Table.{Table, walk, constants, canon, cut, Good}
use Rattle.theory.specs.Words.{stride, nodes}
use Rattle.theory.proofs.Words.{length-nodes, at-nodes}
use Rattle.theory.proofs.Walk.{sound}
use Rattle.theory.proofs.Canon.{constants-good}
use Rattle.theory.proofs.Again.{room-canon}
use Rattle.refusal.specs.Limits.{min_room}
use Rattle.table.specs.declared.BddPointer.{BddPointer}
use Rattle.making.specs.Made.{Leaves}
use Rattle.pool.specs.Pool.{Holds, Answers, cut_count, whole_table}

count-root : (p k : ℕ) → cut_count (suc p) k ≡ k
unfolding cut_count
count-root p k = rw (ne_eqb (suc p) 0 (λ e. omega arith))

module _ (n room : ℕ) (g : Tree) (deep : Deep n g) (some : min_room ≤ room) (out : List ℕ) (long : stride * room ≤ length out) where
  over : room < length (walk (constants n) 0 g).0 → room < length (canon n g)
  over h = elim (dec_lt room (length (canon n g))) [
    | yes k ↦ k
    | no k ↦ absurd (let z : ⊥ = omega (arith, (room-canon n g deep room some).1 (omega arith)) in z)
  ]

  module _ (r k : ℕ) (h : Holds (walk (constants n) 0 g) room out r k) where
    good : Good n (nodes k out)
    good = subst (λ (z : Table × ℕ). Good n z.0) h.is (sound n n g deep 0 (omega arith) (constants n) (constants-good n)).good

    canon-is : canon n g ≡ cut n (nodes k out, r)
    unfolding canon
    canon-is = ap (cut n) h.is

    fits : length (canon n g) ≤ room
    fits =
        let short : length (walk (constants n) 0 g).0 ≤ room = omega (arith, ap (λ (z : Table × ℕ). length z.0) h.is, length-nodes k out, h.fits) in
        (room-canon n g deep room some).0 short

    cut-nodes : (p : ℕ) → nodes (cut_count p k) out ≡ cut n (nodes k out, p)
    unfolding cut_count nodes
    cut-nodes zero = ap (λ x. x ∷ []) (sym (at-nodes k out 0 (omega (arith, good.both, length-nodes k out))) ∙ good.ordered.first)
    cut-nodes (suc p) = ap (λ c. nodes c out) (count-root p k)

    count_fits : (p : ℕ) → cut_count p k ≤ k
    unfolding cut_count
    count_fits zero = omega (arith, good.both, length-nodes k out)
    count_fits (suc p) = omega (arith, count-root p k)

    counted : (stride * cut_count r k ≤ length out) × (nodes (cut_count r k) out ≡ canon n g) × (ltb room (length (canon n g)) ≡ false)
    counted = (omega (arith, count_fits r, h.fits, long), cut-nodes r ∙ sym canon-is, le-ltb _ _ fits)

  pub whole_leaves : (answer : Option (BddPointer × ℕ)) → Answers (walk (constants n) 0 g) room out answer → Leaves (ltb room (length (canon n g))) 0 (canon n g) out (whole_table answer)
  whole_leaves (Some (r, k)) h = counted r.0 k h
  whole_leaves None h = (lt-ltb _ _ (over h), refl)
