-- The whole join: from the constants and an empty memory to the canonical table.
use mathlib.Core.Path.{◌≡◌, sym, ap, ap₂, subst, ◌∙◌}
use mathlib.Core.List.{List}
use Prim.Native.Nat.{ℕ, ◌+◌, ◌-◌, ◌*◌, ◌/◌, ◌<◌, ◌≤◌}
use native.Mathlib.Omega.{arith}
use native.Mathlib.Nat.{zero-add, sub-zero}
use lib.Dec.{ltb}
use lib.ListN.{length, get_or, take, replicate, get_or-replicate}
use Rattle.theory.specs.Tree.{Deep, pointwise, cofactor}
use Rattle.theory.specs.Table.{tree_of, walk, constants, canon, meaning, Ordered, Good}
use Rattle.theory.specs.Words.{nodes}
use Rattle.theory.proofs.Words.{length-nodes}
use Rattle.theory.proofs.Canon.{constants-good}
use Rattle.theory.proofs.Again.{tree_set, tree_set-cofactor}
use Rattle.refusal.specs.Buffers.{padded}
use Rattle.making.specs.Made.{Leaves}
use Rattle.std.specs.Prelude.{Option, Some, None, Result}
use Rattle.table.specs.declared.BddPointer.{BddPointer}
use Rattle.pool.specs.Pool.{Answers, whole_table}
use Rattle.pool.proofs.WholeLaws.{whole_leaves}
use Rattle.join.specs.declared.Job.{Job}
use Rattle.join.specs.Task.{Operand, Task, op_of, tree_by, pair_of, pair_tree}
use Rattle.join.specs.Memo.{ways, slot_of, Remembers}
use Rattle.join.specs.Joining.{task_of, joined_by, Joining, Joins, Given}
use Rattle.join.proofs.MemoLaws.{slot-within}
use Rattle.join.proofs.PairLaws.{tree-deep}

-- an operand's root means its table, with the mark set
root-means : (n : ℕ) (A : Operand) (count : ℕ) → length A.table ≡ count → tree_by A (n - 0) 0 (count - 1) ≡ cofactor A.mark A.value (meaning n A.table)
unfolding meaning
root-means n A count e =
    ap₂ (λ x k. tree_set x A.value k A.table 0 (count - 1)) (sym (zero-add A.mark)) (sub-zero n)
    ∙ tree_set-cofactor A.mark A.value n A.table 0 (count - 1)
    ∙ ap (λ k. cofactor A.mark A.value (tree_of n A.table 0 (k - 1))) (sym e)

-- an empty memory holds nothing
pub nothing_held : (m m₁ : List ℕ) (x y r : ℕ) → ways ≤ length m → m₁ ≡ padded (take 0 m) (length m) → length m₁ ≡ length m → Remembers m₁ x y r → ⊥
unfolding padded
nothing_held m m₁ x y r h is e w =
    let i : ℕ = ways * slot_of (length m₁ / ways) x y + w.way in
    let within : ways * slot_of (length m₁ / ways) x y + w.way < length m = omega (arith, slot-within (length m₁ / ways) x y (omega arith), w.within) in
    let zeros : m₁ ≡ replicate (length m) 0 = is ∙ ap (λ k. replicate {A = ℕ} k 0) (sub-zero (length m)) in
    let none : get_or m₁ (ways * slot_of (length m₁ / ways) x y + w.way) 0 ≡ 0 =
    ap (λ l. get_or l (ways * slot_of (length m₁ / ways) x y + w.way) 0) zeros ∙ get_or-replicate {A = ℕ} (length m) (ways * slot_of (length m₁ / ways) x y + w.way) 0 0 within in
    omega (arith, w.entry, none)

-- the roots' operation is the whole join's function
pub tree_is : (a b : List ℕ) (j : Job) → pair_tree (task_of a b j) 0 (j.left.count - 1) (j.right.count - 1) ≡ joined_by a b j
unfolding pair_of
tree_is a b j =
    ap₂ (pointwise (op_of j.op))
    (root-means j.n (task_of a b j).left j.left.count (length-nodes j.left.count a))
    (root-means j.n (task_of a b j).right j.right.count (length-nodes j.right.count b))

module _ (a b out m : List ℕ) (j : Job) (g : Given a b out m j) where
  abbrev T : Task
  T = task_of a b j

  abbrev n : ℕ
  n = j.n

  abbrev x : ℕ
  x = j.left.count - 1

  abbrev y : ℕ
  y = j.right.count - 1

  oa : Ordered n (nodes j.left.count a)
  oa = g.operands.left.ordered

  ob : Ordered n (nodes j.right.count b)
  ob = g.operands.right.ordered

  deep : Deep n (joined_by a b j)
  deep = subst (Deep n) (tree_is a b j) (subst (λ k. Deep k (pair_tree T 0 x y)) (sub-zero n) (tree-deep T oa ob 0 x y))

  module _ (out₁ m₁ : List ℕ) (n₁ : length out₁ ≡ length out) (e₁ : length m₁ ≡ length m) (starts : nodes 2 out₁ ≡ constants n) (clear : m₁ ≡ padded (take 0 m) (length m)) where
    pub start_ready : Joining a b out₁ m₁ j 0 2 x y
    start_ready = record {
      operands = record { left = g.operands.left; right = g.operands.right; slots = omega (arith, g.operands.slots) };
      few = g.few;
      pushing = record { few = omega (arith, g.few); long = omega (arith, g.long); fits = g.some };
      good = subst (Good n) (sym starts) (constants-good n);
      left = record { lies = omega (arith, length-nodes j.left.count a, g.operands.left.some); fits = omega arith };
      right = record { lies = omega (arith, length-nodes j.right.count b, g.operands.right.some); fits = omega arith };
      known = λ x' y' r hx hy h. absurd (nothing_held m m₁ x' y' r (omega (arith, g.operands.slots, g.operands.right.some)) clear e₁ h);
    }

    whole-walk : walk (nodes 2 out₁) 0 (pair_tree T 0 x y) ≡ walk (constants n) 0 (joined_by a b j)
    whole-walk = ap₂ (λ s t. walk s 0 t) starts (tree_is a b j)

    pub joined_left : (out₂ m₂ : List ℕ) (answer : Option (BddPointer × ℕ)) → length out₂ ≡ length out₁ → Joins a b out₁ out₂ m₂ j 0 2 x y answer → (tabled : Result ℕ ℕ) → tabled ≡ whole_table answer
        → Leaves (ltb j.room (length (canon n (joined_by a b j)))) 0 (canon n (joined_by a b j)) out₂ tabled
    joined_left out₂ m₂ answer same joins tabled is = rw is (whole_leaves n j.room (joined_by a b j) deep g.some out₂ (omega (arith, g.long)) answer (answers answer joins))
      where
        answers : (answer : Option (BddPointer × ℕ)) → Joins a b out₁ out₂ m₂ j 0 2 x y answer → Answers (walk (constants n) 0 (joined_by a b j)) j.room out₂ answer
        answers (Some (r, k)) c = rw whole-walk at c.holds
        answers None c = rw whole-walk at c
