-- A pair before its descent: its set marks are passed, what is known of it is its node, and else it is split at the lesser mark.
use mathlib.Core.Path.{◌≡◌, sym, ap, ap₂, subst, ◌∙◌}
use mathlib.Core.Bool.{Bool, true, false}
use mathlib.Core.List.{List}
use Prim.Native.Nat.{ℕ, suc, ◌+◌, ◌-◌, ◌*◌, ◌<◌, ◌≤◌, min}
use native.Mathlib.Omega.{arith}
use native.Mathlib.Decide.{dec_lt}
use lib.ListN.{length}
use Rattle.theory.specs.Tree.{fork}
use Rattle.theory.specs.Table.{Node, Table, at, step, walk, Ordered}
use Rattle.theory.specs.Words.{stride, node_at, nodes}
use Rattle.theory.proofs.Step.{Stands, stands-step}
use Rattle.theory.proofs.Words.{length-nodes, at-nodes}
use Rattle.refusal.specs.Limits.{max_nodes}
use Rattle.table.specs.Inspection.{SoundTable}
use Rattle.join.specs.declared.Job.{Job}
use Rattle.join.specs.declared.Pair.{Pair}
use Rattle.join.specs.declared.Cut.{Cut}
use Rattle.join.specs.Task.{Task, step_in, pair_tree, top}
use Rattle.join.specs.Memo.{ways}
use Rattle.join.specs.Joining.{task_of, both, by_left, by_right, Sure, sure, remembered, Answered, Placed, Cuts, Splitting, Has, Parted}
use Rattle.join.proofs.LeafLaws.{step_in_lem}
use Rattle.join.proofs.PairLaws.{mark_most, Past, past, past-tree, walk-level, tree-fork, left-decides, right-decides, both_decide, means_hit}

-- a node of a sound table
module _ (n count : ℕ) (w : List ℕ) (t : SoundTable n count w (count - 1)) (p : ℕ) (h : p < count) where
  pub node-lies : stride * p + 2 < length w
  node-lies = omega (arith, t.long)

  pub node-few : p < max_nodes
  node-few = omega (arith, t.few)

  pub in_table : p < length (nodes count w)
  in_table = omega (arith, length-nodes count w)

  pub mark-is : (node_at w p).mark ≡ (at (nodes count w) p).mark
  mark-is = ap (λ (x : Node). x.mark) (sym (at-nodes count w p h))

  pub node-placed : Placed w p
  node-placed = record { lies = node-lies; mark = omega (arith, mark-is, mark_most n (nodes count w) t.ordered p in_table, t.marks) }

module _ (a b m : List ℕ) (j : Job) (x y : ℕ) (g : Splitting a b m j x y) where
  abbrev T : Task
  T = task_of a b j

  abbrev n : ℕ
  n = j.n

  abbrev A : Table
  A = nodes j.left.count a

  abbrev B : Table
  B = nodes j.right.count b

  oa : Ordered n A
  oa = g.operands.left.ordered

  ob : Ordered n B
  ob = g.operands.right.ordered

  pub left-lies : stride * x + 2 < length a
  left-lies = node-lies n j.left.count a g.operands.left x g.x_in

  pub right-lies : stride * y + 2 < length b
  right-lies = node-lies n j.right.count b g.operands.right y g.y_in

  module _ (x' y' : ℕ) (ex : x' ≡ step_in a j.left.variable.0 j.left.value x) (ey : y' ≡ step_in b j.right.variable.0 j.right.value y) where
    left-past : Past n T.left oa x x'
    left-past = rw (ex ∙ step_in_lem j.left.count a _ _ x g.x_in) (past n T.left oa x (in_table n j.left.count a g.operands.left x g.x_in))

    right-past : Past n T.right ob y y'
    right-past = rw (ey ∙ step_in_lem j.right.count b _ _ y g.y_in) (past n T.right ob y (in_table n j.right.count b g.operands.right y g.y_in))

    x_in' : x' < j.left.count
    x_in' = omega (arith, left-past.lies, length-nodes j.left.count a)

    y_in' : y' < j.right.count
    y_in' = omega (arith, right-past.lies, length-nodes j.right.count b)

    pub known-asks : (ways ≤ length m) × (x' < max_nodes) × (y' < max_nodes)
    known-asks =
        (omega (arith, g.operands.slots, g.operands.right.some), node-few n j.left.count a g.operands.left x' x_in', node-few n j.right.count b g.operands.right y' y_in')

    falls : (l : ℕ) → l ≤ top T x y → (l ≤ top T x' y') × (l ≤ n)
    falls l h = (omega (arith, left-past.falls, right-past.falls), omega (arith, mark_most n A oa x (in_table n j.left.count a g.operands.left x g.x_in)))

    same-walk : (s : Table) (l : ℕ) → l ≤ top T x y → walk s l (pair_tree T l x y) ≡ walk s l (pair_tree T l x' y')
    same-walk s l h = ap (walk s l) (past-tree T oa ob x y x' y' l left-past right-past h (falls l h).1)

    sure-walk : (r : ℕ) → Sure j.op x' y' r → (s : Table) (l : ℕ) → l ≤ n → walk s l (pair_tree T l x' y') ≡ (s, r)
    sure-walk r (both hx hy e) s l h = both_decide T oa ob x' y' l r left-past.lies right-past.lies hx hy h e s
    sure-walk r (by_left hx e) s l h = left-decides T oa ob x' y' l r left-past.lies hx h e s
    sure-walk r (by_right hy e) s l h = right-decides T oa ob x' y' l r right-past.lies hy h e s

    -- what is known of the pair is its node
    pub known_has : (r : ℕ) → Answered j.op m x' y' r → Has T m x y r
    known_has r (sure d) s good knows l h = same-walk s l h ∙ sure-walk r d s l (falls l h).1
    known_has r (remembered d) s good knows l h =
        same-walk s l h ∙ means_hit T oa ob s good x' y' r left-past.lies (knows x' y' r left-past.lies right-past.lies d) l (falls l h).0

    pub both-placed : Placed a x' × Placed b y'
    both-placed = (node-placed n j.left.count a g.operands.left x' x_in', node-placed n j.right.count b g.operands.right y' y_in')

    module _ (inner : x' < 2 → y' < 2 → ⊥) (v : ℕ) (level : v ≡ min (node_at a x').mark (node_at b y').mark) where
      level-top : v ≡ top T x' y'
      level-top = omega (arith, mark-is n j.left.count a g.operands.left x' x_in', mark-is n j.right.count b g.operands.right y' y_in')

      below : v < n
      below = elim (dec_lt x' 2) [
        | no h ↦ omega (arith, level-top, oa.marks x' (omega arith) left-past.lies)
        | yes h ↦ elim (dec_lt y' 2) [
          | no k ↦ omega (arith, level-top, ob.marks y' (omega arith) right-past.lies)
          | yes k ↦ absurd (inner h k)
        ]
      ]

      to-left : (h : Bool) (p : ℕ) → p ≡ step_in a v h x' → p ≡ step A v h x'
      to-left h p e = e ∙ step_in_lem j.left.count a v h x' x_in'

      to-right : (h : Bool) (p : ℕ) → p ≡ step_in b v h y' → p ≡ step B v h y'
      to-right h p e = e ∙ step_in_lem j.right.count b v h y' y_in'

      left-stands : (h : Bool) (p : ℕ) → p ≡ step_in a v h x' → Stands A (suc v) p
      left-stands h p e = rw (to-left h p e) (stands-step n A oa v h x' below (record { lies = left-past.lies; fits = omega (arith, level-top) }))

      right-stands : (h : Bool) (p : ℕ) → p ≡ step_in b v h y' → Stands B (suc v) p
      right-stands h p e = rw (to-right h p e) (stands-step n B ob v h y' below (record { lies = right-past.lies; fits = omega (arith, level-top) }))

      forks : (xl yl xh yh : ℕ) → xl ≡ step_in a v false x' → yl ≡ step_in b v false y' → xh ≡ step_in a v true x' → yh ≡ step_in b v true y'
          → pair_tree T v x' y' ≡ fork (pair_tree T (suc v) xl yl) (pair_tree T (suc v) xh yh)
      forks xl yl xh yh a₁ a₂ a₃ a₄ =
          tree-fork T oa ob x' y' v below left-past.free right-past.free
          ∙ ap₂ fork
          (ap₂ (pair_tree T (suc v)) (sym (to-left false xl a₁)) (sym (to-right false yl a₂)))
          (ap₂ (pair_tree T (suc v)) (sym (to-left true xh a₃)) (sym (to-right true yh a₄)))

  -- else it is split
  pub parted : (p : Pair) → p.left.0 ≡ step_in a j.left.variable.0 j.left.value x → p.right.0 ≡ step_in b j.right.variable.0 j.right.value y
      → (p.left.0 < 2 → p.right.0 < 2 → ⊥) → (c : Cut) → Cuts a b p c → Parted T x y c
  parted p ex ey inner c d = record {
    left_in = subst (λ (z : Pair). z.left.0 < length A) (sym d.pair) (left-past x' y' ex ey).lies;
    right_in = subst (λ (z : Pair). z.right.0 < length B) (sym d.pair) (right-past x' y' ex ey).lies;
    from = omega (arith, level-top x' y' ex ey inner v d.level, (left-past x' y' ex ey).falls, (right-past x' y' ex ey).falls);
    below = below x' y' ex ey inner v d.level;
    level = level-top x' y' ex ey inner v d.level ∙ ap (λ (z : Pair). top T z.left.0 z.right.0) (sym d.pair);
    low-left = left-stands x' y' ex ey inner v d.level false _ d.low-left;
    low-right = right-stands x' y' ex ey inner v d.level false _ d.low-right;
    high-left = left-stands x' y' ex ey inner v d.level true _ d.high-left;
    high-right = right-stands x' y' ex ey inner v d.level true _ d.high-right;
    forks =
        ap (λ (z : Pair). pair_tree T v z.left.0 z.right.0) d.pair
        ∙ forks x' y' ex ey inner v d.level _ _ _ _ d.low-left d.low-right d.high-left d.high-right;
    walks = λ s good l h.
        same-walk x' y' ex ey s l h
        ∙ walk-level T oa ob s good l v x' y'
        (omega (arith, (falls x' y' ex ey l h).0, level-top x' y' ex ey inner v d.level))
        (omega (arith, level-top x' y' ex ey inner v d.level))
        (omega (arith, below x' y' ex ey inner v d.level))
        ∙ ap (λ (z : Pair). walk s v (pair_tree T v z.left.0 z.right.0)) (sym d.pair);
  }
    where
      x' : ℕ
      x' = p.left.0

      y' : ℕ
      y' = p.right.0

      v : ℕ
      v = c.level.0
