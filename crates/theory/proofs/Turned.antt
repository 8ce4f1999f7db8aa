-- A node's function with a mark set on the way down and its answers changed: what the core function `carry` rests on.
use mathlib.Core.Path.{◌≡◌, refl, sym, ap, ap₂, subst, ◌∙◌}
use mathlib.Core.Logic.{◌⊎◌, inl, inr}
use mathlib.Core.Bool.{Bool, true, false, cond}
use mathlib.Core.List.{[], ◌∷◌, ◌++◌}
use Prim.Native.Nat.{ℕ, zero, suc, ◌+◌, ◌-◌, ◌/◌, ◌≤◌}
use native.Mathlib.Omega.{arith}
use native.Mathlib.Nat.{add-zero, zero-add, suc-add}
use native.Mathlib.Decide.{ℕ_discrete}
use lib.ListN.{length, length-append}
use Rattle.theory.specs.Mask.{odd}
use Rattle.theory.specs.Tree.{Tree, leaf, fork, Deep, look, mapped, cofactor, lifted}
use Rattle.theory.specs.Table.{node, Table, at, step, tree_of, truth, grow, mk, walk, Good}
use Rattle.theory.proofs.Step.{step_skip, tree_of-append}
use Rattle.theory.proofs.Find.{Fresh, Present, grow-cases, mk-same, mk-other}
use Rattle.theory.proofs.Walk.{Walked, sound, found, stands_old}
use Rattle.theory.proofs.Again.{turn, tree_set, tree_set-cofactor}
use Rattle.theory.proofs.Levels.{lifted-walk}

pub mapped-deep : (f : Bool → Bool) (k : ℕ) (t : Tree) → Deep k t → Deep k (mapped f t)
unfolding mapped
mapped-deep f zero (leaf b) d = tt
mapped-deep f zero (fork lo hi) d = absurd d
mapped-deep f (suc k) (leaf b) d = absurd d
mapped-deep f (suc k) (fork lo hi) d = (mapped-deep f k lo d.0, mapped-deep f k hi d.1)

pub mapped-look : (f : Bool → Bool) (t : Tree) (c : ℕ) → look (mapped f t) c ≡ f (look t c)
unfolding mapped look
mapped-look f (leaf b) c = refl
mapped-look f (fork lo hi) c =
    rw (mapped-look f hi (c / 2), mapped-look f lo (c / 2))
    (elim (odd c) as (λ b. cond b (f (look hi (c / 2))) (f (look lo (c / 2))) ≡ f (cond b (look hi (c / 2)) (look lo (c / 2)))) [ true ↦ refl | false ↦ refl ])

pub mapped-same : (t : Tree) → mapped (λ b. b) t ≡ t
unfolding mapped
mapped-same (leaf b) = refl
mapped-same (fork lo hi) = ap₂ fork (mapped-same lo) (mapped-same hi)

-- a mark that the function has not
pub cofactor-past : (k i : ℕ) (b : Bool) (t : Tree) → Deep k t → k ≤ i → cofactor i b t ≡ t
unfolding cofactor
cofactor-past zero i b (leaf c) d h = refl
cofactor-past zero i b (fork lo hi) d h = absurd d
cofactor-past (suc k) i b (leaf c) d h = absurd d
cofactor-past (suc k) zero b (fork lo hi) d h = absurd (let z : ⊥ = omega arith in z)
cofactor-past (suc k) (suc i) b (fork lo hi) d h = ap₂ fork (cofactor-past k i b lo d.0 (omega arith)) (cofactor-past k i b hi d.1 (omega arith))

module _ (x : ℕ) (v : Bool) (f : Bool → Bool) where
  -- node p's function of the k marks from l on, with mark x set to v and its answers changed by f
  pub turned : ℕ → Table → ℕ → ℕ → Tree
  turned k s l p = mapped f (tree_set x v k s l p)

  set-deep : (k : ℕ) (s : Table) (l p : ℕ) → Deep k (tree_set x v k s l p)
  unfolding tree_set
  set-deep zero s l p = tt
  set-deep (suc k) s l p = (set-deep k s (suc l) (step s l (turn x v l false) p), set-deep k s (suc l) (step s l (turn x v l true) p))

  pub turned-deep : (k : ℕ) (s : Table) (l p : ℕ) → Deep k (turned k s l p)
  unfolding turned
  turned-deep k s l p = mapped-deep f k _ (set-deep k s l p)

  pub turned_bottom : (s : Table) (l p : ℕ) → turned zero s l p ≡ leaf (f (truth p))
  unfolding turned tree_set mapped
  turned_bottom s l p = refl

  pub turned-fork : (k : ℕ) (s : Table) (l p : ℕ) → turned (suc k) s l p ≡ fork (turned k s (suc l) (step s l (turn x v l false) p)) (turned k s (suc l) (step s l (turn x v l true) p))
  unfolding turned tree_set mapped
  turned-fork k s l p = refl

  pub turned-whole : (k : ℕ) (s : Table) (p : ℕ) → turned k s 0 p ≡ mapped f (cofactor x v (tree_of k s 0 p))
  unfolding turned
  turned-whole k s p = ap (λ i. mapped f (tree_set i v k s 0 p)) (sym (zero-add x)) ∙ ap (mapped f) (tree_set-cofactor x v k s 0 p)

  -- levels that the node's mark skips
  turned-lifted : (j k : ℕ) (s : Table) (l p : ℕ) → l + j ≤ (at s p).mark → turned (j + k) s l p ≡ lifted j (turned k s (l + j) p)
  unfolding lifted
  turned-lifted zero k s l p h = rw (zero-add k, add-zero l)
  turned-lifted (suc j) k s l p h =
      let e : suc l + j ≡ l + suc j = omega arith in
      let ne : ((at s p).mark ≡ l → ⊥) = λ d. omega arith in
      rw (suc-add j k, ← e)
      (turned-fork (j + k) s l p
      ∙ rw (step_skip s l (turn x v l false) p ne, step_skip s l (turn x v l true) p ne, turned-lifted j k s (suc l) p (omega arith)))

  pub turned-jump : (n : ℕ) (s o : Table) → Good n o → (l p : ℕ) → l ≤ (at s p).mark → (at s p).mark ≤ n
      → walk o l (turned (n - l) s l p) ≡ walk o (at s p).mark (turned (n - (at s p).mark) s (at s p).mark p)
  turned-jump n s o g l p h i =
      let e : n - l ≡ ((at s p).mark - l) + (n - (at s p).mark) = omega arith in
      let y : l + ((at s p).mark - l) ≡ (at s p).mark = omega arith in
      ap (λ z. walk o l (turned z s l p)) e
      ∙ ap (walk o l) (turned-lifted ((at s p).mark - l) (n - (at s p).mark) s l p (omega arith))
      ∙ lifted-walk n ((at s p).mark - l) (n - (at s p).mark) (turned (n - (at s p).mark) s (l + ((at s p).mark - l)) p) (turned-deep (n - (at s p).mark) s (l + ((at s p).mark - l)) p) l (omega arith) o g
      ∙ ap (λ z. walk o z (turned (n - (at s p).mark) s z p)) y

-- what a walk finds in a table it finds in a larger one
pub walk_stays : (n : ℕ) (s u : Table) → Good n s → Good n (s ++ u) → (k l p : ℕ) (t : Tree) → Deep k t → l + k ≡ n → walk s l t ≡ (s, p) → walk (s ++ u) l t ≡ (s ++ u, p)
walk_stays n s u g g' k l p t d e w = go (subst (λ r. Walked n s k l t r) w (sound n k t d l e s g))
  where
    go : Walked n s k l t (s, p) → walk (s ++ u) l t ≡ (s ++ u, p)
    go a =
        ap (walk (s ++ u) l) (sym a.means ∙ sym (tree_of-append n s g.ordered u k l p e a.stands))
        ∙ found n (s ++ u) g' k l p e (stands_old s u l p a.stands)

pub mk_grows : (s : Table) (l p q : ℕ) → length s ≤ length (mk s l p q).0
mk_grows s l p q = elim (ℕ_discrete p q) [
  | yes e ↦ rw (← e, mk-same s l p) (omega arith)
  | no e ↦ rw (mk-other s l p q e) (go (grow-cases s (node l p q)))
]
  where
    go : Fresh s (node l p q) ⊎ Present s (node l p q) → length s ≤ length (grow s (node l p q))
    go (inl m) = rw m.table (omega (arith, length-append s (node l p q ∷ [])))
    go (inr m) = rw m.table (omega arith)

-- a walk's second half, its first one known
pub walk-fork : (s : Table) (l : ℕ) (lo hi : Tree) (s₁ : Table) (p : ℕ) → walk s (suc l) lo ≡ (s₁, p) → walk s l (fork lo hi) ≡ mk (walk s₁ (suc l) hi).0 l p (walk s₁ (suc l) hi).1
unfolding walk
walk-fork s l lo hi s₁ p e = rw e
