-- Canonical tables as operands of the cores, and the cores' answers as canonical tables.
use mathlib.Core.Path.{◌≡◌, refl, sym, ap, ap₂, subst, ◌∙◌}
use mathlib.Core.Bool.{Bool, true, false, not, ◌&&◌}
use mathlib.Core.List.{List, ◌++◌}
use Prim.Native.Nat.{ℕ, zero, suc, ◌-◌, ◌*◌, ◌≤◌}
use native.Mathlib.Omega.{arith}
use lib.Dec.{ltb}
use lib.ListN.{length, take, length-append}
use lib.Seq.{length-take-le}
use borrow.Author.Tests.{ltb-true, ltb-false}
use Rattle.std.specs.Prelude.{Option, Result, Ok, Err}
use Rattle.std.specs.Result.{result_ok}
use Rattle.theory.specs.Tree.{Tree, leaf, fork, Deep, pointwise, konst, same_tree, cofactor, and_not, support_of}
use Rattle.theory.specs.Table.{canon, meaning, marks_in, Ordered}
use Rattle.theory.specs.Words.{stride, nodes, words_of}
use Rattle.theory.proofs.Words.{length-nodes, nodes-words, words-nodes}
use Rattle.theory.proofs.Canon.{canon-ordered, canon-means}
use Rattle.theory.proofs.Small.{meaning-deep}
use Rattle.theory.proofs.Cases.{pointwise-deep, cofactor-deep}
use Rattle.theory.proofs.Turned.{cofactor-past}
use Rattle.theory.proofs.Support.{same_refl, same_equal, marks-support}
use Rattle.refusal.specs.Limits.{min_room, max_marks, max_nodes}
use Rattle.valuation.specs.declared.BddVariable.{BddVariable}
use Rattle.table.specs.Inspection.{SoundTable}
use Rattle.making.specs.Made.{Leaves}
use Rattle.counts.specs.Marked.{Marking}
use Rattle.join.specs.declared.Job.{Job}
use Rattle.join.specs.declared.Operation.{Operation}
use Rattle.join.specs.declared.Operation.TheVariants.{AndNot}
use Rattle.join.specs.Task.{op_of, truth_table}
use Rattle.join.specs.Jobs.{pair_job, mark_job}
use Rattle.join.specs.Joining.{Operands, Given, joined_by}
use Rattle.join.proofs.TruthLaws.{and_not-table}
use Rattle.implies.specs.Implying.{SaysNo}
use Rattle.rule.specs.Rule.{inside}
use Rattle.held.specs.Held.{tree_in, Canonical, Tab, Gives}

-- ---- a canonical table
module _ (n room : ℕ) (w : List ℕ) (k : ℕ) (c : Canonical n room w k) where
  pub tree-deep : Deep n (tree_in n w k)
  tree-deep = meaning-deep n (nodes k w)

  tree-count : k ≡ length (canon n (tree_in n w k))
  tree-count = sym (length-nodes k w) ∙ ap length c.table

  tree-ordered : Ordered n (nodes k w)
  tree-ordered = subst (Ordered n) (sym c.table) (canon-ordered n (tree_in n w k) tree-deep)

  pub tree-some : 1 ≤ k
  tree-some = omega (arith, tree-count, (canon-ordered n (tree_in n w k) tree-deep).some)

  pub sound : (r : ℕ) → r ≡ k - 1 → SoundTable n k w r
  sound r e = record {
    marks = c.marks;
    some = omega (arith, tree-some);
    few = omega (arith, c.fits, c.few);
    long = c.lies;
    ordered = tree-ordered;
    last = e;
  }

  pub marking : Marking n k w
  marking = record { marks = c.marks; few = omega (arith, c.fits, c.few); long = c.lies; ordered = tree-ordered }

  pub marks-read : (r : ℕ) → r ≡ marks_in (nodes k w) k → r ≡ support_of n (tree_in n w k)
  marks-read r e =
      e
      ∙ ap (marks_in (nodes k w)) tree-count
      ∙ ap (λ s. marks_in s (length (canon n (tree_in n w k)))) c.table
      ∙ marks-support n (tree_in n w k) tree-deep

  pub tab-of : Tab n room w k (tree_in n w k)
  tab-of = record { deep = tree-deep; lies = c.lies; fits = c.fits; table = c.table }

-- ---- the canonical table of a function
module _ (n room : ℕ) (w : List ℕ) (k : ℕ) (g : Tree) (t : Tab n room w k g) where
  pub tab-means : tree_in n w k ≡ g
  tab-means = ap (meaning n) t.table ∙ canon-means n g t.deep

  pub tab-count : k ≡ length (canon n g)
  tab-count = sym (length-nodes k w) ∙ ap length t.table

  pub canonical_of : n ≤ max_marks → min_room ≤ room → room ≤ max_nodes → Canonical n room w k
  canonical_of a b d = record {
    marks = a;
    some = b;
    few = d;
    lies = t.lies;
    fits = t.fits;
    table = t.table ∙ ap (canon n) (sym tab-means);
  }

-- ---- a core's answer
pub gives : (n room : ℕ) (g : Tree) → Deep n g → (out : List ℕ) (r : Result ℕ ℕ) → Leaves (ltb room (length (canon n g))) 0 (canon n g) out r → (z : Option ℕ) → z ≡ result_ok r → Gives n room out g z
gives n room g deep out (Ok k) x z e =
    rw e
    (record {
      deep = deep;
      lies = x.0;
      fits = omega (arith, ltb-false room (length (canon n g)) x.2, ap length x.1, length-nodes k out);
      table = x.1;
    })
gives n room g deep out (Err p) x z e = rw e (ltb-true room (length (canon n g)) x.0)

-- ---- operands of a job
module _ (n room : ℕ) (a : List ℕ) (k : ℕ) (ca : Canonical n room a k) (b : List ℕ) (j : ℕ) (cb : Canonical n room b j) where
  pub operands : (m : List ℕ) → 4 * j ≤ length m → (job : Job) → job.n ≡ n → job.left.count ≡ k → job.right.count ≡ j → Operands a b m job
  operands m h job en el er =
      rw (en, el, er)
      (record {
        left = sound n room a k ca (k - 1) refl;
        right = sound n room b j cb (j - 1) refl;
        slots = omega arith;
      })

  pub given : (m out : List ℕ) → 4 * j ≤ length m → stride * room ≤ length out → (job : Job) → job.n ≡ n → job.left.count ≡ k → job.right.count ≡ j → job.room ≡ room → Given a b out m job
  given m out h i job en el er e = record {
    operands = operands m h job en el er;
    some = omega (arith, ca.some);
    few = omega (arith, ca.few);
    long = omega arith;
  }

-- one table at both values of a mark
pub mark-gives : (n room : ℕ) (w : List ℕ) (k : ℕ) (op : Operation) (m : BddVariable) (out : List ℕ) (r : Result ℕ ℕ) (job : Job) → job ≡ mark_job n op k m room
    → Leaves (ltb job.room (length (canon job.n (joined_by w w job)))) 0 (canon job.n (joined_by w w job)) out r
    → (z : Option ℕ) → z ≡ result_ok r → Gives n room out (pointwise (op_of (truth_table op)) (cofactor m.0 false (tree_in n w k)) (cofactor m.0 true (tree_in n w k))) z
mark-gives n room w k op m out r job e x z ez =
    let deep : Deep n (tree_in n w k) = meaning-deep n (nodes k w) in
    gives n room (pointwise (op_of (truth_table op)) (cofactor m.0 false (tree_in n w k)) (cofactor m.0 true (tree_in n w k)))
    (pointwise-deep (op_of (truth_table op)) n (cofactor m.0 false (tree_in n w k)) (cofactor m.0 true (tree_in n w k)) (cofactor-deep n m.0 false (tree_in n w k) deep) (cofactor-deep n m.0 true (tree_in n w k) deep))
    out r (subst (λ i. Leaves (ltb i.room (length (canon i.n (joined_by w w i)))) 0 (canon i.n (joined_by w w i)) out r) e x) z ez

-- two tables as they are
pair-tree : (n room : ℕ) (a : List ℕ) (k : ℕ) (b : List ℕ) (j : ℕ) (job : Job) → job ≡ pair_job n AndNot k j room → joined_by a b job ≡ pointwise and_not (tree_in n a k) (tree_in n b j)
pair-tree n room a k b j job e =
    ap (joined_by a b) e
    ∙ ap₂ (pointwise (op_of (truth_table AndNot))) (cofactor-past n n false (tree_in n a k) (meaning-deep n (nodes k a)) (omega arith)) (cofactor-past n n false (tree_in n b j) (meaning-deep n (nodes j b)) (omega arith))
    ∙ ap (λ o. pointwise o (tree_in n a k) (tree_in n b j)) and_not-table

pub pair-gives : (n room : ℕ) (a : List ℕ) (k : ℕ) (b : List ℕ) (j : ℕ) (out : List ℕ) (r : Result ℕ ℕ) (job : Job) → job ≡ pair_job n AndNot k j room
    → Leaves (ltb job.room (length (canon job.n (joined_by a b job)))) 0 (canon job.n (joined_by a b job)) out r
    → (z : Option ℕ) → z ≡ result_ok r → Gives n room out (pointwise and_not (tree_in n a k) (tree_in n b j)) z
pair-gives n room a k b j out r job e x z ez =
    gives n room (pointwise and_not (tree_in n a k) (tree_in n b j)) (pointwise-deep and_not n (tree_in n a k) (tree_in n b j) (meaning-deep n (nodes k a)) (meaning-deep n (nodes j b)))
    out r
    (subst (λ g. Leaves (ltb room (length (canon n g))) 0 (canon n g) out r) (pair-tree n room a k b j (pair_job n AndNot k j room) refl)
    (subst (λ i. Leaves (ltb i.room (length (canon i.n (joined_by a b i)))) 0 (canon i.n (joined_by a b i)) out r) e x))
    z ez

-- ---- no of every case, as the rule's inclusion
no_test : (n : ℕ) (g : Tree) (z : Bool) → SaysNo n g z → z ≡ same_tree g (konst n false)
no_test n g true e = sym (ap (λ t. same_tree t (konst n false)) e ∙ same_refl (konst n false))
no_test n g false e =
    (elim (same_tree g (konst n false)) as (λ v. same_tree g (konst n false) ≡ v → false ≡ v) [ true ↦ λ d. absurd (e (same_equal g (konst n false) d)) | false ↦ λ d. refl ]) refl

inside_is : (n : ℕ) (f g : Tree) → Deep n f → Deep n g → same_tree (pointwise and_not f g) (konst n false) ≡ inside f g
unfolding inside pointwise konst same_tree
inside_is zero (leaf true) (leaf true) d d' = refl
inside_is zero (leaf true) (leaf false) d d' = refl
inside_is zero (leaf false) (leaf true) d d' = refl
inside_is zero (leaf false) (leaf false) d d' = refl
inside_is zero (leaf a) (fork lo hi) d d' = absurd d'
inside_is zero (fork lo hi) g d d' = absurd d
inside_is (suc n) (leaf a) g d d' = absurd d
inside_is (suc n) (fork lo hi) (leaf b) d d' = absurd d'
inside_is (suc n) (fork lo hi) (fork lo' hi') d d' = ap₂ (λ u v. u && v) (inside_is n lo lo' d.0 d'.0) (inside_is n hi hi' d.1 d'.1)

says_inside : (n : ℕ) (f g : Tree) → Deep n f → Deep n g → (z : Bool) → SaysNo n (pointwise and_not f g) z → z ≡ inside f g
says_inside n f g d d' z s = no_test n (pointwise and_not f g) z s ∙ inside_is n f g d d'

pub pair-inside : (n room : ℕ) (a : List ℕ) (k : ℕ) (b : List ℕ) (j : ℕ) (job : Job) → job ≡ pair_job n AndNot k j room → (z : Bool) → SaysNo job.n (joined_by a b job) z → z ≡ inside (tree_in n a k) (tree_in n b j)
pair-inside n room a k b j job e z s =
    says_inside n (tree_in n a k) (tree_in n b j) (meaning-deep n (nodes k a)) (meaning-deep n (nodes j b)) z
    (subst (λ g. SaysNo n g z) (pair-tree n room a k b j (pair_job n AndNot k j room) refl) (subst (λ i. SaysNo i.n (joined_by a b i) z) e s))

-- the mark at v within the mark at not v
pub mark-inside : (n room : ℕ) (w : List ℕ) (k : ℕ) (m : BddVariable) (v : Bool) (job : Job) → job ≡ mark_job n AndNot k m room → (z : Bool)
    → SaysNo job.n (pointwise (op_of job.op) (cofactor job.left.variable.0 v (meaning job.n (nodes job.left.count w))) (cofactor job.right.variable.0 (not v) (meaning job.n (nodes job.right.count w)))) z
    → z ≡ inside (cofactor m.0 v (tree_in n w k)) (cofactor m.0 (not v) (tree_in n w k))
mark-inside n room w k m v job e z s =
    let deep : Deep n (tree_in n w k) = meaning-deep n (nodes k w) in
    says_inside n (cofactor m.0 v (tree_in n w k)) (cofactor m.0 (not v) (tree_in n w k)) (cofactor-deep n m.0 v (tree_in n w k) deep) (cofactor-deep n m.0 (not v) (tree_in n w k) deep) z
    (subst (λ o. SaysNo n (pointwise o (cofactor m.0 v (tree_in n w k)) (cofactor m.0 (not v) (tree_in n w k))) z) and_not-table
    (subst (λ i. SaysNo i.n (pointwise (op_of i.op) (cofactor i.left.variable.0 v (meaning i.n (nodes i.left.count w))) (cofactor i.right.variable.0 (not v) (meaning i.n (nodes i.right.count w)))) z) e s))

-- ---- a copy of the words
pub copied : (n room : ℕ) (w : List ℕ) (k : ℕ) → Canonical n room w k → (v u : List ℕ) → v ≡ take (stride * k) w → Tab n room (v ++ u) k (tree_in n w k)
copied n room w k c v u e =
    let back : words_of (nodes k w) ≡ v = words-nodes k w c.lies ∙ sym e in
    record {
      deep = tree-deep n room w k c;
      lies = omega (arith, length-append v u, ap length e, length-take-le (stride * k) w c.lies);
      fits = c.fits;
      table =
          ap₂ (λ (i : ℕ) (z : List ℕ). nodes i (z ++ u)) (sym (length-nodes k w)) (sym back)
          ∙ nodes-words (nodes k w) u ∙ c.table;
    }
