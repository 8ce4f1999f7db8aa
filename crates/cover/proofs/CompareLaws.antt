-- The given table carried into the pool of a canonical one, and the two compared there.
use mathlib.Core.Path.{◌≡◌, refl, sym, ap, ap₂, subst, ◌∙◌}
use mathlib.Core.Logic.{⊎_elim}
use mathlib.Core.Bool.{false}
use mathlib.Core.List.{List, [], ◌∷◌, ◌++◌}
use Prim.Native.Nat.{ℕ, zero, suc, ◌+◌, ◌*◌, ◌-◌, ◌<◌, ◌≤◌, max}
use native.Mathlib.Omega.{arith}
use lib.Dec.{eqb}
use lib.ListN.{length, replicate, length-append}
use borrow.Author.Tests.{eq-eqb, ne_eqb}
use Rattle.theory.specs.Tree.{Tree, same_tree, mapped, cofactor}
use Rattle.theory.specs.Table.{Node, Table, at, tree_of, meaning, walk, constants, cut, canon, Good}
use Rattle.theory.specs.Words.{stride, node_at, nodes}
use Rattle.theory.proofs.Step.{Stands, tree_of-append}
use Rattle.theory.proofs.Find.{node-eq}
use Rattle.theory.proofs.Walk.{Walked, sound}
use Rattle.theory.proofs.Canon.{Canonical, canonical, canon-ordered}
use Rattle.theory.proofs.Small.{meaning-deep}
use Rattle.theory.proofs.Words.{length-nodes, at-nodes}
use Rattle.refusal.specs.Limits.{max_marks}
use Rattle.refusal.specs.Verdict.{replied, gives}
use Rattle.making.specs.Made.{Beyond}
use Rattle.cube.proofs.Sizes.{adds}
use Rattle.carry.specs.declared.Way.{Way}
use Rattle.carry.specs.Carry.{flip, plain, carried, Begun, Ready, Carried}
use Rattle.carry.proofs.WholeLaws.{emptied-ready, carried-whole, same_function}
use Rattle.cover.specs.Cover.{first_differing, cover_answer}
use Rattle.table.specs.Inspection.{SoundTable}
use Rattle.cover.specs.Compare.{Paired, Comparing, Brought}
use Rattle.cover.proofs.DescentLaws.{same_nodes}

nodes-same : (k : ℕ) (w v : List ℕ) → ((i : ℕ) → i < k → node_at w i ≡ node_at v i) → nodes k w ≡ nodes k v
unfolding nodes
nodes-same zero w v h = refl
nodes-same (suc k) w v h = ap₂ (λ (s : Table) (x : Node). s ++ (x ∷ [])) (nodes-same k w v (λ i l. h i (omega arith))) (h k (omega arith))

-- a table carried as it is

module _ (n count : ℕ) (words : List ℕ) (root made : ℕ) (pool memo : List ℕ) (input : SoundTable n count words root) (g : Comparing n count made pool memo) where
  abbrev t : Tree
  t = meaning n (nodes made pool)

  abbrev s : Table
  s = nodes count words

  abbrev u : Tree
  u = meaning n s

  whole : tree_of n s 0 root ≡ u
  unfolding meaning
  whole = ap (tree_of n s 0) (omega (arith, length-nodes count words, input.last))

  pub made_some : 1 ≤ made
  made_some = omega (arith, ap length g.canonical, length-nodes made pool, (canon-ordered n t (meaning-deep n (nodes made pool))).some)

  lies : root < length s
  lies = omega (arith, length-nodes count words, input.last, input.some)

  module _ (pool₁ : List ℕ) (same : length pool₁ ≡ length pool) (front : nodes 2 pool₁ ≡ constants n) (beyond : Beyond 2 pool pool₁) where
    constant : (i : ℕ) → i < 2 → node_at pool₁ i ≡ at (constants n) i
    constant i h = sym (at-nodes 2 pool₁ i h) ∙ ap (λ (s : Table). at s i) front

    -- the constants stood at the front before, if the table has both
    kept : (o : Table) → Good n o → nodes made pool ≡ o → (i : ℕ) → i < made → node_at pool₁ i ≡ node_at pool i
    kept o good e zero h = constant 0 (omega arith) ∙ sym good.ordered.first ∙ ap (λ (s : Table). at s 0) (sym e) ∙ at-nodes made pool 0 h
    kept o good e (suc zero) h = constant 1 (omega arith) ∙ sym (good.ordered.second good.both) ∙ ap (λ (s : Table). at s 1) (sym e) ∙ at-nodes made pool 1 h
    kept o good e (suc (suc i)) h =
        node-eq _ _ (beyond (stride * suc (suc i)) (omega arith)) (beyond (stride * suc (suc i) + 1) (omega arith)) (beyond (stride * suc (suc i) + 2) (omega arith))

    -- the pool holds the walk of the list's function, and its root is the table's last node
    holds : (r : Table × ℕ) → Canonical n t r → nodes made pool ≡ cut n r → (nodes (max made 2) pool₁ ≡ r.0) × (made - 1 ≡ r.1)
    holds (o, zero) m e =
        let one : made ≡ 1 = omega (arith, length-nodes made pool, ap length e) in
        let two : max made 2 ≡ 2 = omega arith in
        (ap (λ k. nodes k pool₁) two ∙ front ∙ sym (m.plain (omega arith)), omega arith)
    holds (o, suc p) m e =
        let many : 2 ≤ made = omega (arith, length-nodes made pool, ap length e, m.sound.good.both) in
        let all : max made 2 ≡ made = omega arith in (
          ap (λ k. nodes k pool₁) all ∙ nodes-same made pool₁ pool (kept o m.sound.good e) ∙ e,
          ⊎_elim (λ h. omega (arith, length-nodes made pool, ap length e, ap length (m.plain h))) (λ h. omega (arith, length-nodes made pool, ap length e)) m.root,
        )

    is_cut : nodes made pool ≡ cut n (walk (constants n) 0 t)
    unfolding canon
    is_cut = g.canonical

    held-is : (nodes (max made 2) pool₁ ≡ (walk (constants n) 0 t).0) × (made - 1 ≡ (walk (constants n) 0 t).1)
    held-is = holds (walk (constants n) 0 t) (canonical n t (meaning-deep n (nodes made pool))) is_cut

    walked : Walked n (constants n) n 0 t (nodes (max made 2) pool₁, made - 1)
    walked =
        let pair : walk (constants n) 0 t ≡ (nodes (max made 2) pool₁, made - 1) = λ i. (sym held-is.0 i, sym held-is.1 i) in
        subst (λ z. Walked n (constants n) n 0 t z) pair (canonical n t (meaning-deep n (nodes made pool))).sound

    module _ (held : ℕ) (is : held ≡ max made 2) where
      abbrev o : Table
      o = nodes held pool₁

      abbrev way : Way
      way = plain n (held + count)

      start : Walked n (constants n) n 0 t (o, made - 1)
      start = subst (λ k. Walked n (constants n) n 0 t (nodes k pool₁, made - 1)) (sym is) walked

      pub bringing : Begun words pool₁ memo way count held × (root < count)
      bringing = (
        record {
          marks = input.marks;
          few = input.few;
          long = input.long;
          wide = g.wide;
          ordered = input.ordered;
          pushing = record { few = omega (arith, g.few, input.few); long = omega (arith, g.long, made_some); fits = omega arith };
          good = start.good;
        },
        omega (arith, input.last, input.some),
      )

      pub bringing-emptied : (memo₁ : List ℕ) → memo₁ ≡ replicate (length memo) 0 → Ready words pool₁ memo₁ way count held × (root < count)
      bringing-emptied memo₁ empty = (emptied-ready words pool₁ memo memo₁ way count held bringing.0 empty, bringing.1)

      is-walk : carried way s o root ≡ walk o 0 u
      is-walk =
          carried-whole way s o start.good input.ordered root lies
          ∙ ap (λ x. walk o 0 (mapped (flip false) (cofactor n false x))) whole
          ∙ ap (walk o 0) (same_function n s false)

      fits : length (walk o 0 u).0 ≤ held + count
      fits =
          let few = adds n s o input.ordered start.good root (record { lies = lies; fits = omega arith }) in
          let same-walk : length (walk o 0 (tree_of n s 0 root)).0 ≡ length (walk o 0 u).0 = ap (λ x. length (walk o 0 x).0) whole in
          omega (arith, few, same-walk, length-nodes count words, length-nodes held pool₁)

      module _ (pool₂ memo₂ : List ℕ) (same₂ : length pool₂ ≡ length pool₁) where
        pub brings : (p m : ℕ) → Carried words pool₁ pool₂ memo₂ way count held root p m → Brought n t u made pool₂ p m
        brings p m c =
            let after : Walked n o n 0 u (nodes m pool₂, p) = subst (λ z. Walked n o n 0 u z) (sym is-walk ∙ c.holds.is) (sound n n u (meaning-deep n s) 0 (omega arith) o start.good) in
            let longer : m ≡ held + length after.more = omega (arith, ap length after.grown, length-append o after.more, length-nodes m pool₂, length-nodes held pool₁) in
            record {
              few = omega (arith, c.holds.fits, g.few, input.few);
              long = omega (arith, c.holds.fits, g.long, made_some);
              good = after.good;
              left = omega (arith, longer, start.stands.lies, length-nodes held pool₁);
              right = omega (arith, after.stands.lies, length-nodes m pool₂);
              left-means =
                  ap (λ x. tree_of n x 0 (made - 1)) after.grown
                  ∙ tree_of-append n o start.good.ordered after.more n 0 (made - 1) (omega arith) start.stands
                  ∙ start.means;
              right-means = after.means;
            }

      pub roomy : held + count < length (carried way s o root).0 → ⊥
      roomy over = omega (arith, fits, rw is-walk at over)

-- ---- compared
module _ (n : ℕ) (t u : Tree) (made : ℕ) (pool : List ℕ) (p total : ℕ) (b : Brought n t u made pool p total) where
  left : Stands (nodes total pool) 0 (made - 1)
  left = record { lies = omega (arith, b.left, length-nodes total pool); fits = omega arith }

  right : Stands (nodes total pool) 0 p
  right = record { lies = omega (arith, b.right, length-nodes total pool); fits = omega arith }

  same-is : same_tree t u ≡ eqb (made - 1) p
  same-is = ap₂ same_tree (sym b.left-means) (sym b.right-means) ∙ same_nodes n (nodes total pool) b.good n 0 (made - 1) p (omega arith) left right

  pub agree : made - 1 ≡ p → gives (0 ∷ []) ≡ replied (cover_answer t u)
  unfolding cover_answer replied
  agree e = rw (same-is, eq-eqb (made - 1) p e)

  pub differ : (made - 1 ≡ p → ⊥) → (c : ℕ) → c ≡ first_differing (tree_of (n - 0) (nodes total pool) 0 (made - 1)) (tree_of (n - 0) (nodes total pool) 0 p) → gives (1 ∷ c ∷ []) ≡ replied (cover_answer t u)
  unfolding cover_answer replied
  differ ne c e =
      let all : n - 0 ≡ n = omega arith in
      let is : c ≡ first_differing t u = rw all at e ∙ ap₂ first_differing b.left-means b.right-means in
      rw (same-is, ne_eqb (made - 1) p ne, is)

  pub paired : n ≤ max_marks → Paired n 0 total pool (made - 1) p
  paired marks = record { marks = marks; within = omega arith; few = b.few; long = b.long; good = b.good; left = left; right = right }
