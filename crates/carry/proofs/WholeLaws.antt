-- A whole table carried into an empty output is the canonical table of its function.
use mathlib.Core.Path.{◌≡◌, sym, ap, subst, ◌∙◌}
use mathlib.Core.Bool.{Bool, true, false, not}
use mathlib.Core.List.{List}
use Prim.Native.Nat.{ℕ, ◌-◌, ◌≤◌, ◌<◌}
use native.Mathlib.Omega.{arith}
use lib.ListN.{length, get_or, replicate, get_or-replicate, length-replicate}
use Rattle.theory.specs.Tree.{Deep, mapped, cofactor}
use Rattle.theory.specs.Table.{Table, tree_of, walk, constants, meaning, Ordered, Good}
use Rattle.theory.specs.Words.{nodes}
use Rattle.theory.proofs.Canon.{constants-good}
use Rattle.theory.proofs.Cases.{cofactor-deep}
use Rattle.theory.proofs.Step.{mark-le}
use Rattle.theory.proofs.Small.{meaning-deep}
use Rattle.theory.proofs.Words.{length-nodes}
use Rattle.theory.proofs.Turned.{turned, turned-whole, turned-jump, mapped-deep, mapped-same, cofactor-past}
use Rattle.std.specs.Prelude.{Result}
use Rattle.std.specs.Prelude.{Option, Some, None}
use Rattle.table.specs.declared.BddPointer.{BddPointer}
use Rattle.table.specs.Inspection.{SoundTable}
use Rattle.pool.specs.Pool.{Answers, whole_table}
use Rattle.pool.proofs.WholeLaws.{whole_leaves}
use Rattle.carry.specs.declared.Way.{Way}
use Rattle.carry.specs.Carry.{flip, carried, Known, Begun, Ready, Carries}
use Rattle.carry.specs.Whole.{Placing, along, CanonLeft}

-- an empty memo knows nothing
pub empty-memo : (memo memo₁ : List ℕ) (w : Way) (s o : Table) (count : ℕ) → count ≤ length memo → memo₁ ≡ replicate (length memo) 0 → Known memo₁ w s o count
empty-memo memo memo₁ w s o count wide e i lt ne = absurd (ne (ap (λ (l : List ℕ). get_or l i 0) e ∙ get_or-replicate {A = ℕ} (length memo) i 0 0 (omega arith)))

pub length-emptied : (memo memo₁ : List ℕ) → memo₁ ≡ replicate (length memo) 0 → length memo₁ ≡ length memo
length-emptied memo memo₁ e = ap length e ∙ length-replicate {A = ℕ} (length memo) 0

-- what has begun with a memo, whatever it holds, is ready with it emptied
pub emptied-ready : (bdd out memo memo₁ : List ℕ) (w : Way) (k m : ℕ) → Begun bdd out memo w k m → memo₁ ≡ replicate (length memo) 0 → Ready bdd out memo₁ w k m
emptied-ready bdd out memo memo₁ w k m b empty = record {
  begun = record {
    marks = b.marks;
    few = b.few;
    long = b.long;
    wide = omega (arith, b.wide, length-emptied memo memo₁ empty);
    ordered = b.ordered;
    pushing = b.pushing;
    good = b.good;
  };
  known = empty-memo memo memo₁ w (nodes k bdd) (nodes m out) k b.wide empty;
}

-- a node carried into any good table is the walk of its whole function
pub carried-whole : (w : Way) (s o : Table) → Good w.n o → Ordered w.n s → (root : ℕ) → root < length s
    → carried w s o root ≡ walk o 0 (mapped (flip w.exchange) (cofactor w.variable.0 w.value (tree_of w.n s 0 root)))
carried-whole w s o good ordered root lies =
    let z : w.n - 0 ≡ w.n = omega arith in
    sym (turned-jump w.variable.0 w.value (flip w.exchange) w.n s o good 0 root (omega arith) (mark-le w.n s ordered root lies))
    ∙ ap (λ k. walk o 0 (turned w.variable.0 w.value (flip w.exchange) k s 0 root)) z
    ∙ ap (walk o 0) (turned-whole w.variable.0 w.value (flip w.exchange) w.n s root)

module _ (bdd out memo : List ℕ) (w : Way) (count root : ℕ) (t : SoundTable w.n count bdd root) (g : Placing out memo count w.room) where
  abbrev s : Table
  s = nodes count bdd

  abbrev n : ℕ
  n = w.n

  root-lies : root < length s
  root-lies = omega (arith, length-nodes count bdd, t.last, t.some)

  module _ (out₁ : List ℕ) (same_out : length out₁ ≡ length out) (front : nodes 2 out₁ ≡ constants n) where
    pub begins : Begun bdd out₁ memo w count 2 × (root < count)
    begins = (
      record {
        marks = t.marks;
        few = t.few;
        long = t.long;
        wide = g.wide;
        ordered = t.ordered;
        pushing = record { few = g.few; long = omega (arith, g.long); fits = g.some };
        good = rw front (constants-good n);
      },
      omega (arith, t.last, t.some),
    )

    pub begins-emptied : (memo₁ : List ℕ) → memo₁ ≡ replicate (length memo) 0 → Ready bdd out₁ memo₁ w count 2 × (root < count)
    begins-emptied memo₁ empty = (emptied-ready bdd out₁ memo memo₁ w count 2 begins.0 empty, begins.1)

    is-meaning : tree_of n s 0 root ≡ meaning n s
    unfolding meaning
    is-meaning = ap (tree_of n s 0) (omega (arith, length-nodes count bdd, t.last))

    deep : Deep n (along w s)
    deep = mapped-deep (flip w.exchange) n _ (cofactor-deep n w.variable.0 w.value (meaning n s) (meaning-deep n s))

    is-walk : carried w s (nodes 2 out₁) root ≡ walk (constants n) 0 (along w s)
    is-walk =
        ap (λ (o : Table). carried w s o root) front
        ∙ carried-whole w s (constants n) (constants-good n) t.ordered root root-lies
        ∙ ap (λ f. walk (constants n) 0 (mapped (flip w.exchange) (cofactor w.variable.0 w.value f))) is-meaning

    pub carried_left : (out₂ memo₂ : List ℕ) (answer : Option (BddPointer × ℕ)) → length out₂ ≡ length out₁ → Carries bdd out₁ out₂ memo₂ w count 2 root answer → (tabled : Result ℕ ℕ) → tabled ≡ whole_table answer
        → CanonLeft n w.room (along w s) out₂ tabled
    carried_left out₂ memo₂ answer same c tabled is = rw is (whole_leaves n w.room (along w s) deep g.some out₂ (omega (arith, g.long)) answer (answers answer c))
      where
        answers : (answer : Option (BddPointer × ℕ)) → Carries bdd out₁ out₂ memo₂ w count 2 root answer → Answers (walk (constants n) 0 (along w s)) w.room out₂ answer
        answers (Some (r, m)) c = rw is-walk at c.holds
        answers None c = rw is-walk at c

-- the three ways
module _ (n : ℕ) (s : Table) where
  pub same_function : (v : Bool) → mapped (flip false) (cofactor n v (meaning n s)) ≡ meaning n s
  same_function v = mapped-same (cofactor n v (meaning n s)) ∙ cofactor-past n n v (meaning n s) (meaning-deep n s) (omega arith)

  module _ (room : ℕ) (out : List ℕ) (tabled : Result ℕ ℕ) where
    pub as_reduced : (v : Bool) → CanonLeft n room (mapped (flip false) (cofactor n v (meaning n s))) out tabled → CanonLeft n room (meaning n s) out tabled
    as_reduced v = subst (λ t. CanonLeft n room t out tabled) (same_function v)

    pub as_exchanged : (v : Bool) → CanonLeft n room (mapped (flip true) (cofactor n v (meaning n s))) out tabled → CanonLeft n room (mapped not (meaning n s)) out tabled
    as_exchanged v = subst (λ t. CanonLeft n room (mapped not t) out tabled) (cofactor-past n n v (meaning n s) (meaning-deep n s) (omega arith))

    pub as_restricted : (x : ℕ) (v : Bool) → CanonLeft n room (mapped (flip false) (cofactor x v (meaning n s))) out tabled → CanonLeft n room (cofactor x v (meaning n s)) out tabled
    as_restricted x v = subst (λ t. CanonLeft n room t out tabled) (mapped-same (cofactor x v (meaning n s)))
