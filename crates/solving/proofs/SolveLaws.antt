-- What `solve` asks and returns, place by place.
use mathlib.Core.Path.{◌≡◌, refl, sym, ap, ap₂, subst, ◌∙◌}
use mathlib.Core.Logic.{◌≢◌}
use mathlib.Core.Bool.{Bool, true, false, ◌&&◌}
use mathlib.Core.List.{List, [], ◌∷◌, ◌++◌}
use Prim.Native.Nat.{ℕ, zero, suc, ◌+◌, ◌*◌, ◌-◌, ◌≤◌, ◌<◌}
use native.Mathlib.Omega.{arith}
use native.Mathlib.Nat.{mul-le-mul_left, mul-suc}
use lib.ListN.{length, get_or, length-append}
use Rattle.std.specs.Prelude.{Option, None}
use Rattle.std.proofs.Common.{append_assoc, append-nil}
use Rattle.theory.specs.Tree.{Tree, Deep, cofactor}
use Rattle.theory.specs.Table.{canon}
use Rattle.theory.specs.Clause.{Clause, set_cell}
use Rattle.rule.specs.Rule.{rest_of, mark_of, solved, step_calls, called, all_fit}
use Rattle.rule.proofs.Needs.{need}
use Rattle.rule.proofs.Sizes.{is-konst, not-konst, restrict-small}
use Rattle.held.specs.Held.{tree_in, Canonical, Tab}
use Rattle.held.proofs.HeldLaws.{tab-of, tab-means, tab-count}
use Rattle.dividing.specs.Dividing.{Inner}
use Rattle.listing.specs.Listed.{capacity}
use Rattle.harmless.specs.Memory.{Harmless, Remembers}
use Rattle.solving.specs.Solving.{Out, Pushes, part_of, literals_of, solved_to, called_to, Listed, Solves}
use Rattle.solving.proofs.RunLaws.{called-next, over_stays, whole, part_less, solved-parts, called-parts}

-- ---- the frames
pub frames_some : (a d l : ℕ) → 1 ≤ d → a * d ≤ l → a ≤ l
frames_some a d l h i = omega (arith, mul-le-mul_left {m = 1} {n = d} a h)

pub frames_deeper : (a d e l m : ℕ) → e < d → a * d ≤ l → m ≡ l - a → a * e ≤ m
frames_deeper a d e l m h i is = omega (arith, mul-le-mul_left {m = suc e} {n = d} a (omega arith), mul-suc a e)

-- no constant
pub inside : (n room : ℕ) (w : List ℕ) (j : ℕ) → Canonical n room w j → j ≢ 1 → j ≢ 2 → Inner n (tree_in n w j)
inside n room w j c a b =
    let t : Tab n room w j (tree_in n w j) = tab-of n room w j c in
    record { some = not-konst n j false (tree_in n w j) (tab-count n room w j (tree_in n w j) t) a; part = not-konst n j true (tree_in n w j) (tab-count n room w j (tree_in n w j) t) b }

-- ---- constants, and a function known to be harmless
module _ (n room : ℕ) (w : List ℕ) (j : ℕ) (f : Tree) (t : Tab n room w j f) (y : Clause) (k : ℕ) (known out : List ℕ) (few : k ≤ capacity out + 1) (rem : Remembers n room known) where
  pub when_false : j ≡ 1 → Listed n room f y k known out out k
  unfolding called solved all_fit
  when_false h =
      let e : n + 1 ≡ suc n = omega arith in
      let is = is-konst n j false f t.deep (tab-count n room w j f t) h in
      record {
        few = few;
        remembers = rem;
        fits = rw (e, is) refl;
        written = λ ys o. rw (e, is, append-nil ys) o;
      }

  pub when_true : j ≡ 2 → (out' : List ℕ) (r : ℕ) → r ≤ capacity out' + 1 → Pushes out out' k y r → Listed n room f y k known out out' r
  unfolding called solved all_fit
  when_true h out' r few' p =
      let e : n + 1 ≡ suc n = omega arith in
      let no = not-konst n j false f (tab-count n room w j f t) (λ z. omega arith) in
      let is = is-konst n j true f t.deep (tab-count n room w j f t) h in
      record {
        few = few';
        remembers = rem;
        fits = rw (e, no, is) refl;
        written = λ ys o. rw (e, no, is) (p ys o);
      }

  pub recalled : capacity out < k → Harmless n room f → Listed n room f y k known out out k
  recalled full fine = record {
    few = few;
    remembers = rem;
    fits = fine;
    written = λ ys o. record {
      count = omega (arith, o.count, length-append ys (solved (n + 1) n f y));
      words = λ h. absurd (let z : ⊥ = omega (arith, o.count, length-append ys (solved (n + 1) n f y)) in z);
    };
  }

-- ---- the three parts
-- the first i parts are done
pub record Parted (n room : ℕ) (f : Tree) (y : Clause) (k : ℕ) (known out out' : List ℕ) (i r : ℕ) : Type 0 where
  pub few : r ≤ capacity out' + 1
  pub remembers : Remembers n room known
  pub fits : all_fit room n (called_to (n + 1) n f i) ≡ true
  pub written : (ys : List Clause) → Out out k ys → Out out' r (ys ++ solved_to (n + 1) n f y i)

module _ (n : ℕ) (f : Tree) (deep : Deep n f) (inner : Inner n f) where
  pub need_some : 1 ≤ need n f
  need_some = omega (arith, part_less n f deep inner 0)

  pub falls : (i : ℕ) (g : Tree) → g ≡ part_of n f i → need n g < need n f
  falls i g e = rw e (part_less n f deep inner i)

  pub mark_less : (m : ℕ) → m ≡ mark_of n f → m < n
  mark_less m e = omega (arith, e, (whole n f deep inner).mark.0)

module _ (n room : ℕ) (f : Tree) (deep : Deep n f) (inner : Inner n f) (y : Clause) (k : ℕ) (out : List ℕ) where
  pub over_divide : all_fit room n (step_calls n f) ≡ false → (known out' : List ℕ) (z : Option ℕ) → z ≡ None → Solves n room f y k known out out' z
  over_divide h known out' z e = rw e (called-parts n f deep inner room ∙ ap (λ v. v && all_fit room n (called_to (n + 1) n f 3)) h)

  pub none_done : (known : List ℕ) → k ≤ capacity out + 1 → Remembers n room known → Parted n room f y k known out out 0 k
  unfolding solved_to called_to all_fit
  none_done known few rem = record { few = few; remembers = rem; fits = refl; written = λ ys o. rw (append-nil ys) o }

  -- one part more, whose function and literals are g and z
  module _ (known out₁ : List ℕ) (i done : ℕ) (inv : Parted n room f y k known out out₁ i done) (g : Tree) (eg : g ≡ part_of n f i) (z : Clause) (ez : z ≡ literals_of (mark_of n f) y i) where
    pub part_done : (known' out₂ : List ℕ) (r : ℕ) → Listed n room g z done known' out₁ out₂ r → (j : ℕ) → j ≡ suc i → Parted n room f y k known' out out₂ j r
    unfolding solved_to
    part_done known' out₂ r l j ej = rw ej (record {
      few = l.few;
      remembers = l.remembers;
      fits = called-next room (n + 1) n f i ∙ ap₂ (λ u v. u && v) inv.fits (rw (sym eg) l.fits);
      written = λ ys o. subst (λ zs. Out out₂ r zs) (append_assoc ys _ _ ∙ ap₂ (λ a b. ys ++ (solved_to (n + 1) n f y i ++ solved (n + 1) n a b)) eg ez) (l.written (ys ++ solved_to (n + 1) n f y i) (inv.written ys o));
    })

    pub part_over : i < 3 → all_fit room n (step_calls n f) ≡ true → all_fit room n (called (n + 1) n g) ≡ false → (known' out₂ : List ℕ) (o : Option ℕ) → o ≡ None → Solves n room f y k known' out out₂ o
    part_over less fits h known' out₂ o e =
        let s : (2 - i) + suc i ≡ 3 = omega arith in
        let a : all_fit room n (called_to (n + 1) n f (suc i)) ≡ false = called-next room (n + 1) n f i ∙ ap₂ (λ u v. u && v) inv.fits (rw (sym eg) h) in
        rw e (called-parts n f deep inner room ∙ ap₂ (λ u v. u && v) fits (ap (λ j. all_fit room n (called_to (n + 1) n f j)) (sym s) ∙ over_stays room (n + 1) n f (suc i) (2 - i) a))

  -- all are done
  module _ (known out₁ : List ℕ) (i done : ℕ) (last : i ≡ 3) (inv : Parted n room f y k known out out₁ i done) (fits : all_fit room n (step_calls n f) ≡ true) where
    pub fine : Harmless n room f
    fine = called-parts n f deep inner room ∙ ap₂ (λ u v. u && v) fits (ap (λ j. all_fit room n (called_to (n + 1) n f j)) (sym last) ∙ inv.fits)

    pub listed : (known' : List ℕ) → Remembers n room known' → Listed n room f y k known' out out₁ done
    listed known' rem = record {
      few = inv.few;
      remembers = rem;
      fits = fine;
      written = λ ys o. subst (λ zs. Out out₁ done (ys ++ zs)) (ap (solved_to (n + 1) n f y) last ∙ sym (solved-parts n f deep inner y)) (inv.written ys o);
    }

-- ---- the sides: the mark true, then false
pub side_tree : (n : ℕ) (f rest : Tree) → rest ≡ rest_of n f → (m : ℕ) → m ≡ mark_of n f → (i : ℕ) → i < 2 → cofactor m (get_or (true ∷ false ∷ []) i false) rest ≡ part_of n f (suc i)
side_tree n f rest er m em zero h = rw (er, em) refl
side_tree n f rest er m em (suc zero) h = rw (er, em) refl
side_tree n f rest er m em (suc (suc i)) h = absurd (let z : ⊥ = omega arith in z)

pub side_literals : (n : ℕ) (f : Tree) (y : Clause) (m : ℕ) → m ≡ mark_of n f → (i : ℕ) → i < 2 → set_cell y m (get_or (true ∷ false ∷ []) i false) ≡ literals_of (mark_of n f) y (suc i)
side_literals n f y m em zero h = rw em refl
side_literals n f y m em (suc zero) h = rw em refl
side_literals n f y m em (suc (suc i)) h = absurd (let z : ⊥ = omega arith in z)

-- a side is never larger than what is left
pub never : (n room : ℕ) (w : List ℕ) (j : ℕ) (g : Tree) → Tab n room w j g → (m : ℕ) (v : Bool) → m < n → room < length (canon n (cofactor m v (tree_in n w j))) → ⊥
never n room w j g t m v h o =
    let u : Tab n room w j (tree_in n w j) = subst (Tab n room w j) (sym (tab-means n room w j g t)) t in
    omega (arith, restrict-small n m v (tree_in n w j) u.deep h, tab-count n room w j (tree_in n w j) u, t.fits)
