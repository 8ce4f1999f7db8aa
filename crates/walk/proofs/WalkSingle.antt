-- Each promise of the walk leaves one possible result.
use mathlib.Core.Path.{◌≡◌, refl, sym, ap, ◌∙◌}
use mathlib.Core.List.{List, [], ◌∷◌}
use Prim.Native.Nat.{ℕ}
use native.Mathlib.Omega.{arith}
use Rattle.refusal.specs.Number.{number_of}
use Rattle.refusal.specs.Verdict.{Reply}
use Rattle.refusal.specs.declared.Refusal.{Refusal}
use Rattle.refusal.proofs.Single.{OneToOne, Single, single, kind-single, number_positive}
use Rattle.valuation.specs.declared.BddPartialValuation.{BddPartialValuation}
use mathlib.Core.HLevel.{is_prop→PathP}
use mathlib.Core.Logic.{∥∥₁_prop}
use Rattle.walk.specs.declared.BddPathIterator.{BddPathIterator, came-type}
use Rattle.std.specs.Prelude.{Option, Some, None}
use Rattle.walk.specs.Step.{path_step_reply, step_of, tells, walk_clauses, PathStart, start_of, words_of}
use Rattle.walk.specs.Walk.{number_in, place_in, start_in, path_in, refusal_in, Steps}

valuation_eq : (u v : BddPartialValuation) → u.fixed ≡ v.fixed → u.values ≡ v.values → u ≡ v
valuation_eq u v p q = λ i. record { fixed = p i; values = q i }

-- different steps have different replies
pub path_step-one : OneToOne path_step_reply
path_step-one (Some u) (Some v) e =
    let z : ◌≡◌ {A = List ℕ} (1 ∷ u.fixed ∷ u.values ∷ []) (1 ∷ v.fixed ∷ v.values ∷ []) = ap (λ (x : Reply). x.values) e in
    let f : u.fixed ≡ v.fixed = cc in
    let g : u.values ≡ v.values = cc in
    ap Some (valuation_eq u v f g)
path_step-one (Some u) None e =
    let z : ◌≡◌ {A = List ℕ} (1 ∷ u.fixed ∷ u.values ∷ []) (0 ∷ []) = ap (λ (x : Reply). x.values) e in
    let w : ◌≡◌ {A = ℕ} 1 0 = cc in
    absurd (omega arith)
path_step-one None (Some v) e =
    let z : ◌≡◌ {A = List ℕ} (0 ∷ []) (1 ∷ v.fixed ∷ v.values ∷ []) = ap (λ (x : Reply). x.values) e in
    let w : ◌≡◌ {A = ℕ} 0 1 = cc in
    absurd (omega arith)
path_step-one None None e = refl

-- kth_step
pub kth_single : (n count : ℕ) (w : List ℕ) (k : ℕ) → Single path_step_reply (tells (walk_clauses n count w) k)
kth_single n count w k = single path_step_reply path_step-one (tells (walk_clauses n count w) k)

-- the words that a walk holds, its path and its refusal are all of it
same_walk : (a b : BddPathIterator) → a.bdd ≡ b.bdd → path_in a ≡ path_in b → refusal_in a ≡ refusal_in b → a ≡ b
same_walk a b e f g = λ j. record { bdd = e j; at = f j; refusal = g j; came = is_prop→PathP (λ k. came-type (e k) (f k) (g k)) (λ k. ∥∥₁_prop) a.came b.came j }

-- a step: what it says, and the walk afterwards
pub next-single : (i a b : BddPathIterator) (x y : Option BddPartialValuation) → Steps i x a → Steps i y b → (x ≡ y) × (a ≡ b)
next-single i a b x y p q = (
  single path_step_reply path_step-one (step_of i.bdd.now (path_in i)) x y p.says q.says,
  same_walk a b (p.moves.words ∙ sym q.moves.words) (p.moves.path ∙ sym q.moves.path) (p.moves.refusal ∙ sym q.moves.refusal),
)

-- a start: the words that it holds, where they lie, and all else
pub new-single : (n count : ℕ) (w : List ℕ) {P : Type 0} (at p q : P) (u v : List ℕ) (a b : PathStart)
    → (u ≡ words_of n count w) × (p ≡ at) × (a ≡ start_of n count w) → (v ≡ words_of n count w) × (q ≡ at) × (b ≡ start_of n count w) → (u ≡ v) × (p ≡ q) × (a ≡ b)
new-single n count w at p q u v a b e f = (e.0 ∙ sym f.0, e.1 ∙ sym f.1, e.2 ∙ sym f.2)

-- a refusal is its number and place, and number 0 is none
refusal-told : (x y : Option Refusal) → number_in x ≡ number_in y → place_in x ≡ place_in y → x ≡ y
refusal-told None None e f = refl
refusal-told None (Some s) e f = let z : 0 ≡ number_of s.kind = e in absurd (omega (arith, z, number_positive s.kind))
refusal-told (Some r) None e f = let z : number_of r.kind ≡ 0 = e in absurd (omega (arith, z, number_positive r.kind))
refusal-told (Some r) (Some s) e f =
    let k : r.kind ≡ s.kind = kind-single r.kind s.kind e in
    let is : r ≡ s = λ i. record { kind = k i; place = f i } in
    ap Some is

-- what a start found is the walk's path and its refusal
pub found-single : (a b : BddPathIterator) → start_in a ≡ start_in b → (a.at ≡ b.at) × (a.refusal ≡ b.refusal)
found-single a b e = (
  ap (λ (s : PathStart). s.first) e,
  refusal-told a.refusal b.refusal (ap (λ (s : PathStart). s.number) e) (ap (λ (s : PathStart). s.place) e),
)

-- so what a start promises leaves one walk
pub started-single : (n count : ℕ) (w : List ℕ) (at : ℕ × ℕ) (a b : BddPathIterator)
    → (a.bdd.now ≡ words_of n count w) × (a.bdd.ref_ptr ≡ at) × (start_in a ≡ start_of n count w)
    → (b.bdd.now ≡ words_of n count w) × (b.bdd.ref_ptr ≡ at) × (start_in b ≡ start_of n count w) → a ≡ b
started-single n count w at a b e f =
    let s = new-single n count w at a.bdd.ref_ptr b.bdd.ref_ptr a.bdd.now b.bdd.now (start_in a) (start_in b) e f in
    let t : (a.at ≡ b.at) × (a.refusal ≡ b.refusal) = found-single a b s.2 in
    let words : a.bdd ≡ b.bdd = λ i. record { ref_ptr = s.1 i; now = s.0 i } in
    same_walk a b words t.0 t.1

-- a start's refusal
pub refusal-single : (i : BddPathIterator) (a b : Option Refusal) → a ≡ refusal_in i → b ≡ refusal_in i → a ≡ b
refusal-single i a b p q = p ∙ sym q
