-- A computed path of links, and reachability by a case.
use mathlib.Core.Path.{◌≡◌, refl, sym, ap, ◌∙◌}
use mathlib.Core.Logic.{◌⊎◌, inl, inr}
use mathlib.Core.Bool.{Bool, true, false, ◌||◌}
use Prim.Native.Nat.{ℕ, zero, suc, ◌+◌, ◌*◌, ◌/◌, ◌-◌, ◌≤◌, ◌<◌}
use native.Mathlib.Omega.{arith}
use native.Mathlib.Decide.{ℕ_discrete, dec_lt}
use lib.Dec.{eqb}
use lib.ListN.{length}
use borrow.Author.Tests.{eq-eqb, eqb-true}
use Rattle.theory.specs.Mask.{odd}
use Rattle.theory.specs.Table.{Node, Table, at, child_of, step, follow, Ordered, Reachable}
use Rattle.theory.proofs.Step.{Stands, step_here, step_skip, bottom, stands_child}
use Rattle.theory.proofs.Cases.{odd_even, odd-odd, half-even, half-odd}
use Rattle.theory.proofs.Truths.{or_left, or_right, or_cases}
use Rattle.reduced.specs.Reduced.{leads, reachable}

module _ (s : Table) where
  -- the links of a node lead on
  leads_here : (k p i : ℕ) → p ≡ i → leads k s p i ≡ true
  unfolding leads
  leads_here zero p i e = eq-eqb p i e
  leads_here (suc k) p i e = or_left _ _ (eq-eqb p i e)

  leads-down : (k p i : ℕ) (b : Bool) → leads k s (child_of b (at s p)) i ≡ true → leads (suc k) s p i ≡ true
  unfolding leads
  leads-down k p i true e = or_right (eqb p i) (leads k s (at s p).low i || leads k s (at s p).high i) (or_right (leads k s (at s p).low i) _ e)
  leads-down k p i false e = or_right (eqb p i) (leads k s (at s p).low i || leads k s (at s p).high i) (or_left _ (leads k s (at s p).high i) e)

  -- here, or on by one of the links
  pub record Down (k p i : ℕ) : Type 0 where
    pub way : Bool
    pub goes : leads k s (child_of way (at s p)) i ≡ true

  leads-cases : (k p i : ℕ) → leads (suc k) s p i ≡ true → (p ≡ i) ⊎ Down k p i
  unfolding leads
  leads-cases k p i e = elim (or_cases (eqb p i) (leads k s (at s p).low i || leads k s (at s p).high i) e) [
    | inl a ↦ inl (eqb-true p i a)
    | inr a ↦ elim (or_cases (leads k s (at s p).low i) (leads k s (at s p).high i) a) [
      | inl b ↦ inr (record { way = false; goes = b })
      | inr b ↦ inr (record { way = true; goes = b })
    ]
  ]

  leads-none : (p i : ℕ) → leads zero s p i ≡ true → p ≡ i
  unfolding leads
  leads-none p i e = eqb-true p i e

  leads-more : (k p i : ℕ) → leads k s p i ≡ true → leads (suc k) s p i ≡ true
  leads-more zero p i e = leads_here 1 p i (leads-none p i e)
  leads-more (suc k) p i e = elim (leads-cases k p i e) [
    | inl a ↦ leads_here (suc (suc k)) p i a
    | inr a ↦ leads-down (suc k) p i a.way (leads-more k _ i a.goes)
  ]

  -- what is marked, where the root is and the links of each marked node from 2 up are
  pub spreads : (M : ℕ → Type 0) → ((p : ℕ) (b : Bool) → M p → M (child_of b (at s p))) → (k p i : ℕ) → M p → leads k s p i ≡ true → M i
  spreads M on zero p i m e = rw (← (leads-none p i e)) m
  spreads M on (suc k) p i m e = elim (leads-cases k p i e) [
    | inl a ↦ rw (← a) m
    | inr a ↦ spreads M on k _ i (on p a.way m) a.goes
  ]

module _ (n : ℕ) (s : Table) (o : Ordered n s) where
  -- a constant links to itself
  pub constant_child : (p : ℕ) (b : Bool) → p < 2 → p < length s → child_of b (at s p) ≡ p
  constant_child zero true h l = ap (λ (x : Node). x.high) o.first
  constant_child zero false h l = ap (λ (x : Node). x.low) o.first
  constant_child (suc zero) true h l = ap (λ (x : Node). x.high) (o.second l)
  constant_child (suc zero) false h l = ap (λ (x : Node). x.low) (o.second l)
  constant_child (suc (suc p)) b h l = absurd (omega arith)

  pub constant_mark : (p : ℕ) → p < 2 → p < length s → (at s p).mark ≡ n
  constant_mark zero h l = ap (λ (x : Node). x.mark) o.first
  constant_mark (suc zero) h l = ap (λ (x : Node). x.mark) (o.second l)
  constant_mark (suc (suc p)) h l = absurd (omega arith)

  child_stands : (l p : ℕ) (b : Bool) → l < n → Stands s l p → Stands s (suc l) (child_of b (at s p))
  child_stands l p b h w = elim (dec_lt p 2) [
    | yes c ↦ rw (constant_child p b c w.lies) (record { lies = w.lies; fits = omega (arith, constant_mark p c w.lies) })
    | no c ↦ let d : Stands s (suc (at s p).mark) (child_of b (at s p)) = stands_child n s o b p (omega arith) w.lies in record { lies = d.lies; fits = omega (arith, w.fits, d.fits) }
  ]

  constant_leads : (k p i : ℕ) → p < 2 → p < length s → leads k s p i ≡ true → p ≡ i
  constant_leads zero p i h l e = leads-none s p i e
  constant_leads (suc k) p i h l e = elim (leads-cases s k p i e) [
    | inl a ↦ a
    | inr a ↦ constant_leads k p i h l (rw (constant_child p a.way h l) at a.goes)
  ]

  -- one link more
  pub leads-on : (k l p i : ℕ) (b : Bool) → l + k ≡ n → Stands s l p → 2 ≤ i → i < length s → leads k s p i ≡ true → leads k s p (child_of b (at s i)) ≡ true
  leads-on zero l p i b e w two h g =
      let z : p ≡ i = leads-none s p i g in
      absurd (omega (arith, bottom n s o p (record { lies = w.lies; fits = omega (arith, w.fits) })))
  leads-on (suc k) l p i b e w two h g = elim (leads-cases s k p i g) [
    | inl a ↦ rw a (leads-down s k i (child_of b (at s i)) b (leads_here s k _ _ refl))
    | inr a ↦ leads-down s k p (child_of b (at s i)) a.way (leads-on k (suc l) _ i b (omega arith) (child_stands l p a.way (omega arith) w) two h a.goes)
  ]

  -- a case that leads from p at level l to i
  pub record Case (l p i : ℕ) : Type 0 where
    pub depth : ℕ
    pub case : ℕ
    pub arrives : follow depth s l p case ≡ i

  case_here : (l p i : ℕ) → p ≡ i → Case l p i
  unfolding follow
  case_here l p i e = record { depth = 0; case = 0; arrives = e }

  follow-low : (d l p c : ℕ) → follow (suc d) s l p (2 * c) ≡ follow d s (suc l) (step s l false p) c
  unfolding follow
  follow-low d l p c = rw (odd_even c, half-even c)

  follow-high : (d l p c : ℕ) → follow (suc d) s l p (2 * c + 1) ≡ follow d s (suc l) (step s l true p) c
  unfolding follow
  follow-high d l p c = rw (odd-odd c, half-odd c)

  case-down : (l p i : ℕ) (b : Bool) → Case (suc l) (step s l b p) i → Case l p i
  case-down l p i true a = record { depth = suc a.depth; case = 2 * a.case + 1; arrives = follow-high a.depth l p a.case ∙ a.arrives }
  case-down l p i false a = record { depth = suc a.depth; case = 2 * a.case; arrives = follow-low a.depth l p a.case ∙ a.arrives }

  -- a path of links is the way of some case
  pub leads-case : (m k l p i : ℕ) → l + m ≡ n → Stands s l p → leads k s p i ≡ true → Case l p i
  leads-case zero k l p i e w g = case_here l p i (constant_leads k p i (bottom n s o p (record { lies = w.lies; fits = omega (arith, w.fits) })) w.lies g)
  leads-case (suc m) zero l p i e w g = case_here l p i (leads-none s p i g)
  leads-case (suc m) (suc k) l p i e w g = elim (ℕ_discrete (at s p).mark l) [
    | yes a ↦ elim (leads-cases s k p i g) [
      | inl d ↦ case_here l p i d
      | inr d ↦ case-down l p i d.way (rw (step_here s l d.way p a) (leads-case m k (suc l) _ i (omega arith) (child_stands l p d.way (omega arith) w) d.goes))
    ]
    | no a ↦ case-down l p i false (rw (step_skip s l false p a) (leads-case m (suc k) (suc l) p i (omega arith) (record { lies = w.lies; fits = omega (arith, w.fits) }) g))
  ]

  step_constant : (l p : ℕ) (b : Bool) → p < 2 → p < length s → step s l b p ≡ p
  step_constant l p b h w = elim (ℕ_discrete (at s p).mark l) [
    | yes a ↦ step_here s l b p a ∙ constant_child p b h w
    | no a ↦ step_skip s l b p a
  ]

  follow_constant : (d l p c : ℕ) → p < 2 → p < length s → follow d s l p c ≡ p
  unfolding follow
  follow_constant zero l p c h w = refl
  follow_constant (suc d) l p c h w = rw (step_constant l p (odd c) h w) (follow_constant d (suc l) p (c / 2) h w)

  -- and the way of a case is a path of links
  pub case_leads : (k l p i d c : ℕ) → l + k ≡ n → Stands s l p → follow d s l p c ≡ i → leads k s p i ≡ true
  unfolding follow
  case_leads zero l p i d c e w g =
      leads_here s zero p i (sym (follow_constant d l p c (bottom n s o p (record { lies = w.lies; fits = omega (arith, w.fits) })) w.lies) ∙ g)
  case_leads (suc k) l p i zero c e w g = leads_here s (suc k) p i g
  case_leads (suc k) l p i (suc d) c e w g = elim (ℕ_discrete (at s p).mark l) [
    | yes a ↦ leads-down s k p i (odd c) (case_leads k (suc l) _ i d (c / 2) (omega arith) (child_stands l p (odd c) (omega arith) w) (rw (step_here s l (odd c) p a) at g))
    | no a ↦ leads-more s k p i (case_leads k (suc l) p i d (c / 2) (omega arith) (record { lies = w.lies; fits = omega (arith, w.fits) }) (rw (step_skip s l (odd c) p a) at g))
  ]

  -- the root stands above all
  pub root_stands : Stands s 0 (length s - 1)
  root_stands = record { lies = omega (arith, o.some); fits = omega arith }

  pub reachable-root : reachable n s (length s - 1) ≡ true
  unfolding reachable
  reachable-root = leads_here s n _ _ refl

  pub reachable_child : (i : ℕ) (b : Bool) → 2 ≤ i → i < length s → reachable n s i ≡ true → reachable n s (child_of b (at s i)) ≡ true
  unfolding reachable
  reachable_child i b two h e = leads-on n 0 (length s - 1) i b (omega arith) root_stands two h e

  pub of_reachable : (i : ℕ) → reachable n s i ≡ true → Reachable n s i
  unfolding reachable
  of_reachable i e = let a : Case 0 (length s - 1) i = leads-case n n 0 (length s - 1) i (omega arith) root_stands e in record { depth = a.depth; case = a.case; arrives = a.arrives }

  pub to-reachable : (i : ℕ) → Reachable n s i → reachable n s i ≡ true
  unfolding reachable
  to-reachable i a = case_leads n 0 (length s - 1) i a.depth a.case (omega arith) root_stands a.arrives
