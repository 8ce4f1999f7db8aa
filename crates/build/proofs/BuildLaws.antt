-- What `build` rests on: clause by clause, each opening run's function stands in the pool.
use mathlib.Core.Path.{◌≡◌, refl, sym, ap, subst, ◌∙◌}
use mathlib.Core.Bool.{not}
use mathlib.Core.List.{List}
use Prim.Native.Nat.{ℕ, zero, suc, ◌+◌, ◌*◌, ◌-◌, ◌/◌, ◌^◌, ◌<◌, ◌≤◌}
use native.Mathlib.Omega.{arith}
use native.Mathlib.Nat.{zero-div}
use native.Mathlib.Numerals.{add-one}
use native.Mathlib.Decide.{ℕ_discrete}
use lib.ListN.{length}
use Rattle.theory.specs.Tree.{Tree, konst}
use Rattle.theory.specs.Table.{Table, at, tree_of, truth, walk, constants, canon, Good}
use Rattle.theory.specs.Words.{nodes}
use Rattle.theory.proofs.Step.{tree_of-konst}
use Rattle.theory.proofs.Canon.{constants-good}
use Rattle.theory.proofs.Again.{walk-konst}
use Rattle.theory.specs.Clause.{Clause}
use Rattle.theory.proofs.Cases.{konst-deep}
use Rattle.cube.specs.Cube.{opening, set_cube, built, run}
use Rattle.cube.proofs.Runs.{built_snoc}
use Rattle.chain.specs.Chain.{Zeroed}
use Rattle.chain.proofs.ChainLaws.{chained-none}
use Rattle.valuation.specs.declared.BddPartialValuation.{BddPartialValuation}
use Rattle.valuation.specs.Valuation.{clause_of}
use Rattle.entries.specs.declared.Form.{Form}
use Rattle.entries.specs.declared.Form.TheVariants.{Cnf, Dnf}
use Rattle.entries.specs.Entries.{says, term_of}
use Rattle.put.specs.declared.Job.{Job}
use Rattle.making.specs.Made.{Beyond}
use Rattle.put.specs.Put.{memo_base}
use Rattle.build.specs.declared.Goal.{Goal}
use Rattle.build.specs.Build.{Older, Pool, Adding, target, Added, Exporting, Exported, run_of, Building, Fit, Counted, Refused}
use Rattle.build.proofs.AddLaws.{under}

-- the state after i clauses
pub record Going (n : ℕ) (entry : ℕ → Clause) (form : Form) (room : ℕ) (w : List ℕ) (root count i : ℕ) : Type 0 where
  pub pool : Pool w n (2 * room) room count root (2 * i + 1) (run_of n form entry i)
  pub fit : Fit n entry form room i

none : (n : ℕ) (form : Form) (entry : ℕ → Clause) → run_of n form entry 0 ≡ konst n (not (says form))
unfolding opening built run
none n form entry = refl

flip : (form : Form) → truth (1 - term_of form) ≡ not (says form)
flip Cnf = refl
flip Dnf = refl

module _ (n : ℕ) (entry : ℕ → Clause) (k : ℕ) (form : Form) (room : ℕ) (out₀ w₀ : List ℕ) (b : Building n entry k room out₀ w₀) where
  empty-fits : Fit n entry form room 0
  empty-fits i h =
      let z : i ≡ 0 = omega arith in
      let e : length (walk ((constants n)) 0 (konst n (not (says form)))).0 ≡ 2 = ap (λ (r : Table × ℕ). length r.0) (walk-konst n (not (says form)) ((constants n)) 0) in
      subst (λ (x : ℕ). length (canon n (run_of n form entry x)) ≤ room) (sym z)
      (subst (λ (t : Tree). length (canon n t) ≤ room) (sym (none n form entry)) (under n (konst n (not (says form))) (konst-deep n (not (says form))) room b.some (omega (arith, b.some))))

  starts : (w₁ w₂ : List ℕ) → Zeroed w₀ w₁ (3 * (2 * room)) (5 * (2 * room)) → nodes 2 w₂ ≡ (constants n) → Beyond 2 w₁ w₂ → Going n entry form room w₂ (1 - term_of form) 2 0
  starts w₁ w₂ z e y = record {
    pool = subst (λ (x : ℕ). Pool w₂ n (2 * room) room 2 (1 - term_of form) x (run_of n form entry 0)) (let q : 1 ≡ 2 * 0 + 1 = omega arith in q) (record {
      good = subst (Good n) (sym e) (constants-good n);
      stands = record { lies = omega (arith, ap length e); fits = omega arith };
      means = ap (λ (s : Table). tree_of n s 0 (1 - term_of form)) e ∙ tree_of-konst n ((constants n)) n 0 (1 - term_of form) (omega arith) (ends-mark (1 - term_of form) (omega arith))
          ∙ ap (konst n) (flip form) ∙ sym (none n form entry);
      fits = b.some;
      older = λ x h. subst (λ (q : ℕ). q / memo_base < 1) (sym (y (3 * (2 * room) + x) (omega (arith, b.some)) ∙ z.zero (3 * (2 * room) + x) (omega arith) (omega arith))) (omega (arith, zero-div memo_base));
      chained = chained-none w₂ (2 * room) (λ h a. y (4 * (2 * room) + h) (omega (arith, b.some)) ∙ z.zero (4 * (2 * room) + h) (omega arith) (omega arith));
    });
    fit = empty-fits;
  }
    where
      ends-mark : (p : ℕ) → p < 2 → (at ((constants n)) p).mark ≡ n
      ends-mark zero h = refl
      ends-mark (suc zero) h = refl
      ends-mark (suc (suc p)) h = absurd (let z : ⊥ = omega arith in z)

  pub starts_at : (w₁ w₂ : List ℕ) (root : ℕ) → root ≡ 1 - term_of form → Zeroed w₀ w₁ (3 * (2 * room)) (5 * (2 * room)) → nodes 2 w₂ ≡ (constants n) → Beyond 2 w₁ w₂ → Going n entry form room w₂ root 2 0
  starts_at w₁ w₂ root h z e y = subst (λ (x : ℕ). Going n entry form room w₂ x 2 0) (sym h) (starts w₁ w₂ z e y)

  module _ (out w : List ℕ) (root count i : ℕ) (g : Going n entry form room w root count i) where
    -- the masks of the next entry
    module _ (v : BddPartialValuation) (e : clause_of v ≡ entry i) where
      abbrev job : Job
      job = record { run = record { n = n; stamp = 2 * i + 1; cap = 2 * room }; clause = v; form = form }

      pub adding : i < k → length out ≡ length out₀ → length w ≡ length w₀ → Adding w out job room count root
      adding h lo lw = record {
        marks = b.marks;
        fixed = subst (λ (x : Clause). x.fixed < 2 ^ n) (sym e) (b.masks i h);
        stamp = omega (arith, b.count);
        cap = refl;
        some = b.some;
        few = b.few;
        long = omega (arith, b.long);
        wide = omega (arith, b.wide);
        pool = record { good = g.pool.good; stands = g.pool.stands; means = refl; fits = g.pool.fits; older = g.pool.older; chained = g.pool.chained };
      }

      target_is : target job (nodes count w) root ≡ run_of n form entry (i + 1)
      unfolding opening
      target_is =
          ap (set_cube (says form) v.fixed v.values) g.pool.means
          ∙ ap (λ (x : Clause). set_cube (says form) x.fixed x.values (run_of n form entry i)) e
          ∙ sym (built_snoc (says form) n (opening entry i) (entry i))
          ∙ ap (run_of n form entry) (sym (add-one i))

      fit-more : length (canon n (run_of n form entry (i + 1))) ≤ room → Fit n entry form room (i + 1)
      fit-more h m le = elim (ℕ_discrete m (i + 1)) [
        | yes e ↦ subst (λ (x : ℕ). length (canon n (run_of n form entry x)) ≤ room) (sym e) h
        | no e ↦ g.fit m (omega arith)
      ]

      pub goes_on : (w₁ : List ℕ) (r c : ℕ) → Added w w₁ job room count root r c → Going n entry form room w₁ r c (i + 1)
      goes_on w₁ r c u = record {
        pool = subst (λ (x : ℕ). Pool w₁ n (2 * room) room c r x (run_of n form entry (i + 1))) (let q : 2 * i + 1 + 2 ≡ 2 * (i + 1) + 1 = omega arith in q)
            (subst (λ (t : Tree). Pool w₁ n (2 * room) room c r (2 * i + 1 + 2) t) target_is u.pool);
        fit = fit-more (subst (λ (t : Tree). length (canon n t) ≤ room) target_is u.small);
      }

      pub refused : i < k → room < length (canon n (target job (nodes count w) root)) → Refused n entry k form room (i + 1)
      refused h f = record {
        some = omega arith;
        within = omega arith;
        over = subst (λ (t : Tree). room < length (canon n t)) target_is f;
        least = λ m lt. g.fit m (omega arith);
      }

    module _ (last : i ≡ k) where
      abbrev goal : Goal
      goal = record { run = record { n = n; stamp = 2 * k + 1; cap = 2 * room }; room = room }

      pub exporting : length out ≡ length out₀ → length w ≡ length w₀ → Exporting w out goal count root
      exporting lo lw = record {
        compacting = record {
          marks = b.marks;
          stamp = omega (arith, b.count);
          few = omega (arith, b.few);
          cap = refl;
          some = b.some;
          long = omega (arith, b.long);
          wide = omega (arith, b.wide);
          fits = omega (arith, g.pool.fits);
          good = g.pool.good;
          stands = g.pool.stands;
          older = subst (λ (x : ℕ). Older w (2 * room) (2 * x + 1)) last g.pool.older;
        };
        small = g.pool.fits;
      }

      pub counted : (out₁ : List ℕ) (m : ℕ) → Exported w out₁ goal count root m → Counted n entry k form room out₁ m
      counted out₁ m e = record {
        table = e.table ∙ ap (canon n) (g.pool.means ∙ ap (run_of n form entry) last);
        small = e.fits;
        fit = subst (Fit n entry form room) last g.fit;
      }
