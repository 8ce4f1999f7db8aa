-- The laws of a state that holds a path to node 1 or none, where it is not asked which, and of a walk that came from a start.
use Rattle.std.proofs.Common.{◌≡◌, ◌≢◌, ◌≤◌, ◌<◌, ◌+◌, ◌*◌, ◌-◌, ◌++◌, List, ℕ, suc, length, set, take, eqb, sym, ◌∙◌, subst}
use Rattle.std.proofs.Math.Logic.{∥∥₁_elim, ∥∥₁_map}
use Rattle.std.proofs.Props.{props}
use Rattle.theory.specs.Words.{stride, node_at}
use Rattle.theory.specs.Clause.{set_cell}
use Rattle.refusal.specs.Limits.{max_marks}
use Rattle.table.specs.declared.BddPointer.{BddPointer}
use Rattle.valuation.specs.declared.BddPartialValuation.{BddPartialValuation}
use Rattle.valuation.specs.Valuation.{clause_of}
use Rattle.walk.specs.declared.PathState.{PathState}
use Rattle.walk.specs.Path.{Path, on, first_from, onward, kept, clause_along, places, state_of, held, Held, Descending}
use Rattle.walk.specs.Step.{next_path, start_of, words_of, path_of, Came}
use Rattle.walk.proofs.PathLaws as of
use Rattle.walk.proofs.PathLaws.{Celled, Descent}
use Rattle.walk.proofs.KthLaws.{after_held}

module _ (w : List ℕ) (s : PathState) (t : ∥ Held w s ∥₁) where
  pub short : s.len ≤ places
  short = ∥∥₁_elim t (hlevel props) (of.state_short w s)

  pub long : length s.path ≡ places
  long = ∥∥₁_elim t (hlevel props) (of.state_long w s)

  pub reads : (i : ℕ) → i < s.len → stride * on s.path i + 2 < length w
  reads = ∥∥₁_elim t (hlevel props) (of.state_reads w s)

  pub marks : (i : ℕ) → suc i < s.len → (node_at w (on s.path i)).mark < max_marks
  marks = ∥∥₁_elim t (hlevel props) (of.state_mark w s)

  pub next_none : s.len ≡ 0 → s ≡ next_path w s
  next_none = ∥∥₁_elim t (hlevel props) (of.next-none w s)

  module _ (some : s.len ≢ 0) (keep : ℕ) (is-kept : keep ≡ kept w s.path (s.len - 1)) (start : PathState) (is-start : start ≡ state_of (take keep s.path)) where
    pub next_ends : keep ≡ 0 → start ≡ next_path w s
    next_ends = ∥∥₁_elim t (hlevel props) (λ h. of.next-ends w s h some keep is-kept start is-start)

    module _ (more : keep ≢ 0) (high : ℕ) (is-high : high ≡ (node_at w (on s.path (keep - 1))).high) where
      pub next_descends : ∥ Descending w start high ∥₁
      next_descends = ∥∥₁_map t (λ h. of.next-descends w s h some keep is-kept start is-start more high is-high)

      pub next_goes : (r : PathState) → r ≡ state_of (held start ++ first_from max_marks w high) → r ≡ next_path w s
      next_goes = ∥∥₁_elim t (hlevel props) (λ h. of.next-goes w s h some keep is-kept start is-start more high is-high)

  pub celled_more : (v v' : BddPartialValuation) (i m high : ℕ) → i < s.len → Celled w (held s) (clause_of v) i
      → m ≡ (node_at w (on s.path (i - 1))).mark → high ≡ (node_at w (on s.path (i - 1))).high → clause_of v' ≡ set_cell (clause_of v) m (eqb high (on s.path i))
      → Celled w (held s) (clause_of v') (i + 1)
  celled_more = ∥∥₁_elim t (hlevel props) (of.celled_more w s)

  pub celled_all : (v : BddPartialValuation) (i : ℕ) → s.len ≤ i → Celled w (held s) (clause_of v) i → clause_of v ≡ clause_along w (held s)
  celled_all = ∥∥₁_elim t (hlevel props) (of.celled_all w s)

-- the first path, node by node
pub descent_start : (w : List ℕ) (s : PathState) (p : ℕ) → ∥ Descending w s p ∥₁ → ∥ Descent w (held s ++ first_from max_marks w p) s.len s.path p ∥₁
descent_start w s p t = ∥∥₁_map t (of.descent_start w s p)

module _ (w : List ℕ) (whole : Path) (len : ℕ) (path : Path) (q : BddPointer) (t : ∥ Descent w whole len path q.0 ∥₁) where
  pub descent_fits : len < places
  descent_fits = ∥∥₁_elim t (hlevel props) (of.descent_fits w whole len path q)

  pub descent_reads : stride * q.0 + 2 < length w
  descent_reads = ∥∥₁_elim t (hlevel props) (of.descent_reads w whole len path q)

  pub descent_step : 1 < q.0 → (q' : ℕ) → q' ≡ onward (node_at w q.0) → ∥ Descent w whole (len + 1) (set path len q) q' ∥₁
  descent_step two q' e = ∥∥₁_map t (λ d. of.descent_step w whole len path q d two q' e)

  pub descent_falls : 1 < q.0 → (q' : ℕ) → q' ≡ onward (node_at w q.0) → q' < q.0
  descent_falls = ∥∥₁_elim t (hlevel props) (of.descent_falls w whole len path q)

  pub descent_end : q.0 ≤ 1 → ◌≡◌ {A = PathState} (record { len = len + 1; path = set path len q }) (state_of whole)
  descent_end = ∥∥₁_elim t (hlevel props) (of.descent_end w whole len path q)

-- what a start has found, or some steps after it, is a path to node 1 or none; and so is what a step makes of it
pub came_holds : (w : List ℕ) (s : PathState) → ∥ Came w s ∥₁ → ∥ Held w s ∥₁
came_holds w s t = ∥∥₁_map t (λ c. held_by c)
  where
    held_by : Came w s → Held w s
    held_by (n, (c, (xs, (k, (e, f))))) = subst (λ (ys : List ℕ). Held ys s) (sym e) (subst (Held (words_of n c xs)) (sym f) (after_held n c xs k))

pub came_start : (n c : ℕ) (xs w : List ℕ) (s : PathState) → w ≡ words_of n c xs → s ≡ path_of (start_of n c xs) → ∥ Came w s ∥₁
came_start n c xs w s e f = ∣ (n, (c, (xs, (0, (e, f))))) ∣₁

pub came_on : (w : List ℕ) (s r : PathState) → r ≡ next_path w s → ∥ Came w s ∥₁ → ∥ Came w r ∥₁
came_on w s r is t = ∥∥₁_map t (λ c. on_by c)
  where
    on_by : Came w s → Came w r
    on_by (n, (c, (xs, (k, (e, f))))) = (n, (c, (xs, (suc k, (e, (is ∙ (λ i. next_path (e i) (f i))))))))
