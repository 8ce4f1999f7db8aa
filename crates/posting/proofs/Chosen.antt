-- The choice by the measures of the two lists, and that it leaves one result.
use mathlib.Core.Path.{◌≡◌, sym, ◌∙◌}
use mathlib.Core.Bool.{true, false, cond}
use mathlib.Core.List.{List}
use Prim.Native.Nat.{ℕ, ◌<◌, ◌≤◌}
use lib.Dec.{leb}
use borrow.Author.Tests.{le-leb, lt-leb}
use Rattle.posting.specs.Posting.{measure, whole_clauses, posts_dnf, posting}

module _ (dnf cnf : List ℕ) where
  -- a list that is no dearer than the other
  pub posts-dnf : (m k : ℕ) → m ≡ measure dnf → k ≡ measure cnf → m ≤ k → (posts_dnf dnf cnf ≡ true) × (posting dnf cnf ≡ whole_clauses dnf)
  unfolding posts_dnf posting
  posts-dnf m k e f h = let t : leb (measure dnf) (measure cnf) ≡ true = rw (← e, ← f) (le-leb m k h) in (t, rw t)

  pub posts-cnf : (m k : ℕ) → m ≡ measure dnf → k ≡ measure cnf → k < m → (posts_dnf dnf cnf ≡ false) × (posting dnf cnf ≡ whole_clauses cnf)
  unfolding posts_dnf posting
  posts-cnf m k e f h = let t : leb (measure dnf) (measure cnf) ≡ false = rw (← e, ← f) (lt-leb m k h) in (t, rw t)

  -- two results with the promised words and the promised start are one
  pub single : {P : Type 0} (d c p q : P) (u v : List ℕ) → u ≡ posting dnf cnf → p ≡ cond (posts_dnf dnf cnf) d c → v ≡ posting dnf cnf → q ≡ cond (posts_dnf dnf cnf) d c → (u ≡ v) × (p ≡ q)
  single d c p q u v a b e f = (a ∙ sym e, b ∙ sym f)
