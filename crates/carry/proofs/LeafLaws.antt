-- A node made, on its way into the memo.
use Rattle.std.proofs.Common.{List, ℕ, suc, ◌+◌, ◌-◌, ◌<◌, length, subst, arith}
use Rattle.theory.specs.Table.{Table, mk}
use Rattle.theory.specs.Words.{nodes}
use Rattle.theory.proofs.Words.{length-nodes}
use Rattle.theory.proofs.Walk.{mk-sound}
use Rattle.pool.specs.Pool.{Noding, Holds}

-- a node made has a number whose successor is a word
pub made_small : (out : List ℕ) (n room m v p q : ℕ) → Noding out n room m v p q → (out' : List ℕ) (r m' : ℕ) → Holds (mk (nodes m out) v p q) room out' r m' → r + 1 < 4294967296
made_small out n room m v p q g out' r m' d =
    let lies : r < length (nodes m' out') = subst (λ (z : Table × ℕ). z.1 < length z.0) d.is (mk-sound n (nodes m out) g.good (n - suc v) v p q (omega (arith, g.level)) g.low g.high).stands.lies in
    omega (arith, length-nodes m' out', d.fits, g.pushing.few)
