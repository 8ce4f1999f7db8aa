-- What becomes of the lent buffers, for every entry.
use Rattle.std.specs.Prelude.{Bool, cond, ◌||◌, List, [], ◌++◌, ℕ, ◌-◌, eqb, length, replicate, get_or}
use Rattle.refusal.specs.Number.{NODES, CLAUSES}
use Rattle.refusal.specs.Verdict.{Verdict, refused, answered}

-- the words, then zeros to the end of the lent slice
unfoldable pub padded : List ℕ → ℕ → List ℕ
padded ws k = ws ++ replicate (k - length ws) 0

-- NODES and CLAUSES zero the lent buffers completely; every other refusal touches nothing
unfoldable pub zeroing : ℕ → Bool
zeroing k = eqb k NODES || eqb k CLAUSES

-- a lent buffer after the call, where an answer puts the words w of its outputs there
unfoldable pub buffer_after : (List (List ℕ) → List ℕ) → Verdict → List ℕ → List ℕ
buffer_after w (refused k p) before = cond (zeroing k) (padded [] (length before)) before
buffer_after w (answered vs outs) before = padded (w outs) (length before)

-- the lent output number i
abbrev pub output_after : ℕ → Verdict → List ℕ → List ℕ
output_after i = buffer_after (λ outs. get_or outs i [])

-- the lent work memory: a success zeroes it
abbrev pub work_after : Verdict → List ℕ → List ℕ
work_after = buffer_after (λ outs. [])
