-- Laws of the answers: what each says of bits, cells and marks.
use mathlib.Core.Path.{◌≡◌, sym, ap, ◌∙◌}
use mathlib.Core.Logic.{◌≢◌}
use mathlib.Core.Bool.{Bool, false}
use mathlib.Core.List.{[], ◌∷◌}
use mathlib.Core.Option.{Option, none}
use Prim.Native.Nat.{ℕ, ◌-◌, ◌^◌, ◌<◌}
use native.Mathlib.Omega.{arith}
use lib.Count.{ones, count_leading_zeros}
use lib.ListN.{length}
use Rattle.theory.specs.Mask.{bit}
use Rattle.theory.specs.Clause.{Clause, cell, marks_of, last_mark}
use Rattle.theory.proofs.Marks.{ones_marks, leading_last, last_none}
use Rattle.refusal.specs.Limits.{max_marks}
use Rattle.refusal.specs.Verdict.{replied, gives, answered}
use Rattle.valuation.specs.Valuation.{cell_of, says_cell, says_mark}
use Rattle.valuation.specs.Replies.{cell_words, mark_words}
use Rattle.valuation.specs.declared.Cell.{Cell}
use Rattle.valuation.specs.declared.Cell.TheVariants.{Unset, Value}
use Rattle.std.specs.Prelude.{Some, None}

pub cell-none : (c : Clause) (m : ℕ) → bit m c.fixed ≡ false → none ≡ cell c m
unfolding cell
cell-none c m t = rw t

pub found : (k : Cell) (o : Option Bool) → cell_of k ≡ o → gives (cell_words k) ≡ replied (says_cell o)
unfolding replied says_cell
found Unset o e = ap (λ x. replied (says_cell x)) e
found (Value b) o e = ap (λ x. replied (says_cell x)) e

pub last_nothing : (mask : ℕ) → mask ≡ 0 → gives (mark_words None) ≡ replied (says_mark (last_mark max_marks mask))
unfolding replied says_mark
last_nothing mask e = ap (λ x. replied (says_mark x)) (sym (last_none max_marks) ∙ ap (last_mark max_marks) (sym e))

pub last_variable : (mask : ℕ) → mask < 2 ^ max_marks → mask ≢ 0 → gives (mark_words (Some (record { 0 = 63 - count_leading_zeros 64 mask }))) ≡ replied (says_mark (last_mark max_marks mask))
unfolding replied says_mark
last_variable mask h p = ap (λ x. replied (says_mark x)) (sym (leading_last 64 max_marks mask (omega arith) h (omega arith)))

pub counts : (mask : ℕ) → mask < 2 ^ max_marks → gives (ones mask ∷ []) ≡ replied (answered (length (marks_of max_marks mask) ∷ []) [])
unfolding replied
counts mask h = ap (λ k. gives (k ∷ [])) (ones_marks max_marks mask h)
