-- Operations as truth tables, and a set mark that sets nothing.
use mathlib.Core.Path.{◌≡◌, refl}
use mathlib.Core.Bool.{Bool, true, false, not, ◌||◌, ◌&&◌}
use Rattle.theory.specs.Mask.{bit}
use Rattle.theory.specs.Tree.{and_not}
use Rattle.join.specs.declared.Operation.{Operation}
use Rattle.join.specs.declared.Operation.TheVariants.{And, Or, AndNot}
use Rattle.join.specs.Task.{truth_table, answer_of, op_of}

pub and-table : op_of 8 ≡ ◌&&◌
unfolding op_of bit
and-table = λ i x y. entry x y i
  where
    entry : (x y : Bool) → op_of 8 x y ≡ x && y
    entry true true = refl
    entry true false = refl
    entry false true = refl
    entry false false = refl

pub or-table : op_of 14 ≡ ◌||◌
unfolding op_of bit
or-table = λ i x y. entry x y i
  where
    entry : (x y : Bool) → op_of 14 x y ≡ x || y
    entry true true = refl
    entry true false = refl
    entry false true = refl
    entry false false = refl

pub and_not-table : op_of 4 ≡ and_not
unfolding op_of bit
and_not-table = λ i x y. entry x y i
  where
    entry : (x y : Bool) → op_of 4 x y ≡ x && not y
    entry true true = refl
    entry true false = refl
    entry false true = refl
    entry false false = refl

-- an operation's number is its truth table
pub table_answers : (op : Operation) → op_of (truth_table op) ≡ answer_of op
table_answers And = and-table
table_answers Or = or-table
table_answers AndNot = and_not-table
