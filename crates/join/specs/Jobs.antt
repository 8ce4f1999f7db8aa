-- The two kinds of jobs.
use Rattle.std.specs.Prelude.{true, false, ℕ}
use Rattle.valuation.specs.declared.BddVariable.{BddVariable}
use Rattle.join.specs.declared.Operation.{Operation}
use Rattle.join.specs.declared.Job.{Job}
use Rattle.join.specs.Task.{truth_table}

-- the join of two tables as they are
abbrev pub pair_job : ℕ → Operation → ℕ → ℕ → ℕ → Job
pair_job n op lefts rights room = record {
  n = n;
  op = truth_table op;
  left = record { count = lefts; variable = record { 0 = n }; value = false };
  right = record { count = rights; variable = record { 0 = n }; value = false };
  room = room;
}

-- the join of one table with itself, the mark set to 0 and to 1
abbrev pub mark_job : ℕ → Operation → ℕ → BddVariable → ℕ → Job
mark_job n op count variable room = record {
  n = n;
  op = truth_table op;
  left = record { count = count; variable = variable; value = false };
  right = record { count = count; variable = variable; value = true };
  room = room;
}
