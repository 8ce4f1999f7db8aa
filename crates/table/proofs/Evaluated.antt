-- What evaluation's verdict is for a sound table and a case within its marks.
use mathlib.Core.Path.{◌≡◌}
use mathlib.Core.List.{List, [], ◌∷◌}
use Prim.Native.Nat.{ℕ, ◌-◌, ◌^◌, ◌<◌}
use native.Mathlib.Omega.{arith}
use borrow.Author.Tests.{le-ltb, lt-leb}
use Rattle.theory.specs.Table.{num}
use Rattle.refusal.specs.Number.{order}
use Rattle.refusal.specs.Verdict.{answered, first_of, tried, judged}
use Rattle.table.specs.Inspection.{over_limit, too_short, SoundTable}
use Rattle.table.specs.Case.{over_case, table_says, evaluates}
use Rattle.table.proofs.InspectLaws.{bad_none}

pub sound-evaluates : (n count : ℕ) (w : List ℕ) (case : ℕ) → SoundTable n count w (count - 1) → case < 2 ^ n
    → evaluates n count w case ≡ answered (num (table_says n count w case) ∷ []) []
unfolding evaluates judged tried order first_of over_limit too_short over_case
sound-evaluates n count w case t h =
    rw (
      le-ltb _ _ t.marks,
      le-ltb _ _ t.some,
      le-ltb _ _ t.few,
      le-ltb _ _ t.long,
      lt-leb _ _ h,
      bad_none n count w t.ordered,
      le-ltb count count (omega arith),
    )
