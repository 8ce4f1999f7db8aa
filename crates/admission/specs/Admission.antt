-- What may be wrong with entries that take work, group by group; the order comes from `judged` alone.
use Rattle.std.specs.Prelude.{Bool, cond, List, [], ◌∷◌, ◌++◌, ℕ, max, leb, Result, Ok, Err}
use Rattle.refusal.specs.Number.{SHORT, VARIABLE}
use Rattle.refusal.specs.Verdict.{Finding, finding}
use Rattle.refusal.specs.declared.Refusal.{Refusal}
use Rattle.refusal.specs.declared.RefusalKind.TheVariants.{Limit, Short}
use Rattle.table.specs.Inspection.{over_limit, too_short, table_findings}
use Rattle.making.specs.Room.{over_room, short_output, short_work, room_findings}

-- VARIABLE: the mark argument is n or more; its place is the mark
abbrev pub over_mark : ℕ → ℕ → Bool
over_mark n mark = leb n mark

-- a table and work
abbrev pub work_findings : ℕ → ℕ → List ℕ → List ℕ → List Finding
work_findings n count words work = table_findings n count words ++ (finding SHORT (short_work count work) 0 ∷ [])

-- a table, a room, an output and work: the widest is the larger of room and count
abbrev pub table_room_findings : ℕ → ℕ → List ℕ → ℕ → List ℕ → List ℕ → List Finding
table_room_findings n count words room out work = table_findings n count words ++ room_findings room out (max room count) work

-- the same with a mark
abbrev pub mark_findings : ℕ → ℕ → List ℕ → ℕ → ℕ → List ℕ → List ℕ → List Finding
mark_findings n count words mark room out work = finding VARIABLE (over_mark n mark) mark ∷ table_room_findings n count words room out work

-- two tables, the left looked at first at each number
abbrev pub pair_findings : ℕ → ℕ → List ℕ → ℕ → List ℕ → ℕ → List ℕ → List ℕ → List Finding
pair_findings n lefts left rights right room out work =
    table_findings n lefts left ++ (table_findings n rights right ++ room_findings room out (max room (max lefts rights)) work)

abbrev pub limit : Result (Unit {0}) Refusal
limit = Err (record { kind = Limit; place = 0 })

abbrev pub short : Result (Unit {0}) Refusal
short = Err (record { kind = Short; place = 0 })

-- LIMIT, then SHORT, of the sizes alone
unfoldable pub sizes : ℕ → ℕ → List ℕ → ℕ → List ℕ → List ℕ → Result (Unit {0}) Refusal
sizes n count words room out work =
    cond (over_limit n count) limit
    (cond (over_room room) limit
    (cond (too_short count words) short (cond (short_output room out) short (cond (short_work (max room count) work) short (Ok tt)))))

unfoldable pub pair_sizes : ℕ → ℕ → List ℕ → ℕ → List ℕ → ℕ → List ℕ → List ℕ → Result (Unit {0}) Refusal
pair_sizes n lefts left rights right room out work =
    cond (over_limit n lefts) limit
    (cond (over_limit n rights) limit
    (cond (over_room room) limit
    (cond (too_short lefts left) short
    (cond (too_short rights right) short
    (cond (short_output room out) short (cond (short_work (max room (max lefts rights)) work) short (Ok tt)))))))
