-- Room and work: what may be wrong with an entry that makes a table, its tables and its list apart.
use Rattle.std.specs.Prelude.{Bool, ◌||◌, List, [], ◌∷◌, ℕ, ◌*◌, ltb, length}
use Rattle.theory.specs.Words.{stride}
use Rattle.refusal.specs.Number.{LIMIT, SHORT}
use Rattle.refusal.specs.Limits.{min_room, max_nodes, plain_work}
use Rattle.refusal.specs.Verdict.{Finding, finding}

-- LIMIT: node room outside 2..4096
unfoldable pub over_room : ℕ → Bool
over_room room = ltb room min_room || ltb max_nodes room

-- SHORT: node output too small
unfoldable pub short_output : ℕ → List ℕ → Bool
short_output room out = ltb (length out) (stride * room)

-- SHORT: work too small, for the widest of room and input counts
unfoldable pub short_work : ℕ → List ℕ → Bool
short_work widest work = ltb (length work) (plain_work widest)

-- what may be wrong with a room, the node output and the work
abbrev pub room_findings : ℕ → List ℕ → ℕ → List ℕ → List Finding
room_findings room out widest work =
    finding LIMIT (over_room room) 0 ∷ finding SHORT (short_output room out) 0 ∷ finding SHORT (short_work widest work) 0 ∷ []
