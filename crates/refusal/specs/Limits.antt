-- The limits, each named once.
use Rattle.std.specs.Prelude.{ℕ, ◌+◌, ◌*◌}

-- the most marks: n is at most this, and a valuation alone has so many
abbrev pub max_marks : ℕ
max_marks = 60

-- the most nodes of a table, and of a room
abbrev pub max_nodes : ℕ
max_nodes = 4096

-- a case is a u64
abbrev pub case_bits : ℕ
case_bits = 64

-- the least node room
abbrev pub min_room : ℕ
min_room = 2

-- the most input clauses or cases
abbrev pub max_clauses : ℕ
max_clauses = 1024

-- the u32 words of work that an entry needs, for W the larger of room and any input node count
abbrev pub plain_work : ℕ → ℕ
plain_work W = 12 * W + 192

-- and that the short list needs
abbrev pub deep_work : ℕ → ℕ → ℕ
deep_work W n = 24 * W * (n + 2) + 192
