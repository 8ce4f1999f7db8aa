-- What an export leaves in the reply's buffer.
use Rattle.std.specs.Prelude.{◌≡◌, cond, List, [], ◌∷◌, ℕ, ◌-◌, ltb, length, get_or}
use Rattle.refusal.specs.Verdict.{Verdict, Reply, replied}
use Rattle.refusal.specs.Buffers.{padded, output_after, work_after}

-- the least length of a reply's buffer
abbrev pub reply_length : ℕ
reply_length = 64

-- number, place and values
abbrev pub reply_words : Reply → List ℕ
reply_words r = r.number ∷ r.place ∷ r.values

-- 1 where the buffer is long enough, else 0
abbrev pub accepted : List ℕ → ℕ
accepted before = cond (ltb (length before) reply_length) 0 1

-- the words, then zeros to the end; a buffer too short is left alone
unfoldable pub buffer_with : List ℕ → List ℕ → List ℕ
buffer_with words before = cond (ltb (length before) reply_length) before (padded words (length before))

abbrev pub reply_after : Verdict → List ℕ → List ℕ
reply_after v = buffer_with (reply_words (replied v))

-- the most values that an answer has
abbrev pub few_values : ℕ
few_values = 62

-- a lent buffer after the call: as the entry leaves it, or as it was where the reply's buffer is too short
unfoldable pub lent_after : List ℕ → List ℕ → List ℕ → List ℕ
lent_after reply after before = cond (ltb (length reply) reply_length) before after

-- what an export of an entry with work alone leaves
pub record ExportedWork (v : Verdict) (r : ℕ) (work work' reply reply' : List ℕ) : Type 0 where
  pub returned : r ≡ accepted reply
  pub replies : reply' ≡ reply_after v reply
  pub memory : work' ≡ lent_after reply (work_after v work) work

-- what an export of an entry with an output and work leaves
pub record Exported (v : Verdict) (r : ℕ) (out out' work work' reply reply' : List ℕ) : Type 0 where
  pub rest : ExportedWork v r work work' reply reply'
  pub output : out' ≡ lent_after reply (output_after 0 v out) out

-- what an export of an entry with two outputs leaves
pub record ExportedPair (v : Verdict) (r : ℕ) (first first' second second' reply reply' : List ℕ) : Type 0 where
  pub returned : r ≡ accepted reply
  pub replies : reply' ≡ reply_after v reply
  pub output : first' ≡ lent_after reply (output_after 0 v first) first
  pub other : second' ≡ lent_after reply (output_after 1 v second) second

-- a part of a list in three numbers: how many words, the first and the last
abbrev pub part_values : List ℕ → List ℕ
part_values part = length part ∷ get_or part 0 0 ∷ get_or part (length part - 1) 0 ∷ []
