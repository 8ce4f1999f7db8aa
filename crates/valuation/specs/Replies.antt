-- The words of each answer of this crate, and the replies that are more than words.
use Rattle.std.specs.Prelude.{cond, List, [], ◌∷◌, ℕ, suc, Option, Result, Ok, Err}
use Rattle.refusal.specs.Number.{number_of}
use Rattle.refusal.specs.Limits.{max_marks}
use Rattle.refusal.specs.Buffers.{padded}
use Rattle.refusal.specs.Verdict.{Verdict, refused, answered, Reply, gives, refusal_reply}
use Rattle.refusal.specs.Told.{optional}
use Rattle.refusal.specs.declared.Refusal.{Refusal}
use Rattle.valuation.specs.declared.BddVariable.{BddVariable}
use Rattle.valuation.specs.declared.BddPartialValuation.{BddPartialValuation}
use Rattle.valuation.specs.declared.Cell.{Cell}
use Rattle.valuation.specs.declared.Cell.TheVariants.{Unset, Value}
use Rattle.valuation.specs.declared.Lookup.{Lookup}
use Rattle.valuation.specs.declared.Lookup.TheVariants as lookup
use Rattle.valuation.specs.declared.Values.{Values}

-- unset is 0, a value is 1 and the value
abbrev pub cell_words : Cell → List ℕ
cell_words Unset = 0 ∷ []
cell_words (Value b) = 1 ∷ cond b 1 0 ∷ []

-- the two words
abbrev pub both_words : BddPartialValuation → List ℕ
both_words v = v.fixed ∷ v.values ∷ []

-- a mark is its number
abbrev pub mark_word : BddVariable → List ℕ
mark_word m = m.0 ∷ []

-- nothing is 0, a mark is 1 and the mark
abbrev pub mark_words : Option BddVariable → List ℕ
mark_words = optional mark_word

-- the count and all the words
abbrev pub all_words : Values → List ℕ
all_words l = l.count ∷ l.words

unfoldable pub lookup_reply : Lookup → Reply
lookup_reply (lookup.Found c) = gives (cell_words c)
lookup_reply (lookup.Refused r) = refusal_reply r

-- the count and all the words; a refused list has zeros in their place
abbrev pub value_list_reply : Result Values Refusal → Reply
value_list_reply (Ok l) = gives (all_words l)
value_list_reply (Err r) = record { number = number_of r.kind; place = r.place; values = padded [] (suc max_marks) }

-- where an answer has room for k values: zeros after them, and whatever else a refused call returns is zero
unfoldable pub replied_in : ℕ → Verdict → Reply
replied_in k (refused n p) = record { number = n; place = p; values = padded [] k }
replied_in k (answered vs outs) = gives (padded vs k)
