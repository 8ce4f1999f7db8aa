-- Any words may reach any entry. Bad input gets its refusal in the order of checking; an inspection refusal changes no buffer, a room refusal
-- leaves output and work memory zero. Each promise leaves one possible answer.
use mathlib.Core.Path.{◌≡◌, refl}
use mathlib.Core.Logic.{◌↔◌}
use mathlib.Core.Bool.{Bool, true, false}
use mathlib.Core.List.{List, [], ◌∷◌, ◌++◌}
use Prim.Native.Nat.{ℕ, ◌*◌, ◌-◌, ◌≤◌, ◌<◌}
use native.Mathlib.Omega.{arith}
use lib.ListN.{length, get_or, replicate}
use Rattle.theory.specs.Clause.{Clause}
use Rattle.theory.specs.Table.{node_ok, Ordered}
use Rattle.theory.specs.Words.{nodes}
use Rattle.refusal.specs.Number.{LIMIT, SHORT, VARIABLE, CLAUSE, TABLE, REDUCED, NODES, CLAUSES, SHEET}
use Rattle.refusal.specs.Buffers.{padded, zeroing, buffer_after, output_after, work_after}
use Rattle.refusal.specs.Verdict.{refused, answered}
use Rattle.std.specs.Prelude.{Result}
use Rattle.refusal.specs.Told.{number, truth, reply_of}
use Rattle.refusal.specs.declared.Refusal.{Refusal}
use Rattle.refusal.proofs.Single.{Single, single, truth-one, number-one}
use Rattle.valuation.specs.declared.Values.{Values}
use Rattle.valuation.specs.Replies.{lookup_reply, both_words, mark_words, value_list_reply, replied_in}
use Rattle.valuation.specs.Valuation.{asks_empty, counts_fixed, finds_last, gathers_values, lists_values, gets_value, asks_value, sets_value, unsets_value, asks_extends, asks_equal}
use Rattle.valuation.proofs.OneToOne.{lookup_one, updated_one, last_one, single-list}
use Rattle.table.specs.Inspection.{inspection_reply, inspects, SoundTable}
use Rattle.table.specs.Case.{evaluates}
use Rattle.table.proofs.InspectionSingle.{inspection_one}
use Rattle.table.proofs.Inspected.{inspects-sound, sound-inspects, table-place}

-- one possible answer, entry by entry
inspect-single : (n count : ℕ) (words : List ℕ) → Single inspection_reply (inspects n count words)
inspect-single n count words = single inspection_reply inspection_one (inspects n count words)

eval_in-single : (n count : ℕ) (words : List ℕ) (case : ℕ) → Single (reply_of truth) (evaluates n count words case)
eval_in-single n count words case = single (reply_of truth) truth-one (evaluates n count words case)

is_empty-single : (c : Clause) → Single (reply_of truth) (asks_empty c)
is_empty-single c = single (reply_of truth) truth-one (asks_empty c)

cardinality-single : (c : Clause) → Single (reply_of number) (counts_fixed c)
cardinality-single c = single (reply_of number) number-one (counts_fixed c)

last_fixed_variable-single : (c : Clause) → Single (reply_of mark_words) (finds_last c)
last_fixed_variable-single c = single (reply_of mark_words) last_one (finds_last c)

from_values-single : (values : List ℕ) → Single (reply_of both_words) (gathers_values values)
from_values-single values = single (reply_of both_words) updated_one (gathers_values values)

to_values-single : (c : Clause) (a b : Result Values Refusal) → value_list_reply a ≡ replied_in 61 (lists_values c) → value_list_reply b ≡ replied_in 61 (lists_values c) → a ≡ b
to_values-single c = single-list 61 (lists_values c)

get_value-single : (c : Clause) (mark : ℕ) → Single lookup_reply (gets_value c mark)
get_value-single c mark = single lookup_reply lookup_one (gets_value c mark)

has_value-single : (c : Clause) (mark : ℕ) → Single (reply_of truth) (asks_value c mark)
has_value-single c mark = single (reply_of truth) truth-one (asks_value c mark)

set_value-single : (c : Clause) (mark : ℕ) (value : Bool) → Single (reply_of both_words) (sets_value c mark value)
set_value-single c mark value = single (reply_of both_words) updated_one (sets_value c mark value)

unset_value-single : (c : Clause) (mark : ℕ) → Single (reply_of both_words) (unsets_value c mark)
unset_value-single c mark = single (reply_of both_words) updated_one (unsets_value c mark)

extends-single : (c d : Clause) → Single (reply_of truth) (asks_extends c d)
extends-single c d = single (reply_of truth) truth-one (asks_extends c d)

eq-single : (c d : Clause) → Single (reply_of truth) (asks_equal c d)
eq-single c d = single (reply_of truth) truth-one (asks_equal c d)

-- inspection answers the root exactly for ordered tables within the limits
inspect-sound : (n count : ℕ) (words : List ℕ)
    → (inspects n count words ≡ answered ((count - 1) ∷ []) [])
    ↔ ((n ≤ 60) × (1 ≤ count) × (count ≤ 4096) × (3 * count ≤ length words) × Ordered n (nodes count words))
inspect-sound n count words = (
  (λ e. let t : SoundTable n count words (count - 1) = inspects-sound n count words e in (t.marks, t.some, t.few, t.long, t.ordered)),
  (λ h. sound-inspects n count words (record { marks = h.0; some = h.1; few = h.2; long = h.3; ordered = h.4; last = refl })),
)

-- TABLE's place is the first node that breaks the order
inspect-place : (n count : ℕ) (words : List ℕ) (place : ℕ) → inspects n count words ≡ refused TABLE place
    → (place < count) × (node_ok n (nodes count words) place ≡ false) × ((i : ℕ) → i < place → node_ok n (nodes count words) i ≡ true)
inspect-place n count words place e = table-place n count words place e

-- numbers 1 to 6 and 9 touch nothing: whatever a lent buffer holds, it holds afterwards
untouched : (w : List (List ℕ) → List ℕ) (place : ℕ) (before : List ℕ)
    → (buffer_after w (refused LIMIT place) before ≡ before)
    × (buffer_after w (refused SHORT place) before ≡ before)
    × (buffer_after w (refused VARIABLE place) before ≡ before)
    × (buffer_after w (refused CLAUSE place) before ≡ before)
    × (buffer_after w (refused TABLE place) before ≡ before)
    × (buffer_after w (refused REDUCED place) before ≡ before)
    × (buffer_after w (refused SHEET place) before ≡ before)
unfolding buffer_after zeroing
untouched w place before = (refl, refl, refl, refl, refl, refl, refl)

-- numbers 7 and 8 zero every lent buffer to its end
zeroed : (w : List (List ℕ) → List ℕ) (place : ℕ) (before : List ℕ)
    → (buffer_after w (refused NODES place) before ≡ replicate (length before) 0) × (buffer_after w (refused CLAUSES place) before ≡ replicate (length before) 0)
unfolding buffer_after zeroing padded
zeroed w place before = let e : length before - 0 ≡ length before = omega arith in rw e (refl, refl)

-- a success zeroes work, and every output word past the result
settled : (values : List ℕ) (outs : List (List ℕ)) (before : List ℕ)
    → (work_after (answered values outs) before ≡ replicate (length before) 0)
    × ((i : ℕ) → output_after i (answered values outs) before ≡ get_or outs i [] ++ replicate (length before - length (get_or outs i [])) 0)
unfolding buffer_after padded
settled values outs before = let e : length before - 0 ≡ length before = omega arith in (rw e, λ i. refl)
