-- Laws of the list of words: what stands in the array after some marks.
use mathlib.Core.Path.{◌≡◌, refl, sym, ap, ap₂, ◌∙◌}
use mathlib.Core.Bool.{Bool}
use mathlib.Core.List.{List, [], ◌∷◌, ◌++◌, map, append-nil}
use Prim.Native.Nat.{ℕ, suc, ◌+◌, ◌-◌, ◌*◌, ◌^◌, ◌<◌}
use native.Mathlib.Omega.{arith}
use lib.ListN.{length, set, replicate, length-append, length-map}
use lib.Seq.{set_at, append_snoc}
use Rattle.theory.specs.Mask.{bit}
use Rattle.theory.specs.Clause.{Clause, WellFormed, marks_of, entry_of, entries_of}
use Rattle.theory.proofs.Marks.{marks-le}
use Rattle.std.specs.List.{All}
use Rattle.std.proofs.lemmas.List.Elements.{All-head, All-rest}
use Rattle.std.specs.Prelude.{Err}
use Rattle.refusal.specs.Verdict.{refusal_reply, replied}
use Rattle.refusal.specs.declared.Refusal.{Refusal}
use Rattle.refusal.proofs.Judged.{judged_refuses}
use Rattle.valuation.specs.Replies.{value_list_reply, replied_in}
use Rattle.valuation.specs.Valuation.{checked, of_one, lists_values}
use Rattle.valuation.specs.Marks.{mask_bits}
use Rattle.valuation.proofs.MarkLaws.{within, marks_below}
use Rattle.refusal.specs.Limits.{max_marks}
use Rattle.refusal.specs.Buffers.{padded}

-- the words of some marks
abbrev entries_left : Clause → List ℕ → List ℕ
entries_left c = map (λ m. entry_of m (bit m c.values))

-- the words so far and those of the marks that are left are all words; the array holds the words so far, then zeros
pub record Listed (c : Clause) (words : List ℕ) (count : ℕ) (marks : List ℕ) : Type 0 where
  pub done : List ℕ
  pub counted : count ≡ length done
  pub held : words ≡ padded done max_marks
  pub left : done ++ entries_left c marks ≡ entries_of max_marks c
  pub below : All (λ m. m < max_marks) marks

pub listed_start : (c : Clause) → WellFormed max_marks c → (marks : List ℕ) → marks ≡ marks_of mask_bits c.fixed → Listed c (replicate max_marks 0) 0 marks
unfolding entries_of padded
listed_start c w marks e =
    let s : marks ≡ marks_of max_marks c.fixed = e ∙ within mask_bits max_marks c.fixed (omega arith) w.small in
    record { done = []; counted = refl; held = refl; left = ap (entries_left c) s; below = rw s (marks_below max_marks c.fixed) }

module _ {c : Clause} {words : List ℕ} {count m : ℕ} {marks next : List ℕ} (l : Listed c words count marks) (e : marks ≡ m ∷ next) where
  pub mark-lt : m < max_marks
  mark-lt = All-head (λ i. i < max_marks) m next (rw e at l.below)

  splits : entries_left c marks ≡ entry_of m (bit m c.values) ∷ entries_left c next
  splits = ap (entries_left c) e

  pub room : count < max_marks
  unfolding entries_of
  room =
      omega (
        arith,
        ap length l.left,
        length-append l.done (entries_left c marks),
        ap length splits,
        length-map (marks_of max_marks c.fixed) (λ i. entry_of i (bit i c.values)),
        marks-le max_marks c.fixed,
        l.counted,
      )

  pub room_fits : count * 4 < 2 ^ 64
  room_fits = omega (arith, room)

  pub count_fits : count + 1 < 2 ^ 64
  count_fits = omega (arith, room)

  -- one mark more: its value, its word, and the marks that are left then
  pub listed_next : {b : Bool} {w : ℕ} → b ≡ bit m c.values → w ≡ entry_of m b → Listed c (set words count w) (count + 1) next
  unfolding padded
  listed_next {b} {w} v q =
      let k : max_marks - length l.done ≡ suc (max_marks - suc (length l.done)) = omega (arith, room, l.counted) in
      let is : w ≡ entry_of m (bit m c.values) = q ∙ ap (entry_of m) v in
      let s : max_marks - length (l.done ++ (w ∷ [])) ≡ max_marks - suc (length l.done) = omega (arith, length-append l.done (w ∷ [])) in
      record {
        done = l.done ++ (w ∷ []);
        counted = omega (arith, l.counted, length-append l.done (w ∷ []));
        held =
            ap (λ x. set x count w) (l.held ∙ ap (λ j. l.done ++ replicate j 0) k)
            ∙ set_at l.done 0 (replicate (max_marks - suc (length l.done)) 0) w count (sym l.counted)
            ∙ sym (append_snoc l.done w (replicate (max_marks - suc (length l.done)) 0))
            ∙ ap (λ j. l.done ++ (w ∷ []) ++ replicate j 0) (sym s);
        left = append_snoc l.done w (entries_left c next) ∙ ap (λ x. l.done ++ x) (ap (λ x. x ∷ entries_left c next) is ∙ sym splits) ∙ l.left;
        below = All-rest (λ i. i < max_marks) m next marks e l.below;
      }

-- no mark is left: all words, then zeros
pub listed-end : {c : Clause} {words : List ℕ} {count : ℕ} {marks : List ℕ} → Listed c words count marks → marks ≡ []
    → (count ∷ words) ≡ padded (length (entries_of max_marks c) ∷ entries_of max_marks c) (suc max_marks)
unfolding padded
listed-end {c} {words} {count} {marks} l e =
    let all : l.done ≡ entries_of max_marks c = sym (append-nil l.done) ∙ ap (λ x. l.done ++ x) (sym (ap (entries_left c) e)) ∙ l.left in
    let j : max_marks - length (entries_of max_marks c) ≡ suc max_marks - suc (length (entries_of max_marks c)) = omega arith in
    ap₂ (λ k ws. k ∷ ws) (l.counted ∙ ap length all)
    (l.held ∙ ap (λ x. x ++ replicate (max_marks - length x) 0) all ∙ ap (λ k. entries_of max_marks c ++ replicate k 0) j)

pub list_refused : (c : Clause) (r : Refusal) → refusal_reply r ≡ replied (checked (of_one c)) → value_list_reply (Err r) ≡ replied_in (suc max_marks) (lists_values c)
unfolding replied_in lists_values
list_refused c r e = ap (replied_in (suc max_marks)) (sym (judged_refuses (of_one c) _ r e))
