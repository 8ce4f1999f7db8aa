-- The reply of a list of values: a refused one has zeros in the words' places, as a buffer's end has.
use Rattle.std.proofs.Common.{◌≡◌, refl, sym, ap, ◌∙◌, List, [], ◌∷◌, ◌++◌, ℕ, zero, suc, ◌+◌, ◌-◌, length, replicate, arith}
use Rattle.std.specs.Prelude.{Result, Ok, Err}
use native.Mathlib.Decide.{dec_lt}
use native.Mathlib.Nat.{zero-add, suc-add}
use borrow.Author.Tests.{lt-ltb, le-ltb}
use Rattle.refusal.specs.Number.{number_of}
use Rattle.refusal.specs.Buffers.{padded}
use Rattle.refusal.specs.Told.{reply_of}
use Rattle.refusal.specs.Verdict.{Verdict, Reply}
use Rattle.refusal.specs.declared.Refusal.{Refusal}
use Rattle.valuation.specs.declared.Values.{Values}
use Rattle.valuation.specs.Replies.{all_words, value_list_reply, replied_in}
use Rattle.replies.specs.Replies.{reply_length, reply_words, buffer_with}

replicate-add : (a b : ℕ) → replicate a 0 ++ replicate b 0 ≡ replicate {A = ℕ} (a + b) 0
replicate-add zero b = ap (λ k. replicate k 0) (sym (zero-add b))
replicate-add (suc a) b = rw (suc-add a b) (ap (λ l. 0 ∷ l) (replicate-add a b))

zeros_within : (k p : ℕ) (reply : List ℕ) → buffer_with (k ∷ p ∷ []) reply ≡ buffer_with (k ∷ p ∷ padded [] 61) reply
unfolding buffer_with padded
zeros_within k p reply = elim (dec_lt (length reply) reply_length) [
  | yes h ↦ rw (lt-ltb (length reply) reply_length h) refl
  | no h ↦
      let e : 61 + (length reply - 63) ≡ length reply - 2 = omega arith in
      rw (le-ltb (length reply) reply_length (omega arith)) (ap (λ (z : List ℕ). k ∷ p ∷ z) (ap (λ (j : ℕ). replicate j 0) (sym e) ∙ sym (replicate-add 61 (length reply - 63))))
]

pub list_told : (a : Result Values Refusal) (v : Verdict) (reply : List ℕ) → value_list_reply a ≡ replied_in 61 v → buffer_with (reply_words (reply_of all_words a)) reply ≡ buffer_with (reply_words (replied_in 61 v)) reply
list_told (Ok l) v reply e = ap (λ (r : Reply). buffer_with (reply_words r) reply) e
list_told (Err r) v reply e = zeros_within (number_of r.kind) r.place reply ∙ ap (λ (q : Reply). buffer_with (reply_words q) reply) e
