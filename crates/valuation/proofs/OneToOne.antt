-- Different answers of this crate have different replies, so a promise about the reply leaves one answer.
use Rattle.std.specs.Prelude.{Bool, true, false, cond, ℕ, length, Option, Some, None, Result, Ok, Err}
use mathlib.Core.Path.{◌≡◌, refl, sym, ap, ◌∙◌}
use native.Mathlib.Omega.{arith}
use Rattle.refusal.specs.Verdict.{Verdict, Reply, refused_with}
use Rattle.refusal.specs.Told.{reply_of}
use Rattle.refusal.specs.declared.Refusal.{Refusal}
use Rattle.refusal.proofs.Single.{OneToOne, reply-one, refusal-single, number_positive}
use Rattle.valuation.specs.Replies.{cell_words, both_words, mark_words, all_words, lookup_reply, value_list_reply, replied_in}
use Rattle.valuation.specs.declared.BddVariable.{BddVariable}
use Rattle.valuation.specs.declared.BddPartialValuation.{BddPartialValuation}
use Rattle.valuation.specs.declared.Cell.{Cell}
use Rattle.valuation.specs.declared.Cell.TheVariants.{Unset, Value}
use Rattle.valuation.specs.declared.Lookup.TheVariants as lookup
use Rattle.valuation.specs.declared.Values.{Values}

-- a truth value by its digit
pub digit-single : (a b : Bool) → ◌≡◌ {A = ℕ} (cond a 1 0) (cond b 1 0) → a ≡ b
digit-single true true e = refl
digit-single false false e = refl
digit-single true false e = absurd (let z : ⊥ = omega arith in z)
digit-single false true e = absurd (let z : ⊥ = omega arith in z)

pub cell-apart : (x y : Cell) → cell_words x ≡ cell_words y → x ≡ y
cell-apart Unset Unset e = refl
cell-apart Unset (Value b) e = absurd (omega (arith, ap length e))
cell-apart (Value a) Unset e = absurd (omega (arith, ap length e))
cell-apart (Value a) (Value b) e = let z : ◌≡◌ {A = ℕ} (cond a 1 0) (cond b 1 0) = cc in ap Value (digit-single a b z)

pub both-apart : (x y : BddPartialValuation) → both_words x ≡ both_words y → x ≡ y
both-apart x y e =
    let p : x.fixed ≡ y.fixed = cc in
    let q : x.values ≡ y.values = cc in
    λ i. record { fixed = p i; values = q i }

pub mark-apart : (x y : Option BddVariable) → mark_words x ≡ mark_words y → x ≡ y
mark-apart None None e = refl
mark-apart None (Some k) e = absurd (omega (arith, ap length e))
mark-apart (Some m) None e = absurd (omega (arith, ap length e))
mark-apart (Some m) (Some k) e = let p : m.0 ≡ k.0 = cc in ap Some (λ i. record { 0 = p i })

pub all-apart : (x y : Values) → all_words x ≡ all_words y → x ≡ y
all-apart x y e =
    let p : x.count ≡ y.count = cc in
    let q : x.words ≡ y.words = cc in
    λ i. record { count = p i; words = q i }

pub lookup_one : OneToOne lookup_reply
unfolding lookup_reply
lookup_one (lookup.Found x) (lookup.Found y) e = ap lookup.Found (cell-apart x y (ap (λ (r : Reply). r.values) e))
lookup_one (lookup.Found x) (lookup.Refused s) e = absurd (omega (arith, ap (λ (r : Reply). r.number) e, number_positive s.kind))
lookup_one (lookup.Refused r) (lookup.Found y) e = absurd (omega (arith, ap (λ (r : Reply). r.number) e, number_positive r.kind))
lookup_one (lookup.Refused r) (lookup.Refused s) e = ap lookup.Refused (refusal-single r s e)

pub updated_one : OneToOne (reply_of both_words)
updated_one = reply-one both_words both-apart

pub last_one : OneToOne (reply_of mark_words)
last_one = reply-one mark_words mark-apart

pub list-one : OneToOne value_list_reply
list-one (Ok x) (Ok y) e = ap Ok (all-apart x y (ap (λ (r : Reply). r.values) e))
list-one (Ok x) (Err s) e = absurd (omega (arith, ap (λ (r : Reply). r.number) e, number_positive s.kind))
list-one (Err r) (Ok y) e = absurd (omega (arith, ap (λ (r : Reply). r.number) e, number_positive r.kind))
list-one (Err r) (Err s) e = ap Err (refusal-single r s (λ i. refused_with (e i).number (e i).place))

-- and a promise through `replied_in` leaves one list
pub single-list : (k : ℕ) (v : Verdict) (a b : Result Values Refusal) → value_list_reply a ≡ replied_in k v → value_list_reply b ≡ replied_in k v → a ≡ b
single-list k v a b p q = list-one a b (p ∙ sym q)
