-- The reply of an answer: its values, or its refusal.
use Rattle.std.specs.Prelude.{Bool, true, false, cond, List, [], ◌∷◌, ℕ, Option, Some, None, Result, Ok, Err}
use Rattle.refusal.specs.Verdict.{Reply, gives, refusal_reply}
use Rattle.refusal.specs.declared.Refusal.{Refusal}
use Rattle.refusal.specs.declared.RefusalKind.{RefusalKind}

-- a count, or a set of marks, is itself
abbrev pub number : ℕ → List ℕ
number k = k ∷ []

-- yes is 1, no is 0
abbrev pub truth : Bool → List ℕ
truth b = cond b 1 0 ∷ []

-- what only checks has no values
abbrev pub nothing : Unit {0} → List ℕ
nothing x = []

-- none is 0, a value is 1 and its values
abbrev pub optional : {T : Type 0} → (T → List ℕ) → Option T → List ℕ
optional v None = 0 ∷ []
optional v (Some x) = 1 ∷ v x

abbrev pub reply_of : {T : Type 0} → (T → List ℕ) → Result T Refusal → Reply
reply_of v (Ok x) = gives (v x)
reply_of v (Err r) = refusal_reply r

-- one test of a call
abbrev pub refuse_if : Bool → RefusalKind → ℕ → Result (Unit {0}) Refusal
refuse_if true k p = Err (record { kind = k; place = p })
refuse_if false k p = Ok tt
