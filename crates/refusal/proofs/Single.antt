-- Singleness: an equation for the reply leaves one possible answer.
use Rattle.std.specs.Prelude.{Bool, true, false, cond, List, [], ◌∷◌, ℕ, ◌≤◌, eqb, Ok, Err}
use mathlib.Core.Path.{◌≡◌, refl, sym, ap, ◌∙◌}
use native.Mathlib.Omega.{arith}
use Rattle.refusal.specs.Number.{number_of}
use Rattle.refusal.specs.Verdict.{Reply, Verdict, replied, refused_with, refusal_reply, gives}
use Rattle.refusal.specs.Told.{number, truth, nothing, reply_of}
use Rattle.refusal.specs.declared.Refusal.{Refusal}
use Rattle.refusal.specs.declared.RefusalKind.{RefusalKind}
use Rattle.refusal.specs.declared.RefusalKind.TheVariants.{Limit, Short, Variable, Clause, Table, Reduced, Nodes, Clauses, Sheet}

-- different answers have different replies
abbrev pub OneToOne : {A : Type 0} → (A → Reply) → Type 0
OneToOne {A} reply = (a b : A) → reply a ≡ reply b → a ≡ b

-- a promise about the reply leaves one answer
abbrev pub Single : {A : Type 0} → (A → Reply) → Verdict → Type 0
Single {A} reply v = (a b : A) → reply a ≡ replied v → reply b ≡ replied v → a ≡ b

-- so it is where replies are one to one
pub single : {A : Type 0} (reply : A → Reply) → OneToOne reply → (v : Verdict) → Single reply v
single reply one v a b p q = one a b (p ∙ sym q)

-- a kind has one number, from 1 up
kind_at : ℕ → RefusalKind
kind_at k =
    cond (eqb k 1) Limit
    (cond (eqb k 2) Short
    (cond (eqb k 3) Variable
    (cond (eqb k 4) Clause (cond (eqb k 5) Table (cond (eqb k 6) Reduced (cond (eqb k 7) Nodes (cond (eqb k 8) Clauses Sheet)))))))

kind-back : (k : RefusalKind) → kind_at (number_of k) ≡ k
unfolding kind_at
kind-back Limit = refl
kind-back Short = refl
kind-back Variable = refl
kind-back Clause = refl
kind-back Table = refl
kind-back Reduced = refl
kind-back Nodes = refl
kind-back Clauses = refl
kind-back Sheet = refl

pub kind-single : (k m : RefusalKind) → number_of k ≡ number_of m → k ≡ m
kind-single k m e = sym (kind-back k) ∙ ap kind_at e ∙ kind-back m

pub number_positive : (k : RefusalKind) → 1 ≤ number_of k
number_positive Limit = omega arith
number_positive Short = omega arith
number_positive Variable = omega arith
number_positive Clause = omega arith
number_positive Table = omega arith
number_positive Reduced = omega arith
number_positive Nodes = omega arith
number_positive Clauses = omega arith
number_positive Sheet = omega arith

-- equal replies of two refusals
pub refusal-single : (r s : Refusal) → refusal_reply r ≡ refusal_reply s → r ≡ s
refusal-single r s e =
    let k : r.kind ≡ s.kind = kind-single r.kind s.kind (ap (λ (x : Reply). x.number) e) in
    λ i. record { kind = k i; place = (e i).place }

-- a refusal's reply has no values
pub no_values : {B : Type 0} (k p : ℕ) (v : ℕ) (vs : List ℕ) → refused_with k p ≡ gives (v ∷ vs) → B
no_values k p v vs e =
    let z : ◌≡◌ {A = List ℕ} [] (v ∷ vs) = ap (λ (x : Reply). x.values) e in
    let w : ◌≡◌ {A = ℕ} 0 1 = cc in
    absurd (omega arith)

pub no-values : {B : Type 0} (r : Refusal) (v : ℕ) (vs : List ℕ) → refusal_reply r ≡ gives (v ∷ vs) → B
no-values r = no_values (number_of r.kind) r.place

-- replies with one value each
pub one_value : (v w : ℕ) → gives (v ∷ []) ≡ gives (w ∷ []) → v ≡ w
one_value v w e =
    let z : ◌≡◌ {A = List ℕ} (v ∷ []) (w ∷ []) = ap (λ (x : Reply). x.values) e in
    cc

-- a reply tells answers apart where their words do: a refusal's number is never 0
pub reply-one : {T : Type 0} (v : T → List ℕ) → ((x y : T) → v x ≡ v y → x ≡ y) → OneToOne (reply_of v)
reply-one v apart (Ok x) (Ok y) e = ap Ok (apart x y (ap (λ (r : Reply). r.values) e))
reply-one v apart (Ok x) (Err s) e = absurd (omega (arith, ap (λ (r : Reply). r.number) e, number_positive s.kind))
reply-one v apart (Err r) (Ok y) e = absurd (omega (arith, ap (λ (r : Reply). r.number) e, number_positive r.kind))
reply-one v apart (Err r) (Err s) e = ap Err (refusal-single r s e)

pub number-apart : (x y : ℕ) → number x ≡ number y → x ≡ y
number-apart x y e = cc

pub truth-apart : (x y : Bool) → truth x ≡ truth y → x ≡ y
truth-apart true true e = refl
truth-apart true false e = let z : ◌≡◌ {A = ℕ} 1 0 = cc in absurd (omega arith)
truth-apart false true e = let z : ◌≡◌ {A = ℕ} 0 1 = cc in absurd (omega arith)
truth-apart false false e = refl

pub nothing-apart : (x y : Unit {0}) → nothing x ≡ nothing y → x ≡ y
nothing-apart x y e = refl

pub number-one : OneToOne (reply_of number)
number-one = reply-one number number-apart

pub truth-one : OneToOne (reply_of truth)
truth-one = reply-one truth truth-apart

pub nothing-one : OneToOne (reply_of nothing)
nothing-one = reply-one nothing nothing-apart
