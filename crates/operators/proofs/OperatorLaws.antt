-- An operator's three equations, from its admission and the join.
use mathlib.Core.Path.{◌≡◌, refl, sym, ap, ap₂, subst, ◌∙◌}
use mathlib.Core.Bool.{true, false}
use mathlib.Core.List.{List, []}
use Prim.Native.Nat.{ℕ, ◌-◌, ◌<◌, ◌≤◌, max}
use native.Mathlib.Omega.{arith}
use lib.Dec.{ltb}
use lib.ListN.{length}
use Rattle.theory.specs.Tree.{Tree, pointwise, cofactor}
use Rattle.theory.specs.Table.{canon, meaning}
use Rattle.theory.specs.Words.{nodes}
use Rattle.theory.proofs.Small.{meaning-deep}
use Rattle.theory.proofs.Turned.{cofactor-past}
use Rattle.refusal.specs.Number.{order}
use Rattle.refusal.specs.Limits.{max_nodes}
use Rattle.refusal.specs.Verdict.{first_of, tried, judged, replied}
use Rattle.refusal.specs.declared.Refusal.{Refusal}
use Rattle.refusal.proofs.Judged.{Clean}
use Rattle.valuation.specs.declared.BddVariable.{BddVariable}
use Rattle.table.specs.declared.BddPointer.{BddPointer}
use Rattle.table.specs.declared.Inspection.{Inspection}
use Rattle.table.specs.declared.Inspection.TheVariants.{Sound, Refused}
use Rattle.table.specs.Inspection.{inspection_reply, root_of, SoundTable}
use Rattle.table.proofs.AdmissionLaws.{admission_clean}
use Rattle.std.specs.Prelude.{Result, Err}
use Rattle.making.specs.Made.{operates, Leaves, Settles}
use Rattle.making.proofs.MakesLaws.{Outcome, makes-settled, clean_outcome}
use Rattle.admission.specs.Admission.{mark_findings, pair_findings}
use Rattle.admission.proofs.Admitted.{refused_outcome, Roomed, mark_quiet, mark_admitted, pair_quiet, pair_admitted}
use Rattle.join.specs.declared.Job.{Job}
use Rattle.join.specs.declared.Operation.{Operation}
use Rattle.join.specs.Jobs.{pair_job, mark_job}
use Rattle.join.specs.Task.{truth_table, answer_of, op_of}
use Rattle.join.proofs.TruthLaws.{table_answers}
use Rattle.join.specs.Joining.{joined_by, Given}
use Rattle.operators.specs.Operators.{makes_pair, makes_mark}

-- ---- the join, settled
pub joined_outcome : (n room : ℕ) (g : Tree) (out₁ out out' work₁ work work' : List ℕ) → length out₁ ≡ length out → length work₁ ≡ length work → (tabled : Result ℕ ℕ) (r : Result ℕ Refusal)
    → Leaves (ltb room (length (canon n g))) 0 (canon n g) out₁ tabled → Settles tabled out₁ out' work₁ work' r → Outcome (operates [] n room g) r out out' work work'
unfolding judged tried order first_of
joined_outcome n room g out₁ out out' work₁ work work' eo ew tabled r left kept =
    makes-settled [] (ltb room (length (canon n g))) 0 (canon n g) (λ v. refl) out₁ out out' work₁ work work' eo ew tabled r left kept

-- ---- two tables
module _ (n lefts : ℕ) (left : List ℕ) (rights : ℕ) (right : List ℕ) (room : ℕ) (out work : List ℕ) (a : Inspection)
    (e : inspection_reply a ≡ replied (judged (pair_findings n lefts left rights right room out work) (root_of rights))) where
  pub pair-refused : (op : Operation) (q : Refusal) → a ≡ Refused q → Outcome (makes_pair op n lefts left rights right room out work) (Err q) out out work work
  pair-refused op q is =
      refused_outcome (pair_findings n lefts left rights right room out work) (pair_quiet n lefts left rights right room out work) rights a e q is (ltb room (length (canon n (g op)))) 0 (canon n (g op)) out work
    where
      g : Operation → Tree
      g op = pointwise (answer_of op) (meaning n (nodes lefts left)) (meaning n (nodes rights right))

  module _ (p : BddPointer) (is : a ≡ Sound p) where
    admitted : SoundTable n lefts left (lefts - 1) × SoundTable n rights right (rights - 1) × Roomed (max room (max lefts rights)) room out work
    admitted = pair_admitted n lefts left rights right room out work a e p is

    pub pair-few : (lefts ≤ max_nodes) × (rights ≤ max_nodes) × (room ≤ max_nodes)
    pair-few = (admitted.0.few, admitted.1.few, admitted.2.rooms.few)

    pub pair-given : (op : Operation) (job : Job) → job ≡ pair_job n op lefts rights room → Given left right out work job
    pair-given op job built =
        subst (Given left right out work) (sym built)
        (record {
          operands = record { left = admitted.0; right = admitted.1; slots = omega (arith, admitted.2.long) };
          some = admitted.2.rooms.some;
          few = admitted.2.rooms.few;
          long = admitted.2.wide;
        })

    pub pair_outcome : (op : Operation) (job : Job) → job ≡ pair_job n op lefts rights room → (r : Result ℕ Refusal) (out' work' : List ℕ)
        → Outcome (operates [] job.n job.room (joined_by left right job)) r out out' work work'
        → Outcome (makes_pair op n lefts left rights right room out work) r out out' work work'
    pair_outcome op job built r out' work' o =
        clean_outcome (pair_findings n lefts left rights right room out work)
        (admission_clean (pair_findings n lefts left rights right room out work) rights a e p is).0
        _ _ _ r out out' work work'
        (subst (λ g. Outcome (operates [] n room g) r out out' work work') means
        (subst (λ (j : Job). Outcome (operates [] j.n j.room (joined_by left right j)) r out out' work work') built o))
      where
        means : joined_by left right (pair_job n op lefts rights room) ≡ pointwise (answer_of op) (meaning n (nodes lefts left)) (meaning n (nodes rights right))
        means =
            ap₂ (pointwise (op_of (truth_table op)))
            (cofactor-past n n false (meaning n (nodes lefts left)) (meaning-deep n (nodes lefts left)) (omega arith))
            (cofactor-past n n false (meaning n (nodes rights right)) (meaning-deep n (nodes rights right)) (omega arith))
            ∙ ap (λ h. pointwise h (meaning n (nodes lefts left)) (meaning n (nodes rights right))) (table_answers op)

-- ---- one table and a mark
module _ (n count : ℕ) (words : List ℕ) (room : ℕ) (out work : List ℕ) (mark : BddVariable) (a : Inspection)
    (e : inspection_reply a ≡ replied (judged (mark_findings n count words mark.0 room out work) (root_of count))) where
  pub mark-refused : (op : Operation) (q : Refusal) → a ≡ Refused q → Outcome (makes_mark op n count words mark.0 room out work) (Err q) out out work work
  mark-refused op q is =
      refused_outcome (mark_findings n count words mark.0 room out work) (mark_quiet n count words room out work mark.0) count a e q is (ltb room (length (canon n (g op)))) 0 (canon n (g op)) out work
    where
      g : Operation → Tree
      g op = pointwise (answer_of op) (cofactor mark.0 false (meaning n (nodes count words))) (cofactor mark.0 true (meaning n (nodes count words)))

  module _ (p : BddPointer) (is : a ≡ Sound p) where
    admitted_mark : SoundTable n count words p.0 × Roomed (max room count) room out work × (mark.0 < n)
    admitted_mark = mark_admitted n count words room out work mark.0 a e p is

    clean : Clean (judged (mark_findings n count words mark.0 room out work)) × (p.0 ≡ count - 1)
    clean = admission_clean (mark_findings n count words mark.0 room out work) count a e p is

    table-sound : SoundTable n count words (count - 1)
    table-sound = subst (SoundTable n count words) clean.1 admitted_mark.0

    pub mark-few : (count ≤ max_nodes) × (room ≤ max_nodes)
    mark-few = (table-sound.few, admitted_mark.1.rooms.few)

    pub mark-given : (op : Operation) (job : Job) → job ≡ mark_job n op count mark room → Given words words out work job
    mark-given op job built =
        subst (Given words words out work) (sym built)
        (record {
          operands = record { left = table-sound; right = table-sound; slots = omega (arith, admitted_mark.1.long) };
          some = admitted_mark.1.rooms.some;
          few = admitted_mark.1.rooms.few;
          long = admitted_mark.1.wide;
        })

    pub mark_outcome : (op : Operation) (job : Job) → job ≡ mark_job n op count mark room → (r : Result ℕ Refusal) (out' work' : List ℕ)
        → Outcome (operates [] job.n job.room (joined_by words words job)) r out out' work work'
        → Outcome (makes_mark op n count words mark.0 room out work) r out out' work work'
    mark_outcome op job built r out' work' o =
        clean_outcome (mark_findings n count words mark.0 room out work) clean.0 _ _ _ r out out' work work'
        (subst (λ h. Outcome (operates [] n room (pointwise h (cofactor mark.0 false (meaning n (nodes count words))) (cofactor mark.0 true (meaning n (nodes count words))))) r out out' work work') (table_answers op)
        (subst (λ (j : Job). Outcome (operates [] j.n j.room (joined_by words words j)) r out out' work work') built o))
