-- What an entry learns from its admission's answer.
use mathlib.Core.Path.{◌≡◌, refl, sym, ap, ◌∙◌}
use mathlib.Core.Logic.{inl, inr}
use mathlib.Core.Bool.{Bool, true, false}
use mathlib.Core.List.{List, [], ◌∷◌}
use Prim.Native.Nat.{ℕ, ◌-◌}
use lib.Dec.{ltb}
use borrow.Author.Tests.{ltb-false}
use Rattle.theory.specs.Table.{num}
use Rattle.refusal.specs.Number.{order, number_of}
use Rattle.refusal.specs.Verdict.{Finding, Verdict, refused, answered, first_of, tried, judged, replied, gives, refusal_reply}
use Rattle.refusal.specs.Told.{truth}
use Rattle.refusal.specs.declared.Refusal.{Refusal}
use Rattle.refusal.proofs.Single.{no_values, one_value}
use Rattle.refusal.proofs.Judged.{Clean, judged-either, refusal_stays, passes}
use Rattle.table.specs.declared.Inspection.{Inspection}
use Rattle.table.specs.declared.Inspection.TheVariants.{Sound, Refused}
use Rattle.table.specs.declared.BddPointer.{BddPointer}
use Rattle.table.specs.Inspection.{inspection_reply, over_limit, too_short, first_bad, root_of, SoundTable}
use Rattle.table.specs.Case.{over_case, case_findings, admits_case, table_says, evaluates}
use Rattle.table.proofs.InspectLaws.{Within, within, long, none_bad}

module _ (fs : List Finding) (count : ℕ) (a : Inspection) (e : inspection_reply a ≡ replied (judged fs (root_of count))) where
  -- refused in its admission, a call is refused
  pub admission_refused : (q : Refusal) → a ≡ Refused q → (v : Verdict) → judged fs v ≡ refused (number_of q.kind) q.place
  unfolding inspection_reply
  admission_refused q is = refusal_stays fs q (count - 1) [] [] (sym (ap inspection_reply is) ∙ e)

  pub admission_stops : (q : Refusal) → a ≡ Refused q → (v : Verdict) → refusal_reply q ≡ replied (judged fs v)
  unfolding replied
  admission_stops q is v = sym (ap replied (admission_refused q is v))

  -- admitted, it answers
  pub admission_clean : (p : BddPointer) → a ≡ Sound p → Clean (judged fs) × (p.0 ≡ count - 1)
  unfolding inspection_reply replied
  admission_clean p is-p =
      let given : gives (p.0 ∷ []) ≡ replied (judged fs (root_of count)) = sym (ap inspection_reply is-p) ∙ e in
      elim (judged-either fs) [
        | inl clean ↦ (clean, one_value p.0 (count - 1) (given ∙ ap replied (clean (root_of count))))
        | inr c ↦ no_values c.number c.place p.0 [] (sym (given ∙ ap replied (c.always (root_of count))))
      ]

truth_num : (b : Bool) → truth b ≡ num b ∷ []
truth_num true = refl
truth_num false = refl

-- the three tests of a table, passed
pub sound-table : (n count : ℕ) (w : List ℕ) (root : ℕ) → false ≡ over_limit n count → false ≡ too_short count w → ltb (first_bad n count w) count ≡ false → root ≡ count - 1
    → SoundTable n count w root
sound-table n count w root limit short bad last =
    let in-limits : Within n count = within n count limit in
    record {
      marks = in-limits.marks;
      some = in-limits.some;
      few = in-limits.few;
      long = long count w short;
      ordered = none_bad n count w in-limits.some (ltb-false _ _ bad);
      last = last;
    }

module _ (n count : ℕ) (w : List ℕ) (case : ℕ) (a : Inspection) (e : inspection_reply a ≡ replied (admits_case n count w case)) where
  given : inspection_reply a ≡ replied (judged (case_findings n count w case) (root_of count))
  unfolding admits_case
  given = e

  pub case_refused : (q : Refusal) → a ≡ Refused q → refusal_reply q ≡ replied (evaluates n count w case)
  unfolding evaluates
  case_refused q is = admission_stops (case_findings n count w case) count a given q is (answered (num (table_says n count w case) ∷ []) [])

  module _ (p : BddPointer) (is-p : a ≡ Sound p) where
    clean : Clean (judged (case_findings n count w case)) × (p.0 ≡ count - 1)
    clean = admission_clean (case_findings n count w case) count a given p is-p

    pub case_sound : SoundTable n count w p.0
    unfolding judged tried order first_of
    case_sound =
        let v : gives ((count - 1) ∷ []) ≡ replied (judged (case_findings n count w case) (root_of count)) = unfold replied in sym (ap replied (clean.0 (root_of count))) in
        let p₁ : (over_limit n count ≡ false) × (gives ((count - 1) ∷ []) ≡ replied _) = passes _ _ _ _ _ _ v in
        let p₂ : (too_short count w ≡ false) × (gives ((count - 1) ∷ []) ≡ replied _) = passes _ _ _ _ _ _ p₁.1 in
        let p₃ : (over_case n case ≡ false) × (gives ((count - 1) ∷ []) ≡ replied _) = passes _ _ _ _ _ _ p₂.1 in
        sound-table n count w p.0 (sym p₁.0) (sym p₂.0) (passes _ _ _ _ _ _ p₃.1).0 clean.1

    pub case_answers : (b : Bool) → b ≡ table_says n count w case → gives (truth b) ≡ replied (evaluates n count w case)
    unfolding evaluates replied
    case_answers b says = rw says (ap gives (truth_num _) ∙ sym (ap replied (clean.0 (answered (num (table_says n count w case) ∷ []) []))))
