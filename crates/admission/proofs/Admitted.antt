-- What an entry with room and work learns from its admission's answer.
use mathlib.Core.Path.{◌≡◌, refl, sym, ap}
use mathlib.Core.Bool.{Bool, false}
use mathlib.Core.List.{List, [], ◌∷◌}
use Prim.Native.Nat.{ℕ, ◌*◌, ◌-◌, ◌≤◌, ◌<◌, max}
use lib.Dec.{ltb}
use lib.ListN.{length}
use borrow.Author.Tests.{leb-false}
use Rattle.theory.specs.Table.{Table}
use Rattle.theory.specs.Words.{stride}
use Rattle.refusal.specs.Number.{order}
use Rattle.refusal.specs.Limits.{plain_work}
use Rattle.refusal.specs.Buffers.{zeroing}
use Rattle.refusal.specs.Verdict.{Finding, first_of, tried, judged, replied, gives}
use Rattle.refusal.specs.declared.Refusal.{Refusal}
use Rattle.refusal.proofs.Judged.{Clean, Quiet, passes}
use Rattle.table.specs.declared.BddPointer.{BddPointer}
use Rattle.table.specs.declared.Inspection.{Inspection}
use Rattle.table.specs.declared.Inspection.TheVariants.{Sound, Refused}
use Rattle.table.specs.Inspection.{inspection_reply, over_limit, too_short, first_bad, root_of, SoundTable}
use Rattle.table.proofs.AdmissionLaws.{admission_refused, admission_clean, sound-table}
use Rattle.std.specs.Prelude.{Err}
use Rattle.making.specs.Room.{over_room, short_output, short_work}
use Rattle.making.specs.Made.{makes}
use Rattle.making.proofs.RoomLaws.{Roomy, roomy, output-long, work_long}
use Rattle.making.proofs.MakesLaws.{Outcome, makes-refused}
use Rattle.admission.specs.Admission.{work_findings, table_room_findings, mark_findings, pair_findings, over_mark}

-- refused in its admission, an entry that makes a table touches nothing
pub refused_outcome : (fs : List Finding) → Quiet fs → (count : ℕ) (a : Inspection) → inspection_reply a ≡ replied (judged fs (root_of count))
    → (q : Refusal) → a ≡ Refused q → (over : Bool) (place : ℕ) (t : Table) (out work : List ℕ)
    → Outcome (makes fs over place t) (Err q) out out work work
refused_outcome fs quiet count a e q is over place t out work = makes-refused fs over place t quiet q (admission_refused fs count a e q is) out work

-- admitted, it would answer the root
pub clean-answers : (fs : List Finding) (count : ℕ) → Clean (judged fs) → gives ((count - 1) ∷ []) ≡ replied (judged fs (root_of count))
unfolding replied
clean-answers fs count clean = sym (ap replied (clean (root_of count)))

-- room, output and work are there
pub record Roomed (widest room : ℕ) (out work : List ℕ) : Type 0 where
  pub rooms : Roomy room
  pub wide : stride * room ≤ length out
  pub long : plain_work widest ≤ length work

module _ (n count : ℕ) (words work : List ℕ) where
  pub work_quiet : Quiet (work_findings n count words work)
  unfolding Quiet zeroing
  work_quiet = (refl, (refl, (refl, (refl, tt))))

  -- a table and work, admitted
  pub work_admitted : (a : Inspection) → inspection_reply a ≡ replied (judged (work_findings n count words work) (root_of count)) → (p : BddPointer) → a ≡ Sound p
      → SoundTable n count words p.0 × (plain_work count ≤ length work)
  unfolding judged tried order first_of
  work_admitted a e p is =
      let c : Clean (judged (work_findings n count words work)) × (p.0 ≡ count - 1) = admission_clean (work_findings n count words work) count a e p is in
      let v : gives ((count - 1) ∷ []) ≡ replied (judged (work_findings n count words work) (root_of count)) = clean-answers (work_findings n count words work) count c.0 in
      let p₁ : (over_limit n count ≡ false) × (gives ((count - 1) ∷ []) ≡ replied _) = passes _ _ _ _ _ _ v in
      let p₂ : (too_short count words ≡ false) × (gives ((count - 1) ∷ []) ≡ replied _) = passes _ _ _ _ _ _ p₁.1 in
      let p₃ : (short_work count work ≡ false) × (gives ((count - 1) ∷ []) ≡ replied _) = passes _ _ _ _ _ _ p₂.1 in
      (sound-table n count words p.0 (sym p₁.0) (sym p₂.0) (passes _ _ _ _ _ _ p₃.1).0 c.1, work_long count work (sym p₃.0))

module _ (n count : ℕ) (words : List ℕ) (room : ℕ) (out work : List ℕ) where
  pub room_quiet : Quiet (table_room_findings n count words room out work)
  unfolding Quiet zeroing
  room_quiet = (refl, (refl, (refl, (refl, (refl, (refl, tt))))))

  -- a table, a room, an output and work, admitted
  pub room_admitted : (a : Inspection) → inspection_reply a ≡ replied (judged (table_room_findings n count words room out work) (root_of count)) → (p : BddPointer) → a ≡ Sound p
      → SoundTable n count words p.0 × Roomed (max room count) room out work
  unfolding judged tried order first_of
  room_admitted a e p is =
      let c : Clean (judged (table_room_findings n count words room out work)) × (p.0 ≡ count - 1) = admission_clean (table_room_findings n count words room out work) count a e p is in
      let v : gives ((count - 1) ∷ []) ≡ replied (judged (table_room_findings n count words room out work) (root_of count)) = clean-answers (table_room_findings n count words room out work) count c.0 in
      let p₁ : (over_limit n count ≡ false) × (gives ((count - 1) ∷ []) ≡ replied _) = passes _ _ _ _ _ _ v in
      let p₂ : (over_room room ≡ false) × (gives ((count - 1) ∷ []) ≡ replied _) = passes _ _ _ _ _ _ p₁.1 in
      let p₃ : (too_short count words ≡ false) × (gives ((count - 1) ∷ []) ≡ replied _) = passes _ _ _ _ _ _ p₂.1 in
      let p₄ : (short_output room out ≡ false) × (gives ((count - 1) ∷ []) ≡ replied _) = passes _ _ _ _ _ _ p₃.1 in
      let p₅ : (short_work (max room count) work ≡ false) × (gives ((count - 1) ∷ []) ≡ replied _) = passes _ _ _ _ _ _ p₄.1 in (
        sound-table n count words p.0 (sym p₁.0) (sym p₃.0) (passes _ _ _ _ _ _ p₅.1).0 c.1,
        record { rooms = roomy room (sym p₂.0); wide = output-long room out (sym p₄.0); long = work_long (max room count) work (sym p₅.0) },
      )

  module _ (mark : ℕ) where
    pub mark_quiet : Quiet (mark_findings n count words mark room out work)
    unfolding Quiet zeroing
    mark_quiet = (refl, (refl, (refl, (refl, (refl, (refl, (refl, tt)))))))

    -- the same with a mark
    pub mark_admitted : (a : Inspection) → inspection_reply a ≡ replied (judged (mark_findings n count words mark room out work) (root_of count)) → (p : BddPointer) → a ≡ Sound p
        → SoundTable n count words p.0 × Roomed (max room count) room out work × (mark < n)
    unfolding judged tried order first_of
    mark_admitted a e p is =
        let c : Clean (judged (mark_findings n count words mark room out work)) × (p.0 ≡ count - 1) = admission_clean (mark_findings n count words mark room out work) count a e p is in
        let v : gives ((count - 1) ∷ []) ≡ replied (judged (mark_findings n count words mark room out work) (root_of count)) = clean-answers (mark_findings n count words mark room out work) count c.0 in
        let p₁ : (over_limit n count ≡ false) × (gives ((count - 1) ∷ []) ≡ replied _) = passes _ _ _ _ _ _ v in
        let p₂ : (over_room room ≡ false) × (gives ((count - 1) ∷ []) ≡ replied _) = passes _ _ _ _ _ _ p₁.1 in
        let p₃ : (too_short count words ≡ false) × (gives ((count - 1) ∷ []) ≡ replied _) = passes _ _ _ _ _ _ p₂.1 in
        let p₄ : (short_output room out ≡ false) × (gives ((count - 1) ∷ []) ≡ replied _) = passes _ _ _ _ _ _ p₃.1 in
        let p₅ : (short_work (max room count) work ≡ false) × (gives ((count - 1) ∷ []) ≡ replied _) = passes _ _ _ _ _ _ p₄.1 in
        let p₆ : (over_mark n mark ≡ false) × (gives ((count - 1) ∷ []) ≡ replied _) = passes _ _ _ _ _ _ p₅.1 in (
          sound-table n count words p.0 (sym p₁.0) (sym p₃.0) (passes _ _ _ _ _ _ p₆.1).0 c.1,
          record { rooms = roomy room (sym p₂.0); wide = output-long room out (sym p₄.0); long = work_long (max room count) work (sym p₅.0) },
          leb-false _ _ p₆.0,
        )

module _ (n lefts : ℕ) (left : List ℕ) (rights : ℕ) (right : List ℕ) (room : ℕ) (out work : List ℕ) where
  pub pair_quiet : Quiet (pair_findings n lefts left rights right room out work)
  unfolding Quiet zeroing
  pair_quiet = (refl, (refl, (refl, (refl, (refl, (refl, (refl, (refl, (refl, tt)))))))))

  -- two tables, a room, an output and work, admitted
  pub pair_admitted : (a : Inspection) → inspection_reply a ≡ replied (judged (pair_findings n lefts left rights right room out work) (root_of rights)) → (p : BddPointer) → a ≡ Sound p
      → SoundTable n lefts left (lefts - 1) × SoundTable n rights right (rights - 1) × Roomed (max room (max lefts rights)) room out work
  unfolding judged tried order first_of
  pair_admitted a e p is =
      let c : Clean (judged (pair_findings n lefts left rights right room out work)) × (p.0 ≡ rights - 1) = admission_clean (pair_findings n lefts left rights right room out work) rights a e p is in
      let v : gives ((rights - 1) ∷ []) ≡ replied (judged (pair_findings n lefts left rights right room out work) (root_of rights)) = clean-answers (pair_findings n lefts left rights right room out work) rights c.0 in
      let p₁ : (over_limit n lefts ≡ false) × (gives ((rights - 1) ∷ []) ≡ replied _) = passes _ _ _ _ _ _ v in
      let p₂ : (over_limit n rights ≡ false) × (gives ((rights - 1) ∷ []) ≡ replied _) = passes _ _ _ _ _ _ p₁.1 in
      let p₃ : (over_room room ≡ false) × (gives ((rights - 1) ∷ []) ≡ replied _) = passes _ _ _ _ _ _ p₂.1 in
      let p₄ : (too_short lefts left ≡ false) × (gives ((rights - 1) ∷ []) ≡ replied _) = passes _ _ _ _ _ _ p₃.1 in
      let p₅ : (too_short rights right ≡ false) × (gives ((rights - 1) ∷ []) ≡ replied _) = passes _ _ _ _ _ _ p₄.1 in
      let p₆ : (short_output room out ≡ false) × (gives ((rights - 1) ∷ []) ≡ replied _) = passes _ _ _ _ _ _ p₅.1 in
      let p₇ : (short_work (max room (max lefts rights)) work ≡ false) × (gives ((rights - 1) ∷ []) ≡ replied _) = passes _ _ _ _ _ _ p₆.1 in
      let p₈ : (ltb (first_bad n lefts left) lefts ≡ false) × (gives ((rights - 1) ∷ []) ≡ replied _) = passes _ _ _ _ _ _ p₇.1 in (
        sound-table n lefts left (lefts - 1) (sym p₁.0) (sym p₄.0) p₈.0 refl,
        sound-table n rights right (rights - 1) (sym p₂.0) (sym p₅.0) (passes _ _ _ _ _ _ p₈.1).0 refl,
        record { rooms = roomy room (sym p₃.0); wide = output-long room out (sym p₆.0); long = work_long (max room (max lefts rights)) work (sym p₇.0) },
      )
