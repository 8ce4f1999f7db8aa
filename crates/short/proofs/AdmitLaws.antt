-- The admission of the short list's entry, test by test.
use mathlib.Core.Path.{◌≡◌, refl, sym}
use mathlib.Core.Bool.{false}
use mathlib.Core.List.{List, [], ◌∷◌}
use Prim.Native.Nat.{ℕ, ◌+◌, ◌*◌, ◌-◌, ◌≤◌, max}
use native.Mathlib.Omega.{arith}
use native.Mathlib.Nat.{mul-le-mul_left}
use Rattle.refusal.specs.Limits.{max_marks, max_nodes, deep_work}
use lib.Dec.{ltb}
use lib.ListN.{length}
use borrow.Author.Tests.{ltb-false}
use Rattle.refusal.specs.Number.{order}
use Rattle.refusal.specs.Buffers.{zeroing}
use Rattle.refusal.specs.Verdict.{first_of, tried, judged, replied, gives}
use Rattle.refusal.proofs.Judged.{Clean, Quiet, passes}
use Rattle.table.specs.declared.BddPointer.{BddPointer}
use Rattle.table.specs.declared.Inspection.{Inspection}
use Rattle.table.specs.declared.Inspection.TheVariants.{Sound}
use Rattle.table.specs.Inspection.{inspection_reply, over_limit, too_short, root_of, SoundTable}
use Rattle.table.proofs.AdmissionLaws.{admission_clean, sound-table}
use Rattle.making.specs.Room.{over_room}
use Rattle.making.proofs.RoomLaws.{roomy}
use Rattle.admission.proofs.Admitted.{clean-answers}
use Rattle.short.specs.Short.{short_deep, short_findings, Shortening}

pub deep_is : (widest n : ℕ) (work : List ℕ) → ltb (length work) (24 * widest * (n + 2) + 192) ≡ short_deep widest n work
unfolding short_deep
deep_is widest n work = refl

pub deep-fits : (widest n : ℕ) → widest ≤ max_nodes → n ≤ max_marks → 24 * widest * (n + 2) ≤ 6094848
deep-fits widest n h k = omega (arith, mul-le-mul_left {m = n + 2} {n = 62} (24 * widest) (omega arith))

module _ (n count : ℕ) (words : List ℕ) (room : ℕ) (work : List ℕ) where
  pub short_quiet : Quiet (short_findings n count words room work)
  unfolding Quiet zeroing
  short_quiet = (refl, (refl, (refl, (refl, (refl, tt)))))

  -- admitted
  pub short_admitted : (a : Inspection) → inspection_reply a ≡ replied (judged (short_findings n count words room work) (root_of count)) → (p : BddPointer) → a ≡ Sound p → SoundTable n count words p.0 × Shortening n count room work
  unfolding judged tried order first_of short_deep
  short_admitted a e p is =
      let c : Clean (judged (short_findings n count words room work)) × (p.0 ≡ count - 1) = admission_clean (short_findings n count words room work) count a e p is in
      let v : gives ((count - 1) ∷ []) ≡ replied (judged (short_findings n count words room work) (root_of count)) = clean-answers (short_findings n count words room work) count c.0 in
      let p₁ : (over_limit n count ≡ false) × (gives ((count - 1) ∷ []) ≡ replied _) = passes _ _ _ _ _ _ v in
      let p₂ : (over_room room ≡ false) × (gives ((count - 1) ∷ []) ≡ replied _) = passes _ _ _ _ _ _ p₁.1 in
      let p₃ : (too_short count words ≡ false) × (gives ((count - 1) ∷ []) ≡ replied _) = passes _ _ _ _ _ _ p₂.1 in
      let p₄ : (ltb (length work) (deep_work (max room count) n) ≡ false) × (gives ((count - 1) ∷ []) ≡ replied _) = passes _ _ _ _ _ _ p₃.1 in (
        sound-table n count words p.0 (sym p₁.0) (sym p₃.0) (passes _ _ _ _ _ _ p₄.1).0 c.1,
        record { rooms = roomy room (sym p₂.0); long = ltb-false _ _ p₄.0 },
      )
