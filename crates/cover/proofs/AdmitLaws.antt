-- The admission of a table and a list: what each answer says of the verdict, and what passing says.
use mathlib.Core.Path.{◌≡◌, refl, sym, ap, ◌∙◌}
use mathlib.Core.Bool.{true, false, cond, not, ◌||◌}
use mathlib.Core.List.{List, [], ◌∷◌}
use Prim.Native.Nat.{ℕ, ◌*◌, ◌-◌, ◌<◌, ◌≤◌, max}
use native.Mathlib.Omega.{arith}
use lib.Dec.{ltb}
use lib.ListN.{length}
use borrow.Author.Tests.{ltb-false}
use Rattle.theory.specs.Words.{stride}
use Rattle.refusal.specs.Number.{order, LIMIT, SHORT, CLAUSE, TABLE}
use Rattle.refusal.specs.Limits.{max_nodes, plain_work}
use Rattle.refusal.specs.Buffers.{zeroing}
use Rattle.refusal.specs.Verdict.{Verdict, refused, first_of, tried, judged, replied, gives}
use Rattle.refusal.proofs.Judged.{Clean, Quiet, passes}
use Rattle.refusal.proofs.Firsts.{first-before}
use Rattle.table.specs.Inspection.{over_limit, too_short, first_bad, root_of, SoundTable}
use Rattle.table.proofs.InspectLaws.{or_false, within}
use Rattle.table.proofs.AdmissionLaws.{sound-table}
use Rattle.making.specs.Room.{over_room, short_work}
use Rattle.making.proofs.RoomLaws.{Roomy, roomy, work_long}
use Rattle.builders.specs.Builders.{over_list, short_list, bad_entry, first_bad_entry}
use Rattle.builders.proofs.ListLaws.{Listed, listed, list_long, mask}
use Rattle.cover.specs.Cover.{over_cover, short_cover, Within, cover_findings}
use Rattle.cover.specs.Compare.{Covering}

-- what a call within the limits shows
pub record Limited (n count clauses room : ℕ) : Type 0 where
  pub table : false ≡ over_limit n count
  pub list : Listed n clauses
  pub rooms : Roomy room

pub limited : (n count clauses room : ℕ) → false ≡ over_cover n count clauses room → Limited n count clauses room
unfolding over_cover
limited n count clauses room e =
    let a : (false ≡ over_limit n count || over_list n clauses) × (false ≡ over_room room) = or_false _ _ e in
    let b : (false ≡ over_limit n count) × (false ≡ over_list n clauses) = or_false _ _ a.0 in
    record { table = b.0; list = listed n clauses b.1; rooms = roomy room a.1 }

pub limits : (n count clauses room : ℕ) → false ≡ over_cover n count clauses room → Within count clauses room
limits n count clauses room e =
    let l : Limited n count clauses room = limited n count clauses room e in
    record { count-few = (within n count l.table).few; clauses-few = l.list.few; room-few = l.rooms.few }

-- the slices are long enough
pub record Sized (count : ℕ) (words : List ℕ) (clauses : ℕ) (list : List ℕ) (room : ℕ) (work : List ℕ) : Type 0 where
  pub table : false ≡ too_short count words
  pub list-given : 2 * clauses ≤ length list
  pub memory : plain_work (max room count) ≤ length work

pub sized : (count : ℕ) (words : List ℕ) (clauses : ℕ) (list : List ℕ) (room : ℕ) (work : List ℕ) → false ≡ short_cover count words clauses list room work → Sized count words clauses list room work
unfolding short_cover
sized count words clauses list room work e =
    let a : (false ≡ too_short count words || short_list false clauses list) × (false ≡ short_work (max room count) work) = or_false _ _ e in
    let b : (false ≡ too_short count words) × (false ≡ short_list false clauses list) = or_false _ _ a.0 in
    record { table = b.0; list-given = list_long false clauses list b.1; memory = work_long (max room count) work a.1 }

-- the order of checking
module _ (n count : ℕ) (words : List ℕ) (clauses : ℕ) (list : List ℕ) (room : ℕ) (work : List ℕ) where
  abbrev bad : ℕ
  bad = first_bad_entry false n clauses list

  abbrev tests : Verdict → Verdict
  tests v =
      cond (over_cover n count clauses room) (refused LIMIT 0)
      (cond (short_cover count words clauses list room work) (refused SHORT 0)
      (cond (ltb bad clauses) (refused CLAUSE bad) (cond (ltb (first_bad n count words) count) (refused TABLE (first_bad n count words)) v)))

  row : (v : Verdict) → judged (cover_findings n count words clauses list room work) v ≡ tests v
  unfolding judged tried order first_of
  row v = refl

  pub cover_quiet : Quiet (cover_findings n count words clauses list room work)
  unfolding Quiet zeroing
  cover_quiet = (refl, (refl, (refl, (refl, tt))))

  -- admitted
  pub cover_covering : Clean (judged (cover_findings n count words clauses list room work)) → (root : ℕ) → root ≡ count - 1
      → SoundTable n count words root × ((memory : List ℕ) → stride * max_nodes ≤ length memory → Covering n count clauses list room memory work)
  cover_covering clean root last =
      let p₁ : (over_cover n count clauses room ≡ false) × (gives ((count - 1) ∷ []) ≡ replied _) = passes _ _ _ _ _ _ answers in
      let p₂ : (short_cover count words clauses list room work ≡ false) × (gives ((count - 1) ∷ []) ≡ replied _) = passes _ _ _ _ _ _ p₁.1 in
      let p₃ : (ltb bad clauses ≡ false) × (gives ((count - 1) ∷ []) ≡ replied _) = passes _ _ _ _ _ _ p₂.1 in
      let l : Limited n count clauses room = limited n count clauses room (sym p₁.0) in
      let z : Sized count words clauses list room work = sized count words clauses list room work (sym p₂.0) in (
        sound-table n count words root l.table z.table (passes _ _ _ _ _ _ p₃.1).0 last,
        λ memory wide. record {
          listed = l.list.few;
          given = z.list-given;
          masks = λ i h. mask false n list i (formed i h (ltb-false bad clauses p₃.0));
          some = l.rooms.some;
          few = l.rooms.few;
          wide = wide;
          long = z.memory;
        },
      )
    where
      answers : gives ((count - 1) ∷ []) ≡ replied (tests (root_of count))
      answers = unfold replied in sym (ap replied (sym (row (root_of count)) ∙ clean (root_of count)))

      formed : (i : ℕ) → i < clauses → clauses ≤ bad → not (bad_entry false n list i) ≡ true
      formed i h le = unfold first_bad_entry in first-before (λ i. not (bad_entry false n list i)) clauses i (omega arith)
