-- The admission of a list: what each answer says of the verdict, and what passing says.
use mathlib.Core.Path.{◌≡◌, refl, sym, ap, subst, ◌∙◌}
use mathlib.Core.Bool.{Bool, true, false, cond, not}
use mathlib.Core.List.{List, [], ◌∷◌}
use Prim.Native.Nat.{ℕ, zero, suc, ◌*◌, ◌-◌, ◌/◌, ◌^◌, ◌<◌, ◌≤◌}
use native.Mathlib.Omega.{arith}
use Rattle.std.specs.Int.Bits.{bit_or, or_step}
use Rattle.std.proofs.lemmas.Nat.{le_or_r}
use native.Mathlib.Decide.{dec_lt}
use lib.Dec.{eqb, ltb, leb}
use lib.ListN.{length, get_or}
use borrow.Author.Tests.{leb-false, ltb-false, lt-ltb, le-ltb, lt-leb, le-leb, eq-eqb, ne_eqb, not-true}
use Rattle.theory.specs.Clause.{malformed}
use Rattle.theory.proofs.Clauses.{formed}
use Rattle.refusal.specs.Number.{order, LIMIT, SHORT, VARIABLE, CLAUSE}
use Rattle.refusal.specs.Limits.{max_marks, max_clauses}
use Rattle.refusal.specs.Buffers.{zeroing}
use Rattle.refusal.specs.Number.{number_of}
use Rattle.refusal.specs.Told.{nothing, reply_of, refuse_if}
use Rattle.refusal.specs.declared.RefusalKind.{RefusalKind}
use Rattle.refusal.specs.Verdict.{Verdict, refused, answered, first_of, tried, judged, replied, refused_with, gives}
use Rattle.refusal.proofs.Judged.{Clean, Quiet, passes}
use Rattle.refusal.proofs.Firsts.{first-before}
use Rattle.table.specs.Inspection.{root_of}
use Rattle.table.specs.Case.{over_case}
use Rattle.table.proofs.InspectLaws.{or_false}
use Rattle.making.specs.Room.{over_room, short_output, short_work}
use Rattle.making.proofs.RoomLaws.{roomy, output-long, work_long}
use Rattle.cube.specs.Cube.{clause_at, entry_at}
use Rattle.entries.specs.Entries.{Given}
use Rattle.build.specs.Build.{Building}
use Rattle.builders.specs.Builders.{over_list, short_list, bad_entry, first_bad_entry, entry_number, list_findings}

-- a list within the limits
pub record Listed (n count : ℕ) : Type 0 where
  pub marks : n ≤ max_marks
  pub few : count ≤ max_clauses

pub listed : (n count : ℕ) → false ≡ over_list n count → Listed n count
unfolding over_list
listed n count e =
    let a : (false ≡ ltb max_marks n) × (false ≡ ltb max_clauses count) = or_false _ _ e in
    record { marks = ltb-false _ _ (sym a.0); few = ltb-false _ _ (sym a.1) }

-- its words are there
pub list_long : (cases : Bool) (count : ℕ) (list : List ℕ) → false ≡ short_list cases count list → Given cases count list
unfolding short_list
list_long true count list e = ltb-false _ _ (sym e)
list_long false count list e = ltb-false _ _ (sym e)

-- how many words it has
pub short-words : (cases : Bool) (count : ℕ) (list : List ℕ) → ltb (length list) (cond cases 1 2 * count) ≡ short_list cases count list
unfolding short_list
short-words true count list = ap (ltb (length list)) (let e : 1 * count ≡ count = omega arith in e)
short-words false count list = refl

some-marks : (n : ℕ) → 1 ≤ 2 ^ n
some-marks zero = omega arith
some-marks (suc n) = omega (arith, some-marks n)

pub entry-is : (cases : Bool) → cond cases VARIABLE CLAUSE ≡ entry_number cases
entry-is true = refl
entry-is false = refl

-- a case as a clause
full-or : (n v : ℕ) → v < 2 ^ n → bit_or (2 ^ n - 1) v ≡ 2 ^ n - 1
full-or zero v h = let e : v ≡ 0 = omega arith in rw e refl
full-or (suc n) v h =
    let e : (2 ^ suc n - 1) / 2 ≡ 2 ^ n - 1 = omega (arith, some-marks n) in
    let d : bit_or ((2 ^ suc n - 1) / 2) (v / 2) ≡ 2 ^ n - 1 = rw e (full-or n (v / 2) (omega arith)) in
    omega (arith, or_step (2 ^ suc n - 1) v, d, some-marks n)

full-malformed : (n v : ℕ) → malformed n (2 ^ n - 1) v ≡ over_case n v
unfolding malformed over_case
full-malformed n v =
    let small : leb (2 ^ n) (2 ^ n - 1) ≡ false = lt-leb (2 ^ n) (2 ^ n - 1) (omega (arith, some-marks n)) in
    elim (dec_lt v (2 ^ n)) [
      | yes h ↦ rw (small, eq-eqb (bit_or (2 ^ n - 1) v) (2 ^ n - 1) (full-or n v h), lt-leb (2 ^ n) v h)
      | no h ↦ rw (small, ne_eqb (bit_or (2 ^ n - 1) v) (2 ^ n - 1) (λ e. omega (arith, e, le_or_r (2 ^ n - 1) v, some-marks n)), le-leb (2 ^ n) v (omega arith))
    ]

pub bad-entry : (cases : Bool) (n : ℕ) (list : List ℕ) (i : ℕ) → malformed n (entry_at cases n list i).fixed (entry_at cases n list i).values ≡ bad_entry cases n list i
unfolding bad_entry
bad-entry true n list i = full-malformed n (get_or list i 0)
bad-entry false n list i = refl

-- an entry that is not bad has no fixed mark from n up
pub mask : (cases : Bool) (n : ℕ) (list : List ℕ) (i : ℕ) → not (bad_entry cases n list i) ≡ true → (entry_at cases n list i).fixed < 2 ^ n
unfolding bad_entry
mask true n list i e = omega (arith, some-marks n)
mask false n list i e = (formed n (clause_at list i) (not-true _ e)).small

case-small : (n : ℕ) (list : List ℕ) (i : ℕ) → not (bad_entry true n list i) ≡ true → get_or list i 0 < 2 ^ n
unfolding bad_entry over_case
case-small n list i e = leb-false (2 ^ n) (get_or list i 0) (not-true _ e)

-- the order of checking
abbrev pub row : Bool → ℕ → ℕ → List ℕ → ℕ → List ℕ → List ℕ → Verdict → Verdict
row cases n count list room out work v =
    cond (over_list n count) (refused LIMIT 0)
    (cond (over_room room) (refused LIMIT 0)
    (cond (short_list cases count list) (refused SHORT 0)
    (cond (short_output room out) (refused SHORT 0)
    (cond (short_work room work) (refused SHORT 0)
    (cond (ltb (first_bad_entry cases n count list) count) (refused (entry_number cases) (first_bad_entry cases n count list)) v)))))

pub judged_row : (cases : Bool) (n count : ℕ) (list : List ℕ) (room : ℕ) (out work : List ℕ) (v : Verdict)
    → judged (list_findings cases n count list room out work) v ≡ row cases n count list room out work v
unfolding judged tried order first_of
judged_row true n count list room out work v = refl
judged_row false n count list room out work v = refl

-- past the sizes, the entries decide
pub list_decides : (cases : Bool) (n count : ℕ) (list : List ℕ) (room : ℕ) (out work : List ℕ)
    → false ≡ over_list n count → false ≡ over_room room → false ≡ short_list cases count list → false ≡ short_output room out → false ≡ short_work room work
    → (kind : RefusalKind) → number_of kind ≡ entry_number cases → (bad : ℕ) → bad ≡ first_bad_entry cases n count list
    → reply_of nothing (refuse_if (ltb bad count) kind bad) ≡ replied (judged (list_findings cases n count list room out work) (answered [] []))
unfolding replied
list_decides cases n count list room out work a b c d e kind k bad f =
    rw (judged_row cases n count list room out work (answered [] []), ← a, ← b, ← c, ← d, ← e, f) (decides (ltb (first_bad_entry cases n count list) count))
  where
    decides : (t : Bool) → reply_of nothing (refuse_if t kind (first_bad_entry cases n count list)) ≡ replied (cond t (refused (entry_number cases) (first_bad_entry cases n count list)) (answered [] []))
    decides true = ap (λ x. refused_with x (first_bad_entry cases n count list)) k
    decides false = refl

pub list_quiet : (cases : Bool) (n count : ℕ) (list : List ℕ) (room : ℕ) (out work : List ℕ) → Quiet (list_findings cases n count list room out work)
unfolding Quiet zeroing
list_quiet true n count list room out work = (refl, (refl, (refl, (refl, (refl, (refl, tt))))))
list_quiet false n count list room out work = (refl, (refl, (refl, (refl, (refl, (refl, tt))))))

-- a list admitted
pub record ListSized (cases : Bool) (n count : ℕ) (list : List ℕ) (room : ℕ) (out work : List ℕ) : Type 0 where
  pub limit : false ≡ over_list n count
  pub rooms : false ≡ over_room room
  pub short : false ≡ short_list cases count list
  pub output : false ≡ short_output room out
  pub memory : false ≡ short_work room work
  pub formed : count ≤ first_bad_entry cases n count list

module _ (cases : Bool) (n count : ℕ) (list : List ℕ) (room : ℕ) (out work : List ℕ) (clean : Clean (judged (list_findings cases n count list room out work))) where
  answers : gives (0 ∷ []) ≡ replied (row cases n count list room out work (root_of 1))
  unfolding replied
  answers = sym (ap replied (sym (judged_row cases n count list room out work (root_of 1)) ∙ clean (root_of 1)))

  passed : ListSized cases n count list room out work
  passed =
      let p₁ : (over_list n count ≡ false) × (gives (0 ∷ []) ≡ replied _) = passes _ _ _ _ _ _ answers in
      let p₂ : (over_room room ≡ false) × (gives (0 ∷ []) ≡ replied _) = passes _ _ _ _ _ _ p₁.1 in
      let p₃ : (short_list cases count list ≡ false) × (gives (0 ∷ []) ≡ replied _) = passes _ _ _ _ _ _ p₂.1 in
      let p₄ : (short_output room out ≡ false) × (gives (0 ∷ []) ≡ replied _) = passes _ _ _ _ _ _ p₃.1 in
      let p₅ : (short_work room work ≡ false) × (gives (0 ∷ []) ≡ replied _) = passes _ _ _ _ _ _ p₄.1 in
      record { limit = sym p₁.0; rooms = sym p₂.0; short = sym p₃.0; output = sym p₄.0; memory = sym p₅.0; formed = ltb-false _ _ (passes _ _ _ _ _ _ p₅.1).0 }

  good : (i : ℕ) → i < count → not (bad_entry cases n list i) ≡ true
  unfolding first_bad_entry
  good i h = first-before (λ i. not (bad_entry cases n list i)) count i (omega (arith, passed.formed))

  pub cases-small : cases ≡ true → (i : ℕ) → i < count → get_or list i 0 < 2 ^ n
  cases-small e i h = case-small n list i (subst (λ (b : Bool). not (bad_entry b n list i) ≡ true) e (good i h))

  pub list_building : Building n (entry_at cases n list) count room out work × Given cases count list
  list_building = (
    record {
      marks = (listed n count passed.limit).marks;
      some = (roomy room passed.rooms).some;
      few = (roomy room passed.rooms).few;
      count = omega (arith, (listed n count passed.limit).few);
      masks = λ i lt. mask cases n list i (good i lt);
      long = omega (arith, work_long room work passed.memory);
      wide = output-long room out passed.output;
    },
    list_long cases count list passed.short,
  )
