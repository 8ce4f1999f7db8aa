-- The list built, and the two equations of the check.
use mathlib.Core.Path.{◌≡◌, refl, sym, ap, subst, ◌∙◌}
use mathlib.Core.Bool.{Bool, true, false, cond}
use mathlib.Core.List.{List, []}
use Prim.Native.Nat.{ℕ, suc, ◌*◌, ◌-◌, ◌≤◌}
use native.Mathlib.Omega.{arith}
use lib.Dec.{ltb}
use lib.ListN.{length, replicate}
use Rattle.theory.specs.Tree.{Tree, same_tree}
use Rattle.theory.specs.Table.{meaning, canon}
use Rattle.theory.specs.Words.{stride, nodes}
use Rattle.theory.proofs.Canon.{canon-means}
use Rattle.theory.proofs.Words.{nodes-agree}
use Rattle.refusal.specs.Number.{NODES, order}
use Rattle.refusal.specs.Limits.{max_nodes}
use Rattle.refusal.specs.Buffers.{padded, zeroing, buffer_after, work_after}
use Rattle.refusal.specs.Verdict.{Verdict, refused, answered, first_of, tried, judged, replied, refused_with, gives, refusal_reply}
use Rattle.refusal.specs.declared.Refusal.{Refusal}
use Rattle.refusal.proofs.Judged.{Clean, refused_quiet, work_untouched}
use Rattle.table.specs.declared.BddPointer.{BddPointer}
use Rattle.table.specs.declared.Inspection.{Inspection}
use Rattle.table.specs.declared.Inspection.TheVariants.{Sound, Refused}
use Rattle.table.specs.Inspection.{inspection_reply, root_of, SoundTable}
use Rattle.table.proofs.AdmissionLaws.{admission_refused, admission_clean}
use Rattle.making.specs.Made.{Leaves}
use Rattle.cube.specs.Cube.{clause_at, opening}
use Rattle.cube.proofs.Runs.{means-deep}
use Rattle.entries.specs.declared.Form.TheVariants.{Dnf}
use Rattle.build.specs.Build.{Copied, Building, Builds, Counted}
use Rattle.builders.specs.Builders.{run_means, shortest_over}
use Rattle.builders.proofs.BuilderLaws.{leaves}
use Rattle.std.specs.Prelude.{Result, Ok, Err}
use Rattle.refusal.specs.Number.{number_of}
use Rattle.refusal.specs.Told.{reply_of}
use Rattle.cover.specs.declared.Cover.{Cover}
use Rattle.cover.specs.Cover.{cover_words, cover_findings, first_differing, agreement, difference, cover_answer, covers, checks_cover}
use Rattle.cover.specs.Compare.{Comparing, Covering}
use Rattle.cover.proofs.AdmitLaws.{cover_quiet, cover_covering}

-- some opening run's table exceeds room
abbrev pub over_runs : ℕ → ℕ → List ℕ → ℕ → Bool
over_runs n clauses list room = ltb (shortest_over true n clauses (clause_at list) room) (suc clauses)

-- past inspection
pub covers-is : (n count : ℕ) (words : List ℕ) (clauses : ℕ) (list : List ℕ) (room : ℕ)
    → covers n count words clauses list room
    ≡ cond (over_runs n clauses list room) (refused NODES (shortest_over true n clauses (clause_at list) room)) (cover_answer (run_means true n (clause_at list) clauses) (meaning n (nodes count words)))
unfolding covers judged tried order first_of
covers-is n count words clauses list room = refl

-- ---- the list built
module _ (n count : ℕ) (words : List ℕ) (root clauses : ℕ) (list : List ℕ) (room : ℕ) (memory work : List ℕ) (input : SoundTable n count words root) (g : Covering n count clauses list room memory work) where
  abbrev shortest : ℕ
  shortest = shortest_over true n clauses (clause_at list) room

  -- what the list says, and what the table says
  abbrev t : Tree
  t = run_means true n (clause_at list) clauses

  abbrev u : Tree
  u = meaning n (nodes count words)

  pub building : Building n (clause_at list) clauses room memory work
  building = record {
    marks = input.marks;
    some = g.some;
    few = g.few;
    count = omega (arith, g.listed);
    masks = g.masks;
    long = omega (arith, g.long);
    wide = omega (arith, g.wide, g.few);
  }

  module _ (memory₁ : List ℕ) (same : length memory₁ ≡ length memory) (tabled : Result ℕ ℕ) (built : Builds n (clause_at list) clauses Dnf room memory₁ tabled) where
    left : Leaves (ltb shortest (suc clauses)) shortest (canon n t) memory₁ tabled
    left = leaves n (clause_at list) clauses Dnf room memory₁ (omega (arith, g.wide, g.few)) tabled built

    pub list_over : (place : ℕ) → tabled ≡ Err place → refused_with NODES place ≡ replied (covers n count words clauses list room)
    unfolding replied
    list_over place e =
        let over : (ltb shortest (suc clauses) ≡ true) × (shortest ≡ place) = subst (λ z. Leaves (ltb shortest (suc clauses)) shortest (canon n t) memory₁ z) e left in
        rw (covers-is n count words clauses list room, over.0, over.1)

    module _ (made : ℕ) (e : tabled ≡ Ok made) where
      counted : Counted n (clause_at list) clauses Dnf room memory₁ made
      counted = subst (λ z. Builds n (clause_at list) clauses Dnf room memory₁ z) e built

      is-table : (stride * made ≤ length memory₁) × (nodes made memory₁ ≡ canon n t) × (ltb shortest (suc clauses) ≡ false)
      is-table = subst (λ z. Leaves (ltb shortest (suc clauses)) shortest (canon n t) memory₁ z) e left

      pub made_few : made ≤ max_nodes
      made_few = omega (arith, counted.small, g.few)

      pub made_within : 3 * made ≤ length memory₁
      made_within = is-table.0

      pub made_fits : 3 * made ≤ length work
      made_fits = omega (arith, counted.small, g.long)

      module _ (work₁ work₂ : List ℕ) (copied : Copied work₁ work₂ memory₁ (3 * made)) where
        front : nodes made work₂ ≡ canon n t
        front = nodes-agree made work₂ memory₁ copied.front ∙ is-table.1

        means : meaning n (nodes made work₂) ≡ t
        means = ap (meaning n) front ∙ canon-means n t (means-deep true n (opening (clause_at list) clauses))

        pub comparing : length work₂ ≡ length work → Comparing n count made work₂ memory₁
        comparing long = record {
          few = made_few;
          canonical = front ∙ ap (canon n) (sym means);
          long = omega (arith, long, g.long, counted.small);
          wide = omega (arith, same, g.wide, input.few);
        }

        pub list_compared : (r : Cover) → gives (cover_words r) ≡ replied (cover_answer (meaning n (nodes made work₂)) u) → gives (cover_words r) ≡ replied (covers n count words clauses list room)
        list_compared r h = rw (covers-is n count words clauses list room, is-table.2) (h ∙ ap (λ x. replied (cover_answer x u)) means)

-- ---- the check, by its admission's answer
padded_zeros : (k : ℕ) (w : List ℕ) → w ≡ replicate k 0 → w ≡ padded [] k
unfolding padded
padded_zeros k w e = let z : k - 0 ≡ k = omega arith in rw z e

-- past inspection the work is zero in any case
zeroes : (over : Bool) (place : ℕ) (t u : Tree) (work : List ℕ) → work_after (cond over (refused NODES place) (cover_answer t u)) work ≡ padded [] (length work)
unfolding cover_answer buffer_after zeroing
zeroes true place t u work = refl
zeroes false place t u work = elim (same_tree t u) as (λ b. work_after (cond b agreement (difference (first_differing t u))) work ≡ padded [] (length work)) [
  | true ↦ refl
  | false ↦ refl
]

covers-zero : (n count : ℕ) (words : List ℕ) (clauses : ℕ) (list : List ℕ) (room : ℕ) (work : List ℕ) → work_after (covers n count words clauses list room) work ≡ padded [] (length work)
covers-zero n count words clauses list room work =
    ap (λ v. work_after v work) (covers-is n count words clauses list room)
    ∙ zeroes (over_runs n clauses list room) (shortest_over true n clauses (clause_at list) room) (run_means true n (clause_at list) clauses) (meaning n (nodes count words)) work

module _ (n count : ℕ) (words : List ℕ) (clauses : ℕ) (list : List ℕ) (room : ℕ) (work : List ℕ) (a : Inspection)
    (e : inspection_reply a ≡ replied (judged (cover_findings n count words clauses list room work) (root_of count))) where
  pub cover_refused : (q : Refusal) → a ≡ Refused q
      → (refusal_reply q ≡ replied (checks_cover n count words clauses list room work)) × (work ≡ work_after (checks_cover n count words clauses list room work) work)
  unfolding checks_cover
  cover_refused q is =
      let stays : (v : Verdict) → judged (cover_findings n count words clauses list room work) v ≡ refused (number_of q.kind) q.place = admission_refused (cover_findings n count words clauses list room work) count a e q is in
      work_untouched q _ work (stays _) (refused_quiet [] [] (number_of q.kind) q.place (cover_findings n count words clauses list room work) (cover_quiet n count words clauses list room work) (stays (answered [] [])))

  module _ (p : BddPointer) (is : a ≡ Sound p) where
    pub cover_ready : SoundTable n count words p.0 × ((memory : List ℕ) → stride * max_nodes ≤ length memory → Covering n count clauses list room memory work)
    cover_ready =
        let c = admission_clean (cover_findings n count words clauses list room work) count a e p is in
        cover_covering n count words clauses list room work c.0 p.0 c.1

    pub cover_answered : (r : Result Cover Refusal) → reply_of cover_words r ≡ replied (covers n count words clauses list room) → (work₁ work' : List ℕ) → length work₁ ≡ length work → work' ≡ replicate (length work₁) 0
        → (reply_of cover_words r ≡ replied (checks_cover n count words clauses list room work)) × (work' ≡ work_after (checks_cover n count words clauses list room work) work)
    unfolding checks_cover
    cover_answered r h work₁ work' same zeros =
        let clean : Clean (judged (cover_findings n count words clauses list room work)) = (admission_clean (cover_findings n count words clauses list room work) count a e p is).0 in
        rw (clean (covers n count words clauses list room)) (h, padded_zeros (length work₁) work' zeros ∙ ap (padded []) same ∙ sym (covers-zero n count words clauses list room work))
