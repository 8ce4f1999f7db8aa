-- The cover check, over its entry's own verdict: it says that list and table agree exactly if they agree on every case, and that they differ at c exactly if they
-- differ at c and agree on every case before c, in the order that compares mark 0 first (`First`); with input past inspection it is refused for nodes exactly if some
-- opening run of its list has no ordered table of at most room nodes. Its promise leaves one possible answer.
use mathlib.Core.Path.{◌≡◌}
use mathlib.Core.Logic.{◌↔◌}
use mathlib.Core.List.{List}
use Prim.Native.Nat.{ℕ, ◌^◌, ◌≤◌, ◌<◌}
use Rattle.refusal.specs.Number.{NODES}
use Rattle.refusal.specs.Verdict.{refused, answered, judged}
use Rattle.refusal.specs.Told.{reply_of}
use Rattle.refusal.proofs.Judged.{Clean}
use Rattle.refusal.proofs.Single.{Single}
use Rattle.table.specs.Case.{table_says}
use Rattle.cube.specs.Cube.{dnf, clause_at, opening}
use Rattle.builders.proofs.Built.{NoRoom}
use Rattle.cover.specs.Cover.{cover_words, cover_findings, agreement, difference, checks_cover}
use Rattle.cover.proofs.FirstLaws.{First}
use Rattle.cover.proofs.Checked as of

module _ (n count : ℕ) (words : List ℕ) (clauses : ℕ) (list : List ℕ) (room : ℕ) (work : List ℕ) where
  module _ (values : List ℕ) (outs : List (List ℕ)) (e : checks_cover n count words clauses list room work ≡ answered values outs) where
    cover_agrees : (checks_cover n count words clauses list room work ≡ agreement)
        ↔ ((case : ℕ) → case < 2 ^ n → dnf n (opening (clause_at list) clauses) case ≡ table_says n count words case)
    cover_agrees = of.agrees n count words clauses list room work values outs e

    cover_differs : (c : ℕ) → (checks_cover n count words clauses list room work ≡ difference c)
        ↔ First n (dnf n (opening (clause_at list) clauses)) (table_says n count words) c
    cover_differs = of.differs n count words clauses list room work values outs e

  module _ (clean : Clean (judged (cover_findings n count words clauses list room work))) where
    cover_over : (k : ℕ) → k ≤ clauses → NoRoom n room (dnf n (opening (clause_at list) k)) → (place : ℕ) × (checks_cover n count words clauses list room work ≡ refused NODES place)
    cover_over k h no_room = (_, of.check_over n count words clauses list room work clean k h no_room)

    cover_shortest : (place : ℕ) → checks_cover n count words clauses list room work ≡ refused NODES place
        → (place ≤ clauses) × NoRoom n room (dnf n (opening (clause_at list) place)) × ((k : ℕ) → k < place → NoRoom n room (dnf n (opening (clause_at list) k)) → ⊥)
    cover_shortest = of.check_refused n count words clauses list room work clean

  check_cover-single : Single (reply_of cover_words) (checks_cover n count words clauses list room work)
  check_cover-single = of.check_cover-single n count words clauses list room work
