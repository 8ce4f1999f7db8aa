-- The short list, over its entry's own verdict: it says yes exactly where the table does; past inspection it is refused for nodes exactly if a table that the rule calls
-- for is over room, and for clauses exactly if the output does not hold it otherwise. Its promise leaves one possible answer.
use mathlib.Core.Path.{◌≡◌, ap, ◌∙◌}
use mathlib.Core.Bool.{true, false, cond, not}
use mathlib.Core.List.{List, [], ◌∷◌}
use Prim.Native.Nat.{ℕ, ◌≤◌, ◌<◌}
use lib.Dec.{ltb}
use lib.ListN.{length}
use borrow.Author.Tests.{lt-ltb, le-ltb}
use Rattle.theory.specs.Table.{meaning}
use Rattle.theory.specs.Words.{nodes}
use Rattle.theory.proofs.Small.{meaning-deep}
use Rattle.refusal.specs.Number.{NODES, CLAUSES, order}
use Rattle.refusal.specs.Verdict.{refused, answered, judged, tried, first_of}
use Rattle.refusal.proofs.Judged.{Clean}
use Rattle.refusal.proofs.Single.{Single, single}
use Rattle.table.specs.Case.{table_says}
use Rattle.cube.specs.Cube.{dnf}
use Rattle.rule.specs.Rule.{short_list, short_fits}
use Rattle.rule.proofs.Tests.{short-means}
use Rattle.listing.specs.Listed.{capacity, list_answer, lists}
use Rattle.refusal.specs.Told.{number, reply_of}
use Rattle.refusal.proofs.Single.{number-one}
use Rattle.listing.proofs.ClauseLaws.{answered-clauses}
use Rattle.lists.proofs.Listed.{list_in}
use Rattle.short.specs.Short.{short_findings, short_overs, lists_short}

module _ (n count : ℕ) (words : List ℕ) (room : ℕ) (out work : List ℕ) where
  -- the short list says yes exactly where the table does
  pub short-says : (k : ℕ) (result : List ℕ) → lists_short n count words room out work ≡ answered (k ∷ []) (result ∷ [])
      → (case : ℕ) → dnf n (list_in k result) case ≡ table_says n count words case
  short-says k result e case =
      ap (λ xs. dnf n xs case) (answered-clauses (short_findings n count words room work) (short_overs n room (meaning n (nodes count words)) out) (short_list n (meaning n (nodes count words))) k result e)
      ∙ short-means n (meaning n (nodes count words)) (meaning-deep n (nodes count words)) case

  module _ (clean : Clean (judged (short_findings n count words room work))) where
    decided : lists_short n count words room out work
        ≡ cond (not (short_fits room n (meaning n (nodes count words)))) (refused NODES 0)
        (cond (ltb (capacity out) (length (short_list n (meaning n (nodes count words))))) (refused CLAUSES 0) (list_answer (short_list n (meaning n (nodes count words)))))
    unfolding lists judged tried order first_of
    decided = clean _

    short-over : short_fits room n (meaning n (nodes count words)) ≡ false → lists_short n count words room out work ≡ refused NODES 0
    short-over e = decided ∙ rw e

    short_exceeds : short_fits room n (meaning n (nodes count words)) ≡ true → capacity out < length (short_list n (meaning n (nodes count words)))
        → lists_short n count words room out work ≡ refused CLAUSES 0
    short_exceeds e h = decided ∙ rw (e, lt-ltb (capacity out) (length (short_list n (meaning n (nodes count words)))) h)

    short-fits : short_fits room n (meaning n (nodes count words)) ≡ true → length (short_list n (meaning n (nodes count words))) ≤ capacity out
        → lists_short n count words room out work ≡ list_answer (short_list n (meaning n (nodes count words)))
    short-fits e h = decided ∙ rw (e, le-ltb (capacity out) (length (short_list n (meaning n (nodes count words)))) h)

  to_optimized_dnf-single : Single (reply_of number) (lists_short n count words room out work)
  to_optimized_dnf-single = single (reply_of number) number-one (lists_short n count words room out work)
