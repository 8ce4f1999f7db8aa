-- The whole claim: of a list whose table is built, and whose two lists are extracted, a case is in the list exactly if it is in exactly one clause of the path list,
-- exactly if it is in some clause of the short list; and the cover check of table and short list agrees where it is not refused.
use mathlib.Core.Path.{◌≡◌, sym, ap, ap₂, ◌∙◌}
use mathlib.Core.Bool.{cond}
use mathlib.Core.List.{List, [], ◌∷◌, append-nil}
use Prim.Native.Nat.{ℕ, ◌^◌, ◌<◌}
use lib.ListN.{length}
use Rattle.theory.specs.Tree.{look}
use Rattle.theory.specs.Table.{Table, meaning}
use Rattle.theory.specs.Words.{nodes, words_of}
use Rattle.theory.proofs.Words.{nodes-words}
use Rattle.refusal.specs.Verdict.{answered}
use Rattle.table.specs.Case.{table_says}
use Rattle.making.specs.Made.{table_answer}
use Rattle.cube.specs.Cube.{dnf, clause_at, opening}
use Rattle.paths.specs.Paths.{hits}
use Rattle.builders.specs.Builders.{makes_dnf}
use Rattle.builders.proofs.Built.{Smallest, dnf-built}
use Rattle.lists.specs.Lists.{lists_dnf}
use Rattle.lists.proofs.Listed.{list_in, dnf_exactly_one}
use Rattle.short.specs.Short.{lists_short}
use Rattle.cover.specs.Cover.{agreement, checks_cover}
use Rattle.cover.proofs.Checked.{agrees}
use Rattle.demands.proofs.Short.{short-says}

-- the built table
module _ (n count : ℕ) (list : List ℕ) (room : ℕ) (out work : List ℕ) (nodes' : ℕ) (table : List ℕ) (built : makes_dnf n count list room out work ≡ answered (nodes' ∷ []) (table ∷ [])) where
  table-says : (case : ℕ) → case < 2 ^ n → table_says n nodes' table case ≡ dnf n (opening (clause_at list) count) case
  unfolding table_answer
  table-says case h =
      let s : Smallest n (dnf n (opening (clause_at list) count)) (makes_dnf n count list room out work) = (dnf-built n count list room out work).built (nodes' ∷ []) (table ∷ []) built in
      ap (λ t. look (meaning n t) case) (same s.table (sym s.answer ∙ built)) ∙ s.says.answers case h
    where
      same : (t : Table) → table_answer t ≡ answered (nodes' ∷ []) (table ∷ []) → nodes nodes' table ≡ t
      same t e =
          let number : length t ≡ nodes' = cc in
          let words : words_of t ≡ table = cc in
          ap₂ nodes (sym number) (sym words ∙ sym (append-nil (words_of t))) ∙ nodes-words t []

  -- in the list exactly if in exactly one clause of the path list
  in_one_path : (out' work' : List ℕ) (k : ℕ) (paths : List ℕ) → lists_dnf n nodes' table out' work' ≡ answered (k ∷ []) (paths ∷ [])
      → (case : ℕ) → case < 2 ^ n → hits n (list_in k paths) case ≡ cond (dnf n (opening (clause_at list) count) case) 1 0
  in_one_path out' work' k paths e case h = dnf_exactly_one n nodes' table out' work' k paths e case ∙ ap (λ b. cond b 1 0) (table-says case h)

  -- exactly if in some clause of the short list
  module _ (room' : ℕ) (out' work' : List ℕ) (k : ℕ) (short : List ℕ) (e : lists_short n nodes' table room' out' work' ≡ answered (k ∷ []) (short ∷ [])) where
    in_short_list : (case : ℕ) → case < 2 ^ n → dnf n (list_in k short) case ≡ dnf n (opening (clause_at list) count) case
    in_short_list case h = short-says n nodes' table room' out' work' k short e case ∙ table-says case h

    -- and the cover check of table and short list agrees where it is not refused
    cover_agrees : (room'' : ℕ) (work'' : List ℕ) (values : List ℕ) (outs : List (List ℕ)) → checks_cover n nodes' table k short room'' work'' ≡ answered values outs
        → checks_cover n nodes' table k short room'' work'' ≡ agreement
    cover_agrees room'' work'' values outs answered-it = (agrees n nodes' table k short room'' work'' values outs answered-it).1 (λ case h. short-says n nodes' table room' out' work' k short e case)
