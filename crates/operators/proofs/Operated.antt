-- The operators: each result says of every case the operation of what the inputs say, it is smallest, and NODES is given exactly when no ordered table within room says it.
use mathlib.Core.Path.{ap₂, ◌∙◌}
use mathlib.Core.Bool.{Bool, true, false, not, ◌||◌, ◌&&◌}
use mathlib.Core.List.{List}
use Prim.Native.Nat.{ℕ}
use Rattle.theory.specs.Mask.{set_bit}
use Rattle.theory.specs.Tree.{Deep, pointwise, cofactor, and_not}
use Rattle.theory.specs.Table.{meaning}
use Rattle.theory.specs.Words.{nodes}
use Rattle.theory.proofs.Cases.{pointwise-deep, pointwise-look, cofactor-deep, cofactor-look}
use Rattle.theory.proofs.Small.{meaning-deep}
use Rattle.table.specs.Case.{table_says}
use Rattle.admission.specs.Admission.{mark_findings, pair_findings}
use Rattle.admission.proofs.Admitted.{mark_quiet, pair_quiet}
use Rattle.making.specs.Made.{operates}
use Rattle.operators.specs.Operators.{makes_and, makes_or, makes_and_not, makes_for_all, makes_exists}
use Rattle.operators.proofs.OperatesLaws.{Operated, operated}

-- two tables
module _ (n lefts : ℕ) (left : List ℕ) (rights : ℕ) (right : List ℕ) (room : ℕ) (out work : List ℕ) where
  pair_operated : (f : Bool → Bool → Bool)
      → Operated (pair_findings n lefts left rights right room out work)
      (operates (pair_findings n lefts left rights right room out work) n room (pointwise f (meaning n (nodes lefts left)) (meaning n (nodes rights right))))
      n room (λ case. f (table_says n lefts left case) (table_says n rights right case))
  pair_operated f =
      operated (pair_findings n lefts left rights right room out work) n room _
      (pointwise-deep f n _ _ (meaning-deep n (nodes lefts left)) (meaning-deep n (nodes rights right))) _
      (λ case h. pointwise-look f n _ _ (meaning-deep n (nodes lefts left)) (meaning-deep n (nodes rights right)) case)
      (pair_quiet n lefts left rights right room out work)

  pub and_operated : Operated (pair_findings n lefts left rights right room out work) (makes_and n lefts left rights right room out work) n room
      (λ case. table_says n lefts left case && table_says n rights right case)
  unfolding makes_and
  and_operated = pair_operated ◌&&◌

  pub or_operated : Operated (pair_findings n lefts left rights right room out work) (makes_or n lefts left rights right room out work) n room
      (λ case. table_says n lefts left case || table_says n rights right case)
  unfolding makes_or
  or_operated = pair_operated ◌||◌

  pub and_not_operated : Operated (pair_findings n lefts left rights right room out work) (makes_and_not n lefts left rights right room out work) n room
      (λ case. table_says n lefts left case && not (table_says n rights right case))
  unfolding makes_and_not
  and_not_operated = pair_operated and_not

-- one table, asked at both values of a mark
module _ (n count : ℕ) (words : List ℕ) (mark room : ℕ) (out work : List ℕ) where
  mark_operated : (f : Bool → Bool → Bool)
      → Operated (mark_findings n count words mark room out work)
      (operates (mark_findings n count words mark room out work) n room (pointwise f (cofactor mark false (meaning n (nodes count words))) (cofactor mark true (meaning n (nodes count words)))))
      n room (λ case. f (table_says n count words (set_bit mark false case)) (table_says n count words (set_bit mark true case)))
  mark_operated f =
      operated (mark_findings n count words mark room out work) n room _
      (pointwise-deep f n _ _ (set-deep false) (set-deep true)) _
      (λ case h. pointwise-look f n _ _ (set-deep false) (set-deep true) case ∙ ap₂ f (cofactor-look mark false _ case) (cofactor-look mark true _ case))
      (mark_quiet n count words room out work mark)
    where
      set-deep : (b : Bool) → Deep n (cofactor mark b (meaning n (nodes count words)))
      set-deep b = cofactor-deep n mark b (meaning n (nodes count words)) (meaning-deep n (nodes count words))

  pub for_all_operated : Operated (mark_findings n count words mark room out work) (makes_for_all n count words mark room out work) n room
      (λ case. table_says n count words (set_bit mark false case) && table_says n count words (set_bit mark true case))
  unfolding makes_for_all
  for_all_operated = mark_operated ◌&&◌

  pub exists_operated : Operated (mark_findings n count words mark room out work) (makes_exists n count words mark room out work) n room
      (λ case. table_says n count words (set_bit mark false case) || table_says n count words (set_bit mark true case))
  unfolding makes_exists
  exists_operated = mark_operated ◌||◌
