-- The operators, each over its entry's own verdict: what its result says of every case, that it is reduced, within room and smallest, and NODES exactly when no
-- ordered table within room says it (`Operated`); and that each promise leaves one possible answer.
use mathlib.Core.Path.{◌≡◌}
use mathlib.Core.Logic.{◌↔◌}
use mathlib.Core.Bool.{Bool, true, false, not, ◌||◌, ◌&&◌}
use mathlib.Core.List.{List, [], ◌∷◌}
use Prim.Native.Nat.{ℕ, ◌^◌, ◌≤◌, ◌<◌}
use Rattle.theory.specs.Mask.{bit, set_bit}
use Rattle.theory.specs.Tree.{tally}
use Rattle.theory.specs.Table.{meaning}
use Rattle.theory.specs.Words.{nodes}
use Rattle.theory.proofs.Cases.{cofactor-deep, cofactor-look}
use Rattle.theory.proofs.Support.{Depends}
use Rattle.theory.proofs.Turned.{mapped-deep, mapped-look}
use Rattle.theory.proofs.Small.{meaning-deep}
use Rattle.refusal.specs.Told.{number, reply_of}
use Rattle.refusal.specs.Verdict.{answered}
use Rattle.refusal.proofs.Single.{Single, single, number-one}
use Rattle.table.specs.Case.{table_says}
use Rattle.admission.specs.Admission.{table_room_findings, mark_findings, pair_findings}
use Rattle.admission.proofs.Admitted.{room_quiet, mark_quiet}
use Rattle.operators.specs.Operators.{makes_and, makes_or, makes_and_not, makes_for_all, makes_exists}
use Rattle.operators.proofs.OperatesLaws.{Operated, operated}
use Rattle.operators.proofs.Operated as of
use Rattle.unary.specs.Unary.{negates, restricts, supports, counts_cases}
use Rattle.unary.proofs.Operated.{support_exact, support-within, cardinality-counts}

-- two tables
module _ (n lefts : ℕ) (left : List ℕ) (rights : ℕ) (right : List ℕ) (room : ℕ) (out work : List ℕ) where
  and-says : Operated (pair_findings n lefts left rights right room out work) (makes_and n lefts left rights right room out work) n room
      (λ case. table_says n lefts left case && table_says n rights right case)
  and-says = of.and_operated n lefts left rights right room out work

  or-says : Operated (pair_findings n lefts left rights right room out work) (makes_or n lefts left rights right room out work) n room
      (λ case. table_says n lefts left case || table_says n rights right case)
  or-says = of.or_operated n lefts left rights right room out work

  and_not-says : Operated (pair_findings n lefts left rights right room out work) (makes_and_not n lefts left rights right room out work) n room
      (λ case. table_says n lefts left case && not (table_says n rights right case))
  and_not-says = of.and_not_operated n lefts left rights right room out work

  and-single : Single (reply_of number) (makes_and n lefts left rights right room out work)
  and-single = single (reply_of number) number-one (makes_and n lefts left rights right room out work)

  or-single : Single (reply_of number) (makes_or n lefts left rights right room out work)
  or-single = single (reply_of number) number-one (makes_or n lefts left rights right room out work)

  and_not-single : Single (reply_of number) (makes_and_not n lefts left rights right room out work)
  and_not-single = single (reply_of number) number-one (makes_and_not n lefts left rights right room out work)

-- one table and a mark
module _ (n count : ℕ) (words : List ℕ) (mark room : ℕ) (out work : List ℕ) where
  for_all-says : Operated (mark_findings n count words mark room out work) (makes_for_all n count words mark room out work) n room
      (λ case. table_says n count words (set_bit mark false case) && table_says n count words (set_bit mark true case))
  for_all-says = of.for_all_operated n count words mark room out work

  exists_says : Operated (mark_findings n count words mark room out work) (makes_exists n count words mark room out work) n room
      (λ case. table_says n count words (set_bit mark false case) || table_says n count words (set_bit mark true case))
  exists_says = of.exists_operated n count words mark room out work

  restrict-says : (value : Bool) → Operated (mark_findings n count words mark room out work) (restricts n count words mark value room out work) n room
      (λ case. table_says n count words (set_bit mark value case))
  restrict-says value =
      operated (mark_findings n count words mark room out work) n room _
      (cofactor-deep n mark value _ (meaning-deep n (nodes count words))) _
      (λ case h. cofactor-look mark value (meaning n (nodes count words)) case)
      (mark_quiet n count words room out work mark)

  for_all-single : Single (reply_of number) (makes_for_all n count words mark room out work)
  for_all-single = single (reply_of number) number-one (makes_for_all n count words mark room out work)

  exists_single : Single (reply_of number) (makes_exists n count words mark room out work)
  exists_single = single (reply_of number) number-one (makes_exists n count words mark room out work)

  restrict-single : (value : Bool) → Single (reply_of number) (restricts n count words mark value room out work)
  restrict-single value = single (reply_of number) number-one (restricts n count words mark value room out work)

-- one table
module _ (n count : ℕ) (words : List ℕ) (room : ℕ) (out work : List ℕ) where
  not-says : Operated (table_room_findings n count words room out work) (negates n count words room out work) n room (λ case. not (table_says n count words case))
  not-says =
      operated (table_room_findings n count words room out work) n room _
      (mapped-deep not n _ (meaning-deep n (nodes count words))) _
      (λ case h. mapped-look not (meaning n (nodes count words)) case)
      (room_quiet n count words room out work)

  not-single : Single (reply_of number) (negates n count words room out work)
  not-single = single (reply_of number) number-one (negates n count words room out work)

-- one table, and a number for an answer
module _ (n count : ℕ) (words work : List ℕ) where
  -- support: bit i is set exactly if two cases that differ in mark i only get different answers, and no bit from n up is
  support-says : (mask : ℕ) → supports n count words work ≡ answered (mask ∷ []) []
      → ((i : ℕ) → i < n → (bit i mask ≡ true) ↔ Depends n i (meaning n (nodes count words))) × ((i : ℕ) → n ≤ i → bit i mask ≡ false)
  support-says mask e = (support_exact n count words work mask e, support-within n count words work mask e)

  -- case count: the number of cases that get yes
  cardinality-says : (k : ℕ) → counts_cases n count words work ≡ answered (k ∷ []) [] → k ≡ tally (2 ^ n) (table_says n count words)
  cardinality-says = cardinality-counts n count words work

  support-single : Single (reply_of number) (supports n count words work)
  support-single = single (reply_of number) number-one (supports n count words work)

  cardinality-single : Single (reply_of number) (counts_cases n count words work)
  cardinality-single = single (reply_of number) number-one (counts_cases n count words work)
