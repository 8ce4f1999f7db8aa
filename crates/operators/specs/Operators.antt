-- What each operator answers, for any input at all: its findings, and the function of its result in one line.
use Rattle.std.specs.Prelude.{true, false, ◌||◌, ◌&&◌, List, ℕ}
use Rattle.theory.specs.Tree.{pointwise, cofactor, and_not, exists_mark, for_all_mark}
use Rattle.theory.specs.Table.{meaning}
use Rattle.theory.specs.Words.{nodes}
use Rattle.refusal.specs.Verdict.{Verdict}
use Rattle.making.specs.Made.{operates}
use Rattle.admission.specs.Admission.{mark_findings, pair_findings}
use Rattle.join.specs.declared.Operation.{Operation}
use Rattle.join.specs.Task.{answer_of}

-- an operation of two tables
abbrev pub makes_pair : Operation → ℕ → ℕ → List ℕ → ℕ → List ℕ → ℕ → List ℕ → List ℕ → Verdict
makes_pair op n lefts left rights right room out work =
    operates (pair_findings n lefts left rights right room out work) n room (pointwise (answer_of op) (meaning n (nodes lefts left)) (meaning n (nodes rights right)))

-- an operation of one table with the mark at 0 and the same with the mark at 1
abbrev pub makes_mark : Operation → ℕ → ℕ → List ℕ → ℕ → ℕ → List ℕ → List ℕ → Verdict
makes_mark op n count words mark room out work =
    operates (mark_findings n count words mark room out work) n room
    (pointwise (answer_of op) (cofactor mark false (meaning n (nodes count words))) (cofactor mark true (meaning n (nodes count words))))

-- left and right
unfoldable pub makes_and : ℕ → ℕ → List ℕ → ℕ → List ℕ → ℕ → List ℕ → List ℕ → Verdict
makes_and n lefts left rights right room out work =
    operates (pair_findings n lefts left rights right room out work) n room (pointwise ◌&&◌ (meaning n (nodes lefts left)) (meaning n (nodes rights right)))

-- left or right
unfoldable pub makes_or : ℕ → ℕ → List ℕ → ℕ → List ℕ → ℕ → List ℕ → List ℕ → Verdict
makes_or n lefts left rights right room out work =
    operates (pair_findings n lefts left rights right room out work) n room (pointwise ◌||◌ (meaning n (nodes lefts left)) (meaning n (nodes rights right)))

-- left and not right
unfoldable pub makes_and_not : ℕ → ℕ → List ℕ → ℕ → List ℕ → ℕ → List ℕ → List ℕ → Verdict
makes_and_not n lefts left rights right room out work =
    operates (pair_findings n lefts left rights right room out work) n room (pointwise and_not (meaning n (nodes lefts left)) (meaning n (nodes rights right)))

-- yes with the mark at 0 and at 1
unfoldable pub makes_for_all : ℕ → ℕ → List ℕ → ℕ → ℕ → List ℕ → List ℕ → Verdict
makes_for_all n count words mark room out work = operates (mark_findings n count words mark room out work) n room (for_all_mark mark (meaning n (nodes count words)))

-- yes with the mark at 0 or at 1
unfoldable pub makes_exists : ℕ → ℕ → List ℕ → ℕ → ℕ → List ℕ → List ℕ → Verdict
makes_exists n count words mark room out work = operates (mark_findings n count words mark room out work) n room (exists_mark mark (meaning n (nodes count words)))
