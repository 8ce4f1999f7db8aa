-- Laws that a user of partial valuations expects. Each is about the verdicts that the entries' contracts cite.
use mathlib.Core.Path.{◌≡◌, refl, sym, ap, ◌∙◌}
use mathlib.Core.Logic.{◌≢◌, ◌↔◌}
use mathlib.Core.Bool.{Bool, true, cond}
use mathlib.Core.List.{List, [], ◌∷◌, ◌++◌}
use mathlib.Core.Option.{Option, none, some}
use Prim.Native.Nat.{ℕ, ◌/◌, ◌<◌}
use native.Mathlib.Omega.{arith}
use lib.Dec.{eqb, ltb}
use lib.ListN.{length, get_or, length-append}
use lib.Pow.{pow_pos}
use lib.Seq.{get_or-append_seam}
use borrow.Author.Tests.{eq-eqb, ne_eqb, eqb-true, lt-leb, lt-ltb}
use Rattle.theory.specs.Mask.{odd, bit}
use Rattle.theory.proofs.Masks.{bit-zero, bit_ext}
use Rattle.theory.specs.Clause.{Clause, WellFormed, cell, empty_clause, extending, entries_of, gather}
use Rattle.theory.proofs.Clauses.{is_set, cell-fixed, not-malformed, put_cell, put_cell-formed, cell-put_cell, put_cell-twice, put_cell_idle, cell_ext, empty-formed, extending_self, extending-both, extending_antisym, extending-cells}
use Rattle.theory.proofs.Gathers.{MarksBelow, gather-last, gather-formed, entries_below, from_entries, Rising, to_entries}
use Rattle.theory.proofs.Truths.{and_true}
use Rattle.refusal.specs.Number.{order}
use Rattle.refusal.specs.Limits.{max_marks}
use Rattle.refusal.specs.Verdict.{Verdict, answered, Finding, first_of, tried, judged, replied, gives}
use Rattle.refusal.proofs.Firsts.{first-none}
use Rattle.refusal.proofs.Judged.{judged-answer}
use Rattle.valuation.specs.Valuation.{of_one, of_mark, of_two, of_list, first_bad_mark, says_truth, says_clause, says_cell, says_entries, same_words}
use Rattle.valuation.specs.Valuation.{asks_empty, gathers_values, lists_values, gets_value, asks_value, sets_value, unsets_value, asks_extends, asks_equal}
use Rattle.valuation.proofs.Checks.{one_formed, mark_below, mark_formed, two_formed, list-good}
use Rattle.valuation.proofs.Answers.{cell-none}
use Rattle.valuation.proofs.OneToOne.{digit-single}
use Rattle.valuation.proofs.Gathering.{passed-all, all-below}

-- ---- calls that are not refused

-- nothing was found wrong
abbrev Clear : List Finding → Type 0
Clear fs = (u : Verdict) → judged fs u ≡ u

mark-clear : (c : Clause) (m : ℕ) → m < max_marks → WellFormed max_marks c → Clear (of_mark c m)
unfolding judged tried first_of order
mark-clear c m h w u = rw (lt-leb max_marks m h, not-malformed max_marks c w)

one-clear : (c : Clause) → WellFormed max_marks c → Clear (of_one c)
unfolding judged tried first_of order
one-clear c w u = rw (not-malformed max_marks c w)

two-clear : (c d : Clause) → WellFormed max_marks c → WellFormed max_marks d → Clear (of_two c d)
unfolding judged tried first_of order
two-clear c d w v u = rw (not-malformed max_marks c w, not-malformed max_marks d v)

-- a check that finds nothing
clear_check : (fs : List Finding) → Clear fs → gives [] ≡ replied (judged fs (answered [] []))
unfolding replied
clear_check fs clear = sym (ap replied (clear (answered [] [])))

-- the same answer, the same value
truth-is : (a b : Bool) → says_truth a ≡ says_truth b → a ≡ b
truth-is a b e = let z : ◌≡◌ {A = ℕ} (cond a 1 0) (cond b 1 0) = cc in digit-single a b z

clause-is : (c d : Clause) → says_clause c ≡ says_clause d → c ≡ d
clause-is c d e =
    let p : c.fixed ≡ d.fixed = cc in
    let q : c.values ≡ d.values = cc in
    λ i. record { fixed = p i; values = q i }

cell-is : (o p : Option Bool) → says_cell o ≡ says_cell p → o ≡ p
unfolding says_cell
cell-is none none e = refl
cell-is none (some b) e = let z : ◌≡◌ {A = ℕ} 0 1 = cc in absurd (omega arith)
cell-is (some a) none e = let z : ◌≡◌ {A = ℕ} 1 0 = cc in absurd (omega arith)
cell-is (some a) (some b) e = let z : ◌≡◌ {A = ℕ} (cond a 1 0) (cond b 1 0) = cc in ap some (digit-single a b z)

entries_is : (us ws : List ℕ) → says_entries us ≡ says_entries ws → us ≡ ws
entries_is us ws e = cc

-- ---- setting and unsetting, together: none unsets the mark, some b sets it to b

abbrev puts : Clause → ℕ → Option Bool → Verdict
puts c m none = unsets_value c m
puts c m (some b) = sets_value c m b

puts-is : (c : Clause) (m : ℕ) (o : Option Bool) → puts c m o ≡ judged (of_mark c m) (says_clause (put_cell c m o))
puts-is c m none = unfold unsets_value in refl
puts-is c m (some b) = unfold sets_value in refl

-- what is known where a call with a mark answers
record Known (c : Clause) (m : ℕ) : Type 0 where
  below : m < max_marks
  formed : WellFormed max_marks c

known : (c : Clause) (m : ℕ) → Clear (of_mark c m) → Known c m
known c m clear =
    record { below = mark_below c m (clear_check (of_mark c m) clear); formed = mark_formed c m (clear_check (of_mark c m) clear) }

module _ (c d : Clause) (m : ℕ) (o : Option Bool) (e : puts c m o ≡ says_clause d) where
  clear : Clear (of_mark c m)
  clear = judged-answer (of_mark c m) (says_clause (put_cell c m o)) (d.fixed ∷ d.values ∷ []) [] (sym (puts-is c m o) ∙ e)

  put_is : d ≡ put_cell c m o
  put_is = clause-is d (put_cell c m o) (sym e ∙ puts-is c m o ∙ clear (says_clause (put_cell c m o)))

  put-known : Known c m
  put-known = known c m clear

  put_well : WellFormed max_marks d
  put_well = rw put_is (put_cell-formed max_marks c m o put-known.below put-known.formed)

  get_after_put : gets_value d m ≡ says_cell o
  unfolding gets_value
  get_after_put =
      mark-clear d m put-known.below put_well (says_cell (cell d m))
      ∙ ap says_cell (ap (λ x. cell x m) put_is ∙ cell-put_cell c m o m ∙ ap (λ t. cond t o (cell c m)) (eq-eqb m m refl))

  get_other_after_put : (k : ℕ) → k ≢ m → gets_value d k ≡ gets_value c k
  unfolding gets_value
  get_other_after_put k h =
      let same : cell d k ≡ cell c k = ap (λ x. cell x k) put_is ∙ cell-put_cell c m o k ∙ ap (λ t. cond t o (cell c k)) (ne_eqb k m h) in
      rw (not-malformed max_marks d put_well, not-malformed max_marks c put-known.formed, same)

  put_after_put : (p : Option Bool) → puts d m p ≡ puts c m p
  put_after_put p =
      puts-is d m p ∙ mark-clear d m put-known.below put_well (says_clause (put_cell d m p))
      ∙ ap says_clause (ap (λ x. put_cell x m p) put_is ∙ put_cell-twice max_marks c m o p put-known.below put-known.formed)
      ∙ sym (puts-is c m p ∙ clear (says_clause (put_cell c m p)))

-- where a cell is found
found-clear : (c : Clause) (m : ℕ) (o : Option Bool) → gets_value c m ≡ says_cell o → Clear (of_mark c m)
unfolding gets_value says_cell
found-clear c m none e = judged-answer (of_mark c m) (says_cell (cell c m)) (0 ∷ []) [] e
found-clear c m (some b) e = judged-answer (of_mark c m) (says_cell (cell c m)) (1 ∷ cond b 1 0 ∷ []) [] e

found-cell : (c : Clause) (m : ℕ) (o : Option Bool) → gets_value c m ≡ says_cell o → cell c m ≡ o
unfolding gets_value
found-cell c m o e = cell-is (cell c m) o (sym (found-clear c m o e (says_cell (cell c m))) ∙ e)

put-found : (c : Clause) (m : ℕ) (o : Option Bool) → gets_value c m ≡ says_cell o → puts c m o ≡ says_clause c
put-found c m o e =
    let k : Known c m = known c m (found-clear c m o e) in
    puts-is c m o ∙ found-clear c m o e (says_clause (put_cell c m o))
    ∙ ap says_clause (ap (put_cell c m) (sym (found-cell c m o e)) ∙ put_cell_idle max_marks c m k.below k.formed)

-- ---- set, unset, get, has

-- a mark that was set has the value
pub get_after_set : (c d : Clause) (m : ℕ) (b : Bool) → sets_value c m b ≡ says_clause d → gets_value d m ≡ says_cell (some b)
get_after_set c d m b = get_after_put c d m (some b)

-- setting a mark leaves the others
pub get_other_after_set : (c d : Clause) (m k : ℕ) (b : Bool) → sets_value c m b ≡ says_clause d → k ≢ m → gets_value d k ≡ gets_value c k
get_other_after_set c d m k b e = get_other_after_put c d m (some b) e k

-- the later of two values stands
pub set_after_set : (c d : Clause) (m : ℕ) (a b : Bool) → sets_value c m a ≡ says_clause d → sets_value d m b ≡ sets_value c m b
set_after_set c d m a b e = put_after_put c d m (some a) e (some b)

-- setting the value that is there does nothing
pub set_again : (c : Clause) (m : ℕ) (b : Bool) → gets_value c m ≡ says_cell (some b) → sets_value c m b ≡ says_clause c
set_again c m b = put-found c m (some b)

-- a mark that was unset is unset
pub get_after_unset : (c d : Clause) (m : ℕ) → unsets_value c m ≡ says_clause d → gets_value d m ≡ says_cell none
get_after_unset c d m = get_after_put c d m none

-- unsetting a mark leaves the others
pub get_other_after_unset : (c d : Clause) (m k : ℕ) → unsets_value c m ≡ says_clause d → k ≢ m → gets_value d k ≡ gets_value c k
get_other_after_unset c d m k e = get_other_after_put c d m none e k

-- unsetting an unset cell does nothing
pub unset_unset : (c : Clause) (m : ℕ) → gets_value c m ≡ says_cell none → unsets_value c m ≡ says_clause c
unset_unset c m = put-found c m none

-- unsetting twice is unsetting once
pub unset_after_unset : (c d : Clause) (m : ℕ) → unsets_value c m ≡ says_clause d → unsets_value d m ≡ says_clause d
unset_after_unset c d m e = unset_unset d m (get_after_unset c d m e)

-- unsetting takes back what was set, and setting what was unset
pub unset_after_set : (c d : Clause) (m : ℕ) (b : Bool) → sets_value c m b ≡ says_clause d → unsets_value d m ≡ unsets_value c m
unset_after_set c d m b e = put_after_put c d m (some b) e none

pub set_after_unset : (c d : Clause) (m : ℕ) (b : Bool) → unsets_value c m ≡ says_clause d → sets_value d m b ≡ sets_value c m b
set_after_unset c d m b e = put_after_put c d m none e (some b)

-- a mark has a value exactly if its cell holds one
pub has_as_get : (c : Clause) (m : ℕ) (o : Option Bool) → gets_value c m ≡ says_cell o → asks_value c m ≡ says_truth (is_set o)
unfolding asks_value
has_as_get c m o e =
    found-clear c m o e (says_truth (bit m c.fixed))
    ∙ ap says_truth (sym (cell-fixed c m) ∙ ap is_set (found-cell c m o e))

-- a valuation is empty exactly if every cell is unset
pub empty_unset : (c : Clause) → WellFormed max_marks c → (asks_empty c ≡ says_truth true) ↔ ((m : ℕ) → m < max_marks → gets_value c m ≡ says_cell none)
unfolding asks_empty gets_value
empty_unset c w = (forth, back)
  where
    forth : judged (of_one c) (says_truth (eqb c.fixed 0)) ≡ says_truth true → (m : ℕ) → m < max_marks → judged (of_mark c m) (says_cell (cell c m)) ≡ says_cell none
    forth e m h =
        let zero : c.fixed ≡ 0 = eqb-true c.fixed 0 (truth-is (eqb c.fixed 0) true (sym (one-clear c w (says_truth (eqb c.fixed 0))) ∙ e)) in
        mark-clear c m h w (says_cell (cell c m)) ∙ ap says_cell (sym (cell-none c m (ap (bit m) zero ∙ bit-zero m)))

    back : ((m : ℕ) → m < max_marks → judged (of_mark c m) (says_cell (cell c m)) ≡ says_cell none) → judged (of_one c) (says_truth (eqb c.fixed 0)) ≡ says_truth true
    back all =
        let zero : c.fixed ≡ 0 =
        bit_ext max_marks c.fixed 0 w.small (pow_pos max_marks)
        (λ m h. sym (cell-fixed c m) ∙ ap is_set (cell-is (cell c m) none (sym (mark-clear c m h w (says_cell (cell c m))) ∙ all m h)) ∙ sym (bit-zero m)) in
        one-clear c w (says_truth (eqb c.fixed 0)) ∙ ap says_truth (eq-eqb c.fixed 0 zero)

-- ---- from_values and to_values

gathered_below : (ws : List ℕ) (d : Clause) → gathers_values ws ≡ says_clause d → MarksBelow max_marks ws
unfolding gathers_values
gathered_below ws d e = all-below ws (passed-all ws (judged-answer (of_list ws) (says_clause (gather empty_clause ws)) (d.fixed ∷ d.values ∷ []) [] e (answered [] [])))

gathered_is : (ws : List ℕ) (d : Clause) → gathers_values ws ≡ says_clause d → d ≡ gather empty_clause ws
unfolding gathers_values
gathered_is ws d e = clause-is d (gather empty_clause ws) (sym e ∙ judged-answer (of_list ws) (says_clause (gather empty_clause ws)) (d.fixed ∷ d.values ∷ []) [] e (says_clause (gather empty_clause ws)))

gathered_well : (ws : List ℕ) (d : Clause) → gathers_values ws ≡ says_clause d → WellFormed max_marks d
gathered_well ws d e = rw (gathered_is ws d e) (gather-formed max_marks empty_clause ws (gathered_below ws d e) (empty-formed max_marks))

gathers_all : (ws : List ℕ) → MarksBelow max_marks ws → gathers_values ws ≡ says_clause (gather empty_clause ws)
unfolding gathers_values first_bad_mark
gathers_all ws below = list-good ws (says_clause (gather empty_clause ws)) (omega (arith, first-none (λ i. ltb (get_or ws i 0 / 2) max_marks) (length ws) (λ i d. lt-ltb (get_or ws i 0 / 2) max_marks (below i d))))

listed : (c : Clause) (ws : List ℕ) → lists_values c ≡ says_entries ws → Clear (of_one c)
unfolding lists_values
listed c ws e = judged-answer (of_one c) (says_entries (entries_of max_marks c)) (length ws ∷ ws) [] e

-- a valuation comes back from its words
pub from_after_to : (c : Clause) (ws : List ℕ) → lists_values c ≡ says_entries ws → gathers_values ws ≡ says_clause c
unfolding lists_values
from_after_to c ws e =
    let w : WellFormed max_marks c = one_formed c (clear_check (of_one c) (listed c ws e)) in
    let same : entries_of max_marks c ≡ ws = entries_is (entries_of max_marks c) ws (sym (listed c ws e (says_entries (entries_of max_marks c))) ∙ e) in
    ap gathers_values (sym same) ∙ gathers_all (entries_of max_marks c) (entries_below max_marks max_marks c (omega arith)) ∙ ap says_clause (from_entries max_marks c w)

-- a rising list comes back from its valuation
pub to_after_from : (ws : List ℕ) (c : Clause) → Rising 0 ws → gathers_values ws ≡ says_clause c → lists_values c ≡ says_entries ws
unfolding lists_values
to_after_from ws c r e =
    one-clear c (gathered_well ws c e) (says_entries (entries_of max_marks c))
    ∙ ap says_entries (ap (entries_of max_marks) (gathered_is ws c e) ∙ to_entries max_marks ws r (gathered_below ws c e))

-- the last entry wins
pub last_wins : (ws : List ℕ) (w : ℕ) (d : Clause) → gathers_values (ws ++ (w ∷ [])) ≡ says_clause d → gets_value d (w / 2) ≡ says_cell (some (odd w))
unfolding gets_value
last_wins ws w d e =
    let below : get_or (ws ++ (w ∷ [])) (length ws) 0 / 2 < max_marks = gathered_below (ws ++ (w ∷ [])) d e (length ws) (omega (arith, length-append ws (w ∷ []))) in
    mark-clear d (w / 2) (rw (get_or-append_seam ws w [] 0) at below) (gathered_well (ws ++ (w ∷ [])) d e) (says_cell (cell d (w / 2)))
    ∙ ap says_cell (ap (λ x. cell x (w / 2)) (gathered_is (ws ++ (w ∷ [])) d e ∙ gather-last empty_clause ws w)
    ∙ cell-put_cell (gather empty_clause ws) (w / 2) (some (odd w)) (w / 2)
    ∙ ap (λ t. cond t (some (odd w)) (cell (gather empty_clause ws) (w / 2))) (eq-eqb (w / 2) (w / 2) refl))

-- and leaves the marks of the others as the entries before it say
pub last_leaves : (ws : List ℕ) (w k : ℕ) (c d : Clause) → gathers_values ws ≡ says_clause c → gathers_values (ws ++ (w ∷ [])) ≡ says_clause d → k ≢ w / 2 → gets_value d k ≡ gets_value c k
unfolding gets_value
last_leaves ws w k c d p q h =
    let same : cell d k ≡ cell c k =
    ap (λ x. cell x k) (gathered_is (ws ++ (w ∷ [])) d q ∙ gather-last empty_clause ws w)
    ∙ cell-put_cell (gather empty_clause ws) (w / 2) (some (odd w)) k
    ∙ ap (λ t. cond t (some (odd w)) (cell (gather empty_clause ws) k)) (ne_eqb k (w / 2) h)
    ∙ ap (λ x. cell x k) (sym (gathered_is ws c p)) in
    rw (not-malformed max_marks d (gathered_well (ws ++ (w ∷ [])) d q), not-malformed max_marks c (gathered_well ws c p), same)

-- ---- extends is an order, and eq is equality of all cells

two-known : (c d : Clause) → Clear (of_two c d) → WellFormed max_marks c × WellFormed max_marks d
two-known c d clear = two_formed c d (clear_check (of_two c d) clear)

record Extends (c d : Clause) : Type 0 where
  first : WellFormed max_marks c
  second : WellFormed max_marks d
  so : extending max_marks c d ≡ true

extends-known : (c d : Clause) → asks_extends c d ≡ says_truth true → Extends c d
unfolding asks_extends
extends-known c d e =
    let clear : Clear (of_two c d) = judged-answer (of_two c d) (says_truth (extending max_marks c d)) (1 ∷ []) [] e in
    record {
      first = (two-known c d clear).0;
      second = (two-known c d clear).1;
      so = truth-is (extending max_marks c d) true (sym (clear (says_truth (extending max_marks c d))) ∙ e);
    }

-- a well-formed valuation extends itself
pub extends_itself : (c : Clause) → WellFormed max_marks c → asks_extends c c ≡ says_truth true
unfolding asks_extends
extends_itself c w = two-clear c c w w (says_truth (extending max_marks c c)) ∙ ap says_truth (extending_self max_marks c)

-- what extends something extends all that it extends
pub extends_through : (c d e : Clause) → asks_extends c d ≡ says_truth true → asks_extends d e ≡ says_truth true → asks_extends c e ≡ says_truth true
unfolding asks_extends
extends_through c d e p q =
    let x : Extends c d = extends-known c d p in
    let y : Extends d e = extends-known d e q in
    two-clear c e x.first y.second (says_truth (extending max_marks c e)) ∙ ap says_truth (extending-both max_marks c d e x.so y.so)

-- two that extend each other are one
pub extends-both-ways : (c d : Clause) → asks_extends c d ≡ says_truth true → asks_extends d c ≡ says_truth true → c ≡ d
extends-both-ways c d p q =
    let x : Extends c d = extends-known c d p in
    extending_antisym max_marks c d x.first x.second x.so (extends-known d c q).so

-- what the second holds, the first holds
pub extends-holds : (c d : Clause) (m : ℕ) (b : Bool) → asks_extends c d ≡ says_truth true → gets_value d m ≡ says_cell (some b) → gets_value c m ≡ says_cell (some b)
unfolding gets_value
extends-holds c d m b p q =
    let x : Extends c d = extends-known c d p in
    let k : Known d m = known d m (found-clear d m (some b) q) in
    mark-clear c m k.below x.first (says_cell (cell c m))
    ∙ ap says_cell (extending-cells max_marks c d x.so m b k.below (found-cell d m (some b) q))

same_self : (c : Clause) → same_words c c ≡ true
unfolding same_words
same_self c = rw (eq-eqb c.fixed c.fixed refl, eq-eqb c.values c.values refl)

same-is : (c d : Clause) → same_words c d ≡ true → c ≡ d
unfolding same_words
same-is c d e = λ i. record { fixed = p i; values = q i }
  where
    p : c.fixed ≡ d.fixed
    p = eqb-true c.fixed d.fixed (and_true (eqb c.fixed d.fixed) (eqb c.values d.values) e).0

    q : c.values ≡ d.values
    q = eqb-true c.values d.values (and_true (eqb c.fixed d.fixed) (eqb c.values d.values) e).1

-- equal words exactly if equal cells at every mark
pub equal_cells : (c d : Clause) → WellFormed max_marks c → WellFormed max_marks d → (asks_equal c d ≡ says_truth true) ↔ ((m : ℕ) → gets_value c m ≡ gets_value d m)
unfolding asks_equal gets_value
equal_cells c d w v = (forth, back)
  where
    forth : judged (of_two c d) (says_truth (same_words c d)) ≡ says_truth true → (m : ℕ) → judged (of_mark c m) (says_cell (cell c m)) ≡ judged (of_mark d m) (says_cell (cell d m))
    forth e m = ap (λ x. judged (of_mark x m) (says_cell (cell x m))) (same-is c d (truth-is (same_words c d) true (sym (two-clear c d w v (says_truth (same_words c d))) ∙ e)))

    back : ((m : ℕ) → judged (of_mark c m) (says_cell (cell c m)) ≡ judged (of_mark d m) (says_cell (cell d m))) → judged (of_two c d) (says_truth (same_words c d)) ≡ says_truth true
    back all =
        let e : c ≡ d = cell_ext max_marks c d w v (λ m h. cell-is (cell c m) (cell d m) (sym (mark-clear c m h w (says_cell (cell c m))) ∙ all m ∙ mark-clear d m h v (says_cell (cell d m)))) in
        two-clear c d w v (says_truth (same_words c d)) ∙ ap says_truth (ap (λ x. same_words x d) e ∙ same_self d)
