-- Clauses read back from their words.
use mathlib.Core.Path.{◌≡◌, refl, sym, ap, ap₂, ◌∙◌}
use mathlib.Core.List.{List, [], ◌∷◌, ◌++◌, append-nil}
use Prim.Native.Nat.{ℕ, zero, suc, ◌+◌, ◌*◌}
use native.Mathlib.Omega.{arith}
use lib.ListN.{length, get_or}
use Rattle.theory.specs.Clause.{Clause, clause}
use Rattle.refusal.specs.Verdict.{Finding, answered, judged}
use Rattle.refusal.proofs.Judged.{judged-answer}
use Rattle.cube.specs.Cube.{clause_at, opening}
use Rattle.listing.specs.Listed.{clause_words, list_answer, lists}

-- a run's first entry apart
opening-front : (entry : ℕ → Clause) (k : ℕ) → opening entry (suc k) ≡ entry 0 ∷ opening (λ i. entry (suc i)) k
unfolding opening
opening-front entry zero = refl
opening-front entry (suc k) = ap (λ r. r ++ (entry (suc k) ∷ [])) (opening-front entry k)

opening-same : (f g : ℕ → Clause) (k : ℕ) → ((i : ℕ) → f i ≡ g i) → opening f k ≡ opening g k
unfolding opening
opening-same f g zero e = refl
opening-same f g (suc k) e = ap₂ (λ r x. r ++ (x ∷ [])) (opening-same f g k e) (e k)

-- two words further on
next-clause : (f v : ℕ) (ws : List ℕ) (i : ℕ) → clause_at (f ∷ v ∷ ws) (suc i) ≡ clause_at ws i
next-clause f v ws i =
    let a : 2 * suc i ≡ suc (suc (2 * i)) = omega arith in
    let b : 2 * suc i + 1 ≡ suc (suc (2 * i + 1)) = omega arith in
    ap₂ (λ x y. clause (get_or (f ∷ v ∷ ws) x 0) (get_or (f ∷ v ∷ ws) y 0)) a b

-- whatever stands behind the words of a list, its clauses are read from them
pub clauses_in : (xs : List Clause) (rest : List ℕ) → opening (clause_at (clause_words xs ++ rest)) (length xs) ≡ xs
unfolding clause_words
clauses_in [] rest = unfold opening in refl
clauses_in (x ∷ xs) rest =
    opening-front (clause_at (x.fixed ∷ x.values ∷ (clause_words xs ++ rest))) (length xs)
    ∙ ap (λ r. x ∷ r) (opening-same _ (clause_at (clause_words xs ++ rest)) (length xs) (next-clause x.fixed x.values (clause_words xs ++ rest)) ∙ clauses_in xs rest)

-- where a list is the answer, the clauses read from its words are the list's
pub answered-clauses : (fs overs : List Finding) (xs : List Clause) (k : ℕ) (result : List ℕ) → lists fs overs xs ≡ answered (k ∷ []) (result ∷ []) → opening (clause_at result) k ≡ xs
unfolding lists list_answer
answered-clauses fs overs xs k result e =
    let passed : judged overs (list_answer xs) ≡ answered (k ∷ []) (result ∷ []) = sym (judged-answer fs _ _ _ e _) ∙ e in
    let a : answered (length xs ∷ []) (clause_words xs ∷ []) ≡ answered (k ∷ []) (result ∷ []) = sym (judged-answer overs _ _ _ passed _) ∙ passed in
    let number : length xs ≡ k = cc in
    let words : clause_words xs ≡ result = cc in
    ap₂ (λ m ws. opening (clause_at ws) m) (sym number) (sym words ∙ sym (append-nil (clause_words xs))) ∙ clauses_in xs []
