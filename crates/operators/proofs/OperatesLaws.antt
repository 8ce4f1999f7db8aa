-- What an operator's verdict says in plain words: its answer is right and smallest, and NODES is given exactly when no table within room says it.
use mathlib.Core.Path.{◌≡◌, refl, sym, ap, subst, ◌∙◌}
use mathlib.Core.Logic.{inl, inr}
use mathlib.Core.Bool.{Bool, true, false, cond}
use mathlib.Core.List.{List, [], ◌∷◌, append-nil}
use Prim.Native.Nat.{ℕ, ◌^◌, ◌<◌, ◌≤◌}
use native.Mathlib.Omega.{arith}
use lib.Dec.{ltb}
use lib.ListN.{length}
use borrow.Author.Tests.{lt-ltb, ltb-true, ltb-false}
use Rattle.theory.specs.Tree.{Tree, Deep, look}
use Rattle.theory.specs.Table.{Table, canon, meaning, Ordered, Reduced}
use Rattle.theory.specs.Words.{nodes, words_of}
use Rattle.theory.proofs.Words.{nodes-words}
use Rattle.theory.proofs.Cases.{look_ext}
use Rattle.theory.proofs.Canon.{canon-means, canon-ordered}
use Rattle.theory.proofs.Small.{small, meaning-deep}
use Rattle.theory.proofs.Reducing.{canon-reduced}
use Rattle.refusal.specs.Number.{NODES, order}
use Rattle.refusal.specs.Buffers.{zeroing}
use Rattle.refusal.specs.Verdict.{Verdict, refused, answered, Finding, first_of, tried, judged}
use Rattle.refusal.proofs.Judged.{Clean, Quiet, judged-either, refused_quiet, not-answered}
use Rattle.table.specs.Case.{table_says}
use Rattle.making.specs.Made.{table_answer, makes, operates}

-- the table says so of every case
abbrev pub Says : ℕ → Table → (ℕ → Bool) → Type 0
Says n t says = (case : ℕ) → case < 2 ^ n → look (meaning n t) case ≡ says case

-- the specification's demands on an operator with these findings, this room and this answer to each case
pub record Operated (fs : List Finding) (v : Verdict) (n room : ℕ) (says : ℕ → Bool) : Type 0 where
  -- the result says it
  pub right : (k : ℕ) (words : List ℕ) → v ≡ answered (k ∷ []) (words ∷ []) → (case : ℕ) → case < 2 ^ n → table_says n k words case ≡ says case
  -- the result is reduced, and within room
  pub reduced : (k : ℕ) (words : List ℕ) → v ≡ answered (k ∷ []) (words ∷ []) → Reduced n (nodes k words)
  pub within : (k : ℕ) (words : List ℕ) → v ≡ answered (k ∷ []) (words ∷ []) → k ≤ room
  -- no ordered table that says it has fewer nodes
  pub smallest : (k : ℕ) (words : List ℕ) → v ≡ answered (k ∷ []) (words ∷ []) → (t : Table) → Ordered n t → Says n t says → k ≤ length t
  -- NODES, with place 0, only when no ordered table within room says it
  pub nodes-only : (place : ℕ) → v ≡ refused NODES place → (place ≡ 0) × ((t : Table) → Ordered n t → Says n t says → room < length t)
  -- and always then, where nothing else is wrong
  pub nodes_when : Clean (judged fs) → ((t : Table) → Ordered n t → Says n t says → room < length t) → v ≡ refused NODES 0

module _ (fs : List Finding) (n room : ℕ) (g : Tree) (deep : Deep n g) (says : ℕ → Bool) (means : (case : ℕ) → case < 2 ^ n → look g case ≡ says case) where
  abbrev t : Table
  t = canon n g

  abbrev v : Verdict
  v = operates fs n room g

  clean_verdict : Clean (judged fs) → v ≡ cond (ltb room (length t)) (refused NODES 0) (table_answer t)
  unfolding makes judged tried order first_of
  clean_verdict clean = clean _

  same : (u : Table) → Says n u says → meaning n u ≡ g
  same u s = look_ext n (meaning n u) g (meaning-deep n u) deep (λ case h. s case h ∙ sym (means case h))

  least : (u : Table) → Ordered n u → Says n u says → length t ≤ length u
  least u o s = subst (λ z. length (canon n z) ≤ length u) (same u s) (small n u o)

  itself : Says n t says
  itself case h = ap (λ z. look z case) (canon-means n g deep) ∙ means case h

  -- an answer is the canonical table, which fits
  pub record Made-so (k : ℕ) (words : List ℕ) : Type 0 where
    pub count : k ≡ length t
    pub table : nodes k words ≡ t
    pub fits : length t ≤ room

  answers : (k : ℕ) (words : List ℕ) → (b : Bool) → ltb room (length t) ≡ b → cond b (refused NODES 0) (table_answer t) ≡ answered (k ∷ []) (words ∷ []) → Made-so k words
  unfolding table_answer
  answers k words true h e = absurd (not-answered NODES 0 _ _ e)
  answers k words false h e =
      let ek : length t ≡ k = cc in
      let ew : words_of t ≡ words = cc in
      record {
        count = sym ek;
        table = ap (λ z. nodes z words) (sym ek) ∙ ap (nodes (length t)) (sym ew ∙ sym (append-nil (words_of t))) ∙ nodes-words t [];
        fits = ltb-false _ _ h;
      }

  made : (k : ℕ) (words : List ℕ) → v ≡ answered (k ∷ []) (words ∷ []) → Made-so k words
  unfolding makes
  made k words e = elim (judged-either fs) [
    | inl clean ↦ answers k words (ltb room (length t)) refl (sym (clean_verdict clean) ∙ e)
    | inr c ↦ absurd (not-answered c.number c.place _ _ (sym (c.always _) ∙ e))
  ]

  over : (p : ℕ) → (b : Bool) → ltb room (length t) ≡ b → cond b (refused NODES 0) (table_answer t) ≡ refused NODES p → (p ≡ 0) × (room < length t)
  unfolding table_answer
  over p true h e = (cc, ltb-true _ _ h)
  over p false h e = absurd (not-answered NODES p _ _ (sym e))

  refused-nodes : Quiet fs → (p : ℕ) → v ≡ refused NODES p → (p ≡ 0) × (room < length t)
  unfolding makes zeroing
  refused-nodes quiet p e = elim (judged-either fs) [
    | inl clean ↦ over p (ltb room (length t)) refl (sym (clean_verdict clean) ∙ e)
    | inr c ↦ absurd (no-nodes c.number c.place (sym (c.always _) ∙ e) (c.always (answered [] [])))
  ]
    where
      no-nodes : (k q : ℕ) → refused k q ≡ refused NODES p → judged fs (answered [] []) ≡ refused k q → ⊥
      no-nodes k q same h =
          let is : k ≡ NODES = cc in
          let quietly : zeroing NODES ≡ false = subst (λ z. zeroing z ≡ false) is (refused_quiet [] [] k q fs quiet h) in
          let z : ◌≡◌ {A = ℕ} 1 0 = ap (λ b. cond b 1 0) quietly in omega arith

  pub operated : Quiet fs → Operated fs v n room says
  operated quiet = record {
    right = λ k words e case h. ap (λ z. look (meaning n z) case) (made k words e).table ∙ itself case h;
    reduced = λ k words e. subst (Reduced n) (sym (made k words e).table) (canon-reduced n g deep);
    within = λ k words e. omega (arith, (made k words e).count, (made k words e).fits);
    smallest = λ k words e u o s. omega (arith, (made k words e).count, least u o s);
    nodes-only = λ place e. ((refused-nodes quiet place e).0, λ u o s. omega (arith, (refused-nodes quiet place e).1, least u o s));
    nodes_when = λ clean none.
        clean_verdict clean ∙ ap (λ b. cond b (refused NODES 0) (table_answer t)) (lt-ltb _ _ (none t (canon-ordered n g deep) itself));
  }
