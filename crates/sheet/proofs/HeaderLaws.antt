-- The header's tests, one after another, and what passing them says.
use mathlib.Core.Path.{◌≡◌, refl, sym, ap, ◌∙◌}
use mathlib.Core.Bool.{Bool, true, false, not, ◌||◌}
use mathlib.Core.List.{List}
use Prim.Native.Nat.{ℕ, ◌+◌, ◌*◌, ◌<◌, ◌≤◌}
use lib.Dec.{eqb, ltb}
use lib.ListN.{length}
use borrow.Author.Tests.{eq-eqb, ne_eqb, eqb-true, lt-ltb, le-ltb, ltb-false}
use Rattle.table.proofs.InspectLaws.{or_false}
use Rattle.sheet.specs.declared.Header.{Header}
use Rattle.sheet.specs.Layout.{Whole, Placed}
use Rattle.sheet.specs.Sheet.{header_bytes, decode_header, headless, misplaced}

-- a test that is not met names the equation
not_eqb : (a b : ℕ) → false ≡ not (eqb a b) → a ≡ b
not_eqb a b e = eqb-true a b (flip (eqb a b) e)
  where
    flip : (t : Bool) → false ≡ not t → t ≡ true
    flip true e = refl
    flip false e = e

module _ (each count offset other other_offset total : ℕ) where
  pub offset_wrong : (offset ≡ 32 → ⊥) → true ≡ misplaced each count offset other other_offset total
  unfolding misplaced
  offset_wrong h = rw (ne_eqb offset 32 h)

  module _ (starts : offset ≡ 32) where
    pub other_wrong : (other ≡ 0 → ⊥) → true ≡ misplaced each count offset other other_offset total
    unfolding misplaced
    other_wrong h = rw (eq-eqb offset 32 starts, ne_eqb other 0 h)

    module _ (none : other ≡ 0) where
      pub other_offset_wrong : (other_offset ≡ 0 → ⊥) → true ≡ misplaced each count offset other other_offset total
      unfolding misplaced
      other_offset_wrong h = rw (eq-eqb offset 32 starts, eq-eqb other 0 none, ne_eqb other_offset 0 h)

      pub total-decides : other_offset ≡ 0 → not (eqb total (32 + each * count)) ≡ misplaced each count offset other other_offset total
      unfolding misplaced
      total-decides h = rw (eq-eqb offset 32 starts, eq-eqb other 0 none, eq-eqb other_offset 0 h)

  -- a section in its place, and the other way round
  pub placed : false ≡ misplaced each count offset other other_offset total → Placed each count offset other other_offset total
  unfolding misplaced
  placed e =
      let a = or_false (not (eqb offset header_bytes) || not (eqb other 0) || not (eqb other_offset 0)) (not (eqb total (header_bytes + each * count))) e in
      let b = or_false (not (eqb offset header_bytes) || not (eqb other 0)) (not (eqb other_offset 0)) a.0 in
      let d = or_false (not (eqb offset header_bytes)) (not (eqb other 0)) b.0 in
      record { offset_is = not_eqb _ _ d.0; other-is = not_eqb _ _ d.1; other_offset_is = not_eqb _ _ b.1; total-is = not_eqb _ _ a.1 }

  pub in_place : Placed each count offset other other_offset total → false ≡ misplaced each count offset other other_offset total
  unfolding misplaced
  in_place p =
      rw (eq-eqb offset header_bytes p.offset_is, eq-eqb other 0 p.other-is, eq-eqb other_offset 0 p.other_offset_is, eq-eqb total (header_bytes + each * count) p.total-is)

module _ (bytes : List ℕ) where
  pub too_few : length bytes < 32 → true ≡ headless bytes
  unfolding headless
  too_few h = rw (lt-ltb (length bytes) 32 h)

  module _ (enough : 32 ≤ length bytes) (h : Header) (is : h ≡ decode_header bytes) where
    pub version_wrong : (h.version ≡ 1 → ⊥) → true ≡ headless bytes
    unfolding headless
    version_wrong e = rw (le-ltb (length bytes) 32 enough, ne_eqb (decode_header bytes).version 1 (λ z. e (ap (λ (x : Header). x.version) is ∙ z)))

    pub length-decides : h.version ≡ 1 → not (eqb h.total (length bytes)) ≡ headless bytes
    unfolding headless
    length-decides e = rw (ap (λ (x : Header). x.total) is, le-ltb (length bytes) 32 enough, eq-eqb (decode_header bytes).version 1 (sym (ap (λ (x : Header). x.version) is) ∙ e))

  -- a whole header, and the other way round
  pub whole : false ≡ headless bytes → Whole bytes
  unfolding headless
  whole e =
      let a = or_false (ltb (length bytes) header_bytes || not (eqb (decode_header bytes).version 1)) (not (eqb (decode_header bytes).total (length bytes))) e in
      let b = or_false (ltb (length bytes) header_bytes) (not (eqb (decode_header bytes).version 1)) a.0 in
      record { enough = ltb-false _ _ (sym b.0); version_is = not_eqb _ _ b.1; total-is = not_eqb _ _ a.1 }

  pub has_header : Whole bytes → false ≡ headless bytes
  unfolding headless
  has_header w = rw (le-ltb (length bytes) header_bytes w.enough, eq-eqb (decode_header bytes).version 1 w.version_is, eq-eqb (decode_header bytes).total (length bytes) w.total-is)
