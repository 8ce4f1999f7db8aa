-- The marks of a mask, one by one.
use Rattle.std.specs.Prelude.{List, ℕ}
use Rattle.theory.specs.Clause.{marks_of}
use Rattle.valuation.specs.declared.BddVariable.{BddVariable}
use Rattle.valuation.specs.declared.Marks.{Marks}

-- the bits of a mask
abbrev pub mask_bits : ℕ
mask_bits = 64

abbrev pub mark_number : BddVariable → ℕ
mark_number m = m.0

-- the marks that are left, rising
abbrev pub marks_left : Marks → List ℕ
marks_left s = marks_of mask_bits s.rest
