use Rattle.std.proofs.Common.{◌≤◌, ◌<◌, ◌^◌, ap, sym, not, arith, ◌∙◌, ne_eqb}
use native.Mathlib.Decide.{dec_lt}
use native.Mathlib.Nat.{div-eq_of_lt, div-lt_iff_lt-mul}
use lib.Pow.{pow_pos}
use Rattle.theory.proofs.Clauses.{malformed-high, malformed-low}
use Rattle.valuation.proofs.is_malformed.Goals as goal

pub returns-then-v-n-ne0 : goal.returns-then-v-n-ne0
returns-then-v-n-ne0 c =
    let high : 2 ^ c.args.n ≤ c.args.v.fixed = elim (dec_lt c.args.v.fixed (2 ^ c.args.n)) [
      | yes h ↦ absurd (c.if-v-n-ne0.true (div-eq_of_lt h))
      | no h ↦ omega arith
    ] in
    ap not (ne_eqb _ 0 c.if-v-n-ne0.true) ∙ sym (malformed-high c.args.n _ _ high)

pub returns-else-v-n-ne0 : goal.returns-else-v-n-ne0
returns-else-v-n-ne0 c =
    let low : c.args.v.fixed < 2 ^ c.args.n = omega (arith, (div-lt_iff_lt-mul {k = 2 ^ c.args.n} {x = c.args.v.fixed} {y = 1} (pow_pos c.args.n)).0 (omega (arith, c.if-v-n-ne0.false))) in
    sym (malformed-low c.args.n _ _ low)
