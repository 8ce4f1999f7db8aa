-- Zeroing a buffer from a place on: what is kept, then zeros.
use Rattle.std.specs.Prelude.{◌≡◌, List, [], ◌∷◌, ◌++◌, ℕ, ◌-◌, ◌≤◌, length, take, replicate}
use native.Mathlib.Omega.{arith}
use borrow.Rule.Slice.PartMut.{put_mid}
use lib.Seq.{length-take-le}
use Rattle.std.proofs.Common.{rules, ap, ◌∙◌}
use Rattle.std.proofs.lemmas.Grind.{common_steps}
use lib.ListN.{set}
use Rattle.refusal.specs.Buffers.{padded}

pub length-padded : (w : List ℕ) (k : ℕ) → length w ≤ k → length (padded w k) ≡ k
unfolding padded
length-padded w k h = grind (arith, rules, common_steps)

-- zeros in the part from a place on
pub zeroed : (start : ℕ) (w zeros : List ℕ) → start ≤ length w → zeros ≡ replicate (length w - start) 0 → put_mid start (length w - start) w zeros ≡ padded (take start w) (length w)
unfolding padded
zeroed start w zeros h e = grind (rules, common_steps, e, length-take-le start w h)

-- a first word, and the others behind it
pub padded_first : (a b : List ℕ) (x : ℕ) (ws : List ℕ) (k : ℕ) → length a ≡ 1 → b ≡ padded ws (k - 1) → 1 ≤ k → set a 0 x ++ b ≡ padded (x ∷ ws) k
unfolding padded
padded_first [] b x ws k l e h = absurd (omega (arith, l))
padded_first (y ∷ []) b x ws k l e h =
    let n : k - 1 - length ws ≡ k - length (x ∷ ws) = omega arith in
    ap (λ r. x ∷ r) (e ∙ ap (λ m. ws ++ replicate m 0) n)
padded_first (y ∷ z ∷ ys) b x ws k l e h = absurd (omega (arith, l))

-- zeros in all of a buffer
pub whole_zeroed : (w zeros : List ℕ) → zeros ≡ replicate (length w) 0 → zeros ≡ padded (take 0 w) (length w)
unfolding padded
whole_zeroed w zeros e = grind (rules, common_steps, e)
