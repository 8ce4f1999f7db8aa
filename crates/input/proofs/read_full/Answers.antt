use Rattle.std.proofs.Common.{◌≡◌, ◌≤◌, ℕ, ◌+◌, List, ◌++◌, rules, length, take, drop, sym, ap, ◌∙◌, subst, le_refl, drop_at, length-take-le}
use Rattle.std.proofs.lemmas.Slice.{take-put_mid_below}
use Rattle.std.specs.Io.KnownBytes.{Consumes}
use Rattle.std.proofs.KnownBytes.{Consumes-trans, Consumes-kept}
use borrow.Rule.Slice.PartMut.{put_mid, post_of}
use lib.Seq.{take-add, take-append-le}
use Rattle.input.proofs.read_full.Goals as goal
use Rattle.input.proofs.read_full.Goals.{in-Ok, in-Err+else-ne}

-- what was read behind the front makes the front longer
front_longer : (a n k : ℕ) (xs ys : List ℕ) → a ≤ length xs → n ≤ length ys → take (a + n) (put_mid a k xs ys) ≡ take a xs ++ take n ys
front_longer a n k xs ys within fits =
    take-add a n (put_mid a k xs ys) ∙ ap (λ l. l ++ take n (drop a (put_mid a k xs ys))) (take-put_mid_below _ _ _ _ _ (le_refl _) within)
    ∙ ap (λ l. take a xs ++ l) (ap (take n) (drop_at (take a xs) (ys ++ post_of a k xs) a (length-take-le a xs within)) ∙ take-append-le n ys (post_of a k xs) fits)

pub loop-preserved : goal.loop-preserved
loop-preserved g c =
    let within = c.loop.invariant.0 in
    let before = c.loop.invariant.1 in
    elim c.match-read.branch [
      | in-Ok w ↦ rw w.filled-is (search rules, subst (Consumes _ _) (sym (front_longer _ _ _ _ _ within w.in-Ok.ensures.bound.0)) (Consumes-trans _ _ _ _ _ before w.in-Ok.ensures.bytes.0))
      | in-Err+else-ne w ↦ rw w.filled-is (search rules, subst (Consumes _ _) (sym (take-put_mid_below _ _ _ _ _ (le_refl _) within)) (Consumes-kept _ _ _ _ before w.in-Err.ensures.bytes))
    ]
