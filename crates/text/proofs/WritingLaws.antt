-- Texts written one behind the other.
use Rattle.std.proofs.Common.{◌≡◌, refl, sym, ap, ◌∙◌, List, [], ◌++◌, ℕ, ◌-◌, ◌≤◌, length, take, arith}
use mathlib.Core.List.{append-nil, append_assoc}
use borrow.Rule.Slice.PartMut.{put_mid}
use lib.ListN.{length-append, replicate}
use Rattle.refusal.specs.Buffers.{padded}
use Rattle.refusal.proofs.Zeroing.{zeroed}
use Rattle.text.specs.declared.Text.{Text}
use Rattle.text.specs.Writing.{Appends, Prints}

-- nothing is written
pub appends_none : (t : Text) → Appends [] t t
appends_none t = record { end = omega arith; front = sym (append-nil (take t.len t.out.now)); long = refl; same = refl }

-- one text behind another
pub appends_then : (a b : List ℕ) (t u v : Text) → Appends a t u → Appends b u v → Appends (a ++ b) t v
appends_then a b t u v x y = record {
  end = omega (arith, length-append a b, x.end, y.end);
  front = y.front ∙ ap (λ (w : List ℕ). w ++ b) x.front ∙ append_assoc (take t.len t.out.now) a b;
  long = y.long ∙ x.long;
  same = y.same ∙ x.same;
}

-- all that was written, with zeros in the rest of the buffer
pub prints : (text out w zeros : List ℕ) (t t' : Text) → t.len ≡ 0 → t.out.now ≡ out → t'.len ≤ length out → Appends text t t' → w ≡ t'.out.now → zeros ≡ replicate (length w - t'.len) 0
    → Prints text out (put_mid t'.len (length w - t'.len) w zeros) t'.len
prints text out w zeros t t' z o h x same none =
    let front : take t'.len w ≡ text = ap (take t'.len) same ∙ x.front ∙ ap (λ (k : ℕ). take k t.out.now ++ text) z in
    let long : length w ≡ length out = ap length same ∙ x.long ∙ ap length o in
    let within : t'.len ≤ length w = omega (arith, h, long) in
    record {
      size = omega (arith, z, x.end);
      fits = h;
      all = zeroed t'.len w zeros within none ∙ ap (λ (v : List ℕ). padded v (length w)) front ∙ ap (padded text) long;
    }
