-- Different answers of inspection have different replies.
use mathlib.Core.Path.{◌≡◌, sym, ap}
use Rattle.refusal.proofs.Single.{OneToOne, no-values, one_value, refusal-single}
use Rattle.table.specs.declared.Inspection.TheVariants.{Sound, Refused}
use Rattle.table.specs.Inspection.{inspection_reply}

pub inspection_one : OneToOne inspection_reply
unfolding inspection_reply
inspection_one (Sound p) (Sound q) e = ap Sound (pointer-eq (one_value p.0 q.0 e))
  where
    pointer-eq : p.0 ≡ q.0 → p ≡ q
    pointer-eq h = λ i. record { 0 = h i }
inspection_one (Sound p) (Refused s) e = no-values s _ _ (sym e)
inspection_one (Refused r) (Sound q) e = no-values r _ _ e
inspection_one (Refused r) (Refused s) e = ap Refused (refusal-single r s e)
