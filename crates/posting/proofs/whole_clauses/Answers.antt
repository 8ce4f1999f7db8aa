use mathlib.Core.Path.{refl}
use Prim.Native.Nat.{◌*◌, ◌/◌}
use native.Mathlib.Omega.{arith}
use lib.ListN.{length, length-take}
use Rattle.posting.specs.Posting.{whole_clauses}
use Rattle.posting.proofs.whole_clauses.Goals as goal

pub slice_bounds-result-end : goal.slice_bounds-result-end
slice_bounds-result-end c = omega (arith, length-take (2 * (length c.args.clauses.now / 2)) c.args.clauses.now)

pub returns : goal.returns
unfolding whole_clauses
returns c = record {
  result_value = refl;
  ref_ptr_value = refl;
}
