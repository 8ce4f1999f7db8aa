-- `push_clause`: full already, just full, or place for the clause.
use native.Mathlib.Omega.{arith}
use Prim.Native.Nat.{◌/◌, ◌<◌}
use lib.ListN.{length}
use Rattle.valuation.specs.Valuation.{clause_of}
use Rattle.solving.proofs.PushLaws.{push_more}
use Rattle.solving.proofs.push_clause.Goals as goal

pub returns-clause-pushes : goal.returns-clause-pushes
returns-clause-pushes c = push_more c.args.out.now c.args.k (clause_of c.args.y) (let z : c.args.k < length c.args.out.now / 2 = omega (arith, c.if-k-most.false, c.if-k-most-2.false) in z)
