use native.Mathlib.Omega.{arith}
use Rattle.build.proofs.AddLaws.{carrying, compact_full, m_two, compact-done}
use Rattle.build.proofs.compact.Goals as goal

pub carry-requires : goal.carry-requires
carry-requires c = carrying _ _ _ _ _ c.requires c.put_constants.new.out c.put_constants.ensures.out_after c.put_constants.auto.out

pub returns-in_err-r : goal.returns-in_err-r
returns-in_err-r c = rw c.from_residual.ensures (compact_full _ _ _ _ _ c.requires c.put_constants.new.out c.put_constants.ensures.out_after c.put_constants.auto.out c.in_err-r.ensures)

pub index_nodes-requires : goal.index_nodes-requires
index_nodes-requires c = let u = c.in_ok-r.ensures in
    (omega (arith, c.requires.long, c.copy_nodes.auto.work, c.carry.auto.work), m_two _ _ _ _ _ c.requires c.put_constants.new.out c.put_constants.ensures.out_after c.put_constants.auto.out _ _ _ _ u, omega (arith, u.holds.fits, c.requires.cap))

pub returns : goal.returns
returns c = compact-done _ _ _ _ _ c.requires c.put_constants.new.out c.put_constants.ensures.out_after c.put_constants.auto.out _ _ c.in_ok-r.r.0 c.in_ok-r.made
    c.in_ok-r.ensures
    _ _ c.copy_nodes.ensures c.index_nodes.ensures
