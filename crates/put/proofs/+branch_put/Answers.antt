use Rattle.std.proofs.Common.{arith}
use Rattle.put.proofs.PutLaws.{ready_lo, full_lo, ready_hi, full_hi, settling, finish, sided, sided_full}
use Rattle.put.proofs.+branch_put.Goals as goal

pub branch-put-requires : goal.branch-put-requires
branch-put-requires t c =
    let ready = ready_lo _ _ _ _ _ _ c.requires.ready _ c.requires.parted in
    (omega (arith, c.decreases, c.requires.parted.below), ready)

pub branch-returns-in_err-low : goal.branch-returns-in_err-low
branch-returns-in_err-low t c = rw c.from_residual.ensures (full_lo _ _ _ _ _ _ c.requires.ready _ c.requires.parted (sided_full _ c.args.job _ _ _ _ _ c.keeps.ensures c.in_err-low.ensures))

pub branch-put-requires-2 : goal.branch-put-requires-2
branch-put-requires-2 t c =
    let low = sided _ _ _ _ _ _ _ _ _ _ c.keeps.ensures c.in_ok-low.ensures in
    (omega (arith, c.decreases, c.requires.parted.below), ready_hi _ _ _ _ _ _ c.requires.ready _ c.requires.parted _ _ _ c.put.auto.work low)

pub branch-returns-in_err-high : goal.branch-returns-in_err-high
branch-returns-in_err-high t c =
    let low = sided _ _ _ _ _ _ _ _ _ _ c.keeps.ensures c.in_ok-low.ensures in
    rw c.from_residual-in_err-high.ensures
    (full_hi _ _ _ _ _ _ c.requires.ready _ c.requires.parted _ _ _ c.put.auto.work low (sided_full _ c.args.job _ _ _ _ _ c.keeps-2.ensures c.in_err-high.ensures))

pub branch-settle-requires : goal.branch-settle-requires
branch-settle-requires t c =
    let low = sided _ _ _ _ _ _ _ _ _ _ c.keeps.ensures c.in_ok-low.ensures in
    let high = sided _ _ _ _ _ _ _ _ _ _ c.keeps-2.ensures c.in_ok-high.ensures in
    settling _ _ _ _ _ _ c.requires.ready _ c.requires.parted _ _ _ c.put.auto.work low _ _ _ c.put-2.auto.work high

pub branch-returns : goal.branch-returns
branch-returns t c =
    let low = sided _ _ _ _ _ _ _ _ _ _ c.keeps.ensures c.in_ok-low.ensures in
    let high = sided _ _ _ _ _ _ _ _ _ _ c.keeps-2.ensures c.in_ok-high.ensures in
    finish _ _ _ _ _ _ c.requires.ready _ c.requires.parted _ _ _ c.put.auto.work low _ _ _ c.put-2.auto.work high c.settle.new.work c.settle.result c.settle.ensures
