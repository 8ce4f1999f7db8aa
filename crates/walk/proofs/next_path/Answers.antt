use Prim.Native.Nat.{◌-◌}
use native.Mathlib.Omega.{arith}
use Rattle.walk.proofs.PathLaws.{kept-bound}
use Rattle.walk.proofs.Holding.{short, long, reads, next_none, next_ends, next_descends, next_goes}
use Rattle.walk.proofs.next_path.Goals as goal

pub returns-then-s-eq0 : goal.returns-then-s-eq0
returns-then-s-eq0 c = next_none _ _ c.requires c.if-s-eq0.true

pub cut-start-requires : goal.cut-start-requires
cut-start-requires c = (omega (arith, c.kept_of-keep.ensures, kept-bound c.args.bdd.now c.args.s.now.path (c.args.s.now.len - 1), short _ _ c.requires), long _ _ c.requires)

pub returns-then-keep-eq0 : goal.returns-then-keep-eq0
returns-then-keep-eq0 c = next_ends _ _ c.requires c.if-s-eq0.false _ c.kept_of-keep.ensures _ c.cut-start.ensures c.if-keep-eq0.true

pub bounds-s-keep : goal.bounds-s-keep
bounds-s-keep c = omega (arith, c.kept_of-keep.ensures, kept-bound c.args.bdd.now c.args.s.now.path (c.args.s.now.len - 1), short _ _ c.requires, c.if-keep-eq0.false)

pub high_link_of-requires : goal.high_link_of-requires
high_link_of-requires c = reads _ _ c.requires _ (omega (arith, c.kept_of-keep.ensures, kept-bound c.args.bdd.now c.args.s.now.path (c.args.s.now.len - 1), c.if-s-eq0.false, c.if-keep-eq0.false))

pub descend-requires : goal.descend-requires
descend-requires c = next_descends _ _ c.requires c.if-s-eq0.false _ c.kept_of-keep.ensures _ c.cut-start.ensures c.if-keep-eq0.false _ c.high_link_of.ensures

pub returns : goal.returns
returns c = next_goes _ _ c.requires c.if-s-eq0.false _ c.kept_of-keep.ensures _ c.cut-start.ensures c.if-keep-eq0.false _ c.high_link_of.ensures _ c.descend.ensures
