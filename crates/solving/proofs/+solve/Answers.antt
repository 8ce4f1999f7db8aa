use Rattle.std.proofs.Common.{rules, arith, suc, ◌*◌, refl, ◌∙◌}
use Rattle.theory.specs.Words.{stride}
use Rattle.valuation.specs.Valuation.{clause_of}
use Rattle.held.proofs.HeldLaws.{tree-deep, tab-of, tab-means, canonical_of}
use Rattle.solving.proofs.SolveLaws.{frames_some, frames_deeper, when_false, when_true, inside, need_some, falls, mark_less, over_divide, none_done, part_done, part_over, fine, listed, side_tree, side_literals, never}
use Rattle.solving.proofs.+solve.Goals as goal

pub returns-then-function-eq1 : goal.returns-then-function-eq1
returns-then-function-eq1 t c = when_false _ _ _ _ _ (tab-of _ _ _ _ c.args.function.canonical) (clause_of c.args.y) _ _ _ c.requires.few c.requires.remembers c.if-function-eq1.true

pub returns-then-function-eq2 : goal.returns-then-function-eq2
returns-then-function-eq2 t c = when_true _ _ _ _ _ (tab-of _ _ _ _ c.args.function.canonical) (clause_of c.args.y) _ _ _ c.requires.few c.requires.remembers c.if-function-eq2.true _ _ c.push_clause.ensures.few c.push_clause.ensures.pushes

pub split_at_mut-frame-requires : goal.split_at_mut-frame-requires
split_at_mut-frame-requires t c =
    let i = inside _ _ _ _ c.args.function.canonical c.if-function-eq1.false c.if-function-eq2.false in
    frames_some (3 * (stride * c.args.function.room)) _ _ (need_some _ _ (tree-deep _ _ _ _ c.args.function.canonical) i) c.requires.deep

pub divide-requires-clause-inner : goal.divide-requires-clause-inner
divide-requires-clause-inner t c = inside _ _ _ _ c.args.function.canonical c.if-function-eq1.false c.if-function-eq2.false

pub returns-in_err-parts : goal.returns-in_err-parts
returns-in_err-parts t c =
    let i = inside _ _ _ _ c.args.function.canonical c.if-function-eq1.false c.if-function-eq2.false in
    over_divide _ _ _ (tree-deep _ _ _ _ c.args.function.canonical) i (clause_of c.args.y) _ _ c.in_err-parts.ensures _ _ _ (search rules)

pub invariant_of-core : goal.invariant_of-core
invariant_of-core t c = record { canonical = canonical_of _ _ _ _ _ c.in_ok-parts.ensures.0 c.args.function.canonical.marks c.args.function.canonical.some c.args.function.canonical.few }

pub solve-requires : goal.solve-requires
solve-requires t c =
    let i = inside _ _ _ _ c.args.function.canonical c.if-function-eq1.false c.if-function-eq2.false in
    let less = falls _ _ (tree-deep _ _ _ _ c.args.function.canonical) i 0 _ (tab-means _ _ _ _ _ c.in_ok-parts.ensures.0) in
    (omega (arith, less, c.decreases), (c.requires.few, (frames_deeper (3 * (stride * c.args.function.room)) _ _ _ _ less c.requires.deep (search rules), (c.requires.long, (c.requires.remembers, search rules)))))

pub returns-in_err-done : goal.returns-in_err-done
returns-in_err-done t c =
    let i = inside _ _ _ _ c.args.function.canonical c.if-function-eq1.false c.if-function-eq2.false in
    let d = tree-deep _ _ _ _ c.args.function.canonical in
    part_over _ _ _ d i (clause_of c.args.y) _ _ _ _ 0 _ (none_done _ _ _ d i (clause_of c.args.y) _ _ _ c.requires.few c.requires.remembers) _ (tab-means _ _ _ _ _ c.in_ok-parts.ensures.0) (clause_of c.args.y) refl
    (omega arith) c.in_ok-parts.ensures.3 c.in_err-done.ensures _ _ _ (search rules)

pub loop-value-init : goal.loop-value-init
loop-value-init t c =
    let i = inside _ _ _ _ c.args.function.canonical c.if-function-eq1.false c.if-function-eq2.false in
    let d = tree-deep _ _ _ _ c.args.function.canonical in
    part_done _ _ _ d i (clause_of c.args.y) _ _ _ _ 0 _ (none_done _ _ _ d i (clause_of c.args.y) _ _ _ c.requires.few c.requires.remembers) _ (tab-means _ _ _ _ _ c.in_ok-parts.ensures.0) (clause_of c.args.y) refl
    _ _ _ c.in_ok-done.ensures _ refl

pub invariant_of-rest : goal.invariant_of-rest
invariant_of-rest t c = record { canonical = canonical_of _ _ _ _ _ c.in_ok-parts.ensures.1 c.args.function.canonical.marks c.args.function.canonical.some c.args.function.canonical.few }

pub returns-in_err-count : goal.returns-in_err-count
returns-in_err-count t c =
    let i = inside _ _ _ _ c.args.function.canonical c.if-function-eq1.false c.if-function-eq2.false in
    absurd (never _ _ _ _ _ c.in_ok-parts.ensures.1 _ _ (mark_less _ _ (tree-deep _ _ _ _ c.args.function.canonical) i _ c.in_ok-parts.ensures.2) c.in_err-count.ensures)

pub with_bit-literals-requires : goal.with_bit-literals-requires
with_bit-literals-requires t c =
    let i = inside _ _ _ _ c.args.function.canonical c.if-function-eq1.false c.if-function-eq2.false in
    omega (arith, mark_less _ _ (tree-deep _ _ _ _ c.args.function.canonical) i _ c.in_ok-parts.ensures.2, c.args.function.canonical.marks)

pub invariant_of-side : goal.invariant_of-side
invariant_of-side t c = record { canonical = canonical_of _ _ _ _ _ c.in_ok-count.ensures c.args.function.canonical.marks c.args.function.canonical.some c.args.function.canonical.few }

pub solve-requires-in-loop-value : goal.solve-requires-in-loop-value
solve-requires-in-loop-value t c =
    let i = inside _ _ _ _ c.args.function.canonical c.if-function-eq1.false c.if-function-eq2.false in
    let side = tab-means _ _ _ _ _ c.in_ok-count.ensures ∙ side_tree _ _ _ (tab-means _ _ _ _ _ c.in_ok-parts.ensures.1) _ c.in_ok-parts.ensures.2 c.loop-value.value-index (search rules) in
    let less = falls _ _ (tree-deep _ _ _ _ c.args.function.canonical) i (suc c.loop-value.value-index) _ side in
    (omega (arith, less, c.decreases), (c.loop-value.invariant.few, (frames_deeper (3 * (stride * c.args.function.room)) _ _ _ _ less c.requires.deep (search rules), (search rules, (c.loop-value.invariant.remembers, search rules)))))

pub returns-in_err-done-2 : goal.returns-in_err-done-2
returns-in_err-done-2 t c =
    let i = inside _ _ _ _ c.args.function.canonical c.if-function-eq1.false c.if-function-eq2.false in
    part_over _ _ _ (tree-deep _ _ _ _ c.args.function.canonical) i (clause_of c.args.y) _ _ _ _ _ _ c.loop-value.invariant
    _ (tab-means _ _ _ _ _ c.in_ok-count.ensures ∙ side_tree _ _ _ (tab-means _ _ _ _ _ c.in_ok-parts.ensures.1) _ c.in_ok-parts.ensures.2 c.loop-value.value-index (search rules))
    (clause_of c.with_bit-literals.result) (c.with_bit-literals.ensures ∙ side_literals _ _ _ _ c.in_ok-parts.ensures.2 c.loop-value.value-index (search rules))
    (omega arith) c.in_ok-parts.ensures.3 c.in_err-done-2.ensures _ _ _ (search rules)

pub loop-value-preserved : goal.loop-value-preserved
loop-value-preserved t c =
    let i = inside _ _ _ _ c.args.function.canonical c.if-function-eq1.false c.if-function-eq2.false in
    part_done _ _ _ (tree-deep _ _ _ _ c.args.function.canonical) i (clause_of c.args.y) _ _ _ _ _ _ c.loop-value.invariant
    _ (tab-means _ _ _ _ _ c.in_ok-count.ensures ∙ side_tree _ _ _ (tab-means _ _ _ _ _ c.in_ok-parts.ensures.1) _ c.in_ok-parts.ensures.2 c.loop-value.value-index (search rules))
    (clause_of c.with_bit-literals.result) (c.with_bit-literals.ensures ∙ side_literals _ _ _ _ c.in_ok-parts.ensures.2 c.loop-value.value-index (search rules))
    _ _ _ c.in_ok-done-2.ensures _ (omega arith)

pub remember-requires-clause-harmless : goal.remember-requires-clause-harmless
remember-requires-clause-harmless t c =
    let i = inside _ _ _ _ c.args.function.canonical c.if-function-eq1.false c.if-function-eq2.false in
    fine _ _ _ (tree-deep _ _ _ _ c.args.function.canonical) i (clause_of c.args.y) _ _ _ _ _ _ (omega arith) c.loop-value.invariant c.in_ok-parts.ensures.3

pub returns : goal.returns
returns t c =
    let i = inside _ _ _ _ c.args.function.canonical c.if-function-eq1.false c.if-function-eq2.false in
    listed _ _ _ (tree-deep _ _ _ _ c.args.function.canonical) i (clause_of c.args.y) _ _ _ _ _ _ (omega arith) c.loop-value.invariant c.in_ok-parts.ensures.3 _ c.remember.ensures.remembers
