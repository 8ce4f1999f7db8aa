use Rattle.std.proofs.Common.{◌≡◌, ap, ◌∙◌, List, ℕ, arith}
use Rattle.refusal.specs.Verdict.{replied}
use Rattle.walk.specs.declared.PathState.{PathState}
use Rattle.walk.specs.Step.{step_of, start_of, words_of, path_of, path_after}
use Rattle.walk.specs.Walk.{path_in}
use Rattle.walk.proofs.KthLaws.{kth_tells}
use Rattle.walk.proofs.kth_step.Goals as goal

pub returns : goal.returns
returns c =
    let here : c.loop-i._i ≡ c.args.k = omega arith in
    c.next-2.ensures.steps.says
    ∙ ap replied
    (
    ap (λ (xs : List ℕ). step_of xs (path_in c.loop-i.walk)) c.loop-i.invariant.0
    ∙ ap (λ (p : PathState). step_of (words_of c.args.n c.args.count c.args.nodes.now) p) c.loop-i.invariant.1
    ∙ ap (λ (j : ℕ). step_of (words_of c.args.n c.args.count c.args.nodes.now) (path_after j (words_of c.args.n c.args.count c.args.nodes.now) (path_of (start_of c.args.n c.args.count c.args.nodes.now)))) here
    ∙ kth_tells c.args.n c.args.count c.args.nodes.now c.args.k
    )
