use Rattle.std.proofs.Common.{◌∙◌, ◌∷◌, [], ℕ}
use Rattle.std.proofs.Math.Path.{ap₂}
use Rattle.refusal.specs.Verdict.{replied}
use Rattle.replies.specs.Replies.{buffer_with}
use Rattle.exports.proofs.collartug_empty.Goals as goal

pub returns : goal.returns
unfolding replied
returns c = (c.write_answer.ensures.returned, c.write_answer.ensures.written ∙ ap₂ (λ (f v : ℕ). buffer_with (0 ∷ 0 ∷ f ∷ v ∷ []) c.args.reply.now) c.empty.ensures.0 c.empty.ensures.1)
