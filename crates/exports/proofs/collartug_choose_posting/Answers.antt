use Rattle.std.proofs.Common.{ap, ◌∙◌, ◌∷◌, List, ℕ}
use Rattle.refusal.specs.Verdict.{replied}
use Rattle.replies.specs.Replies.{buffer_with, part_values}
use Rattle.exports.proofs.collartug_choose_posting.Goals as goal

pub returns : goal.returns
unfolding replied
returns c = (
  c.write_answer.ensures.returned,
  c.write_answer.ensures.written
      ∙ ap (λ (w : List ℕ). buffer_with (0 ∷ 0 ∷ w) c.args.reply.now) (c.of.ensures ∙ ap part_values c.choose_posting-part.ensures.result_value),
)
