use Rattle.std.proofs.Common.{◌∙◌}
use Rattle.exports.proofs.ListReply.{list_told}
use Rattle.exports.proofs.collartug_to_values.Goals as goal

pub returns : goal.returns
returns c = (c.write_answer.ensures.returned, c.write_answer.ensures.written ∙ list_told _ _ c.args.reply.now c.to_values.ensures)
