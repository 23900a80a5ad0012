use Rattle.std.proofs.Common.{◌∙◌}
use Rattle.engine.proofs.Rounds.{second_at}
use Rattle.engine.proofs.whole.second_of_round.Goals as goal

pub returns : goal.returns
returns c = c.second_of_two.ensures.answer ∙ second_at c.args.bytes.now c.args.k c.requires
