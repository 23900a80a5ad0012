use Rattle.std.proofs.Common.{◌∙◌}
use Rattle.engine.proofs.Rounds.{first-at}
use Rattle.engine.proofs.whole.first_of_round.Goals as goal

pub returns : goal.returns
returns c = c.first_of_two.ensures.answer ∙ first-at c.args.bytes.now c.args.k c.requires
