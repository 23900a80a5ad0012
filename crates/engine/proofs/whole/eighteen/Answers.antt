use Rattle.std.proofs.Common.{◌∙◌}
use Rattle.engine.proofs.Rounds.{eighteen-at}
use Rattle.engine.proofs.whole.eighteen.Goals as goal

pub returns : goal.returns
returns c = c.from_eighteen.ensures.answer ∙ eighteen-at c.args.bytes.now c.args.k c.requires
