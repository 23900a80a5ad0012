use Rattle.std.proofs.Common.{◌∙◌}
use Rattle.engine.proofs.Rounds.{high-at}
use Rattle.engine.proofs.whole.high_first.Goals as goal

pub returns : goal.returns
returns c = c.joined.ensures.answer ∙ high-at c.args.bytes.now c.args.k c.requires
