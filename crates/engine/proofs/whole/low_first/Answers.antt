use Rattle.std.proofs.Common.{◌∙◌}
use Rattle.engine.proofs.Rounds.{low-at}
use Rattle.engine.proofs.whole.low_first.Goals as goal

pub returns : goal.returns
returns c = c.joined.ensures.answer ∙ low-at c.args.bytes.now c.args.k c.requires
