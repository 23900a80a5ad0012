use Rattle.std.proofs.Common.{arith}
use Rattle.light.proofs.Entries.{dimmed-by}
use Rattle.light.proofs.tables.Channels.dim.Goals as goal

pub returns : goal.returns
returns c = dimmed-by _ c.args.raw (omega arith) c.args.self.now.made
