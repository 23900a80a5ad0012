use Rattle.std.proofs.Common.{length}
use Rattle.panel_script.proofs.picture.put_row.Given as goal

abbrev pub decreases-loop-first : goal.decreases-loop-first
decreases-loop-first l = length l.rest
