use Rattle.std.proofs.Common.{◌-◌}
use Rattle.engine.specs.Whole.{pixels_in}
use Rattle.engine.proofs.Courses.{Going}
use Rattle.engine.proofs.stretch.rows.Given as goal

abbrev pub invariant-loop-k : goal.invariant-loop-k
invariant-loop-k l = Going l.site (pixels_in l.whole.format l.whole.bytes.now) l.initial.memory l.initial.at l.total l.memory l.at l.k

abbrev pub decreases-loop-k : goal.decreases-loop-k
decreases-loop-k l = l.total - l.k
