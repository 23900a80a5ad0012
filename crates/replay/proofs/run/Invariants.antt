use Rattle.std.proofs.Common.{length, ◌-◌}
use Rattle.replay.proofs.Running.{Running}
use Rattle.replay.proofs.run.Given as goal

abbrev pub invariant-loop-at : goal.invariant-loop-at
invariant-loop-at l = Running l.log l.a.panel l.at

abbrev pub decreases-loop-at : goal.decreases-loop-at
decreases-loop-at l = length l.log - l.at
