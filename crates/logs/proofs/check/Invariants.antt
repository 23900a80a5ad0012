use Rattle.std.proofs.Common.{length, ◌-◌}
use Rattle.logs.proofs.Checking.{Checking}
use Rattle.logs.proofs.check.Given as goal

abbrev pub invariant-loop-at : goal.invariant-loop-at
invariant-loop-at l = Checking l.log l.at

abbrev pub decreases-loop-at : goal.decreases-loop-at
decreases-loop-at l = length l.log - l.at
