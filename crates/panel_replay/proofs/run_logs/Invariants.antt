use Rattle.std.proofs.Common.{length, ◌+◌, ◌≤◌}
use Rattle.panel_replay.proofs.run_logs.Given as goal

abbrev pub invariant-loop-length : goal.invariant-loop-length
invariant-loop-length l = l.number + length l.rest ≤ length l.list

abbrev pub decreases-loop-length : goal.decreases-loop-length
decreases-loop-length l = length l.rest
