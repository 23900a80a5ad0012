use Rattle.std.proofs.Common.{◌≤◌, length}
use Rattle.panel_script.proofs.bytes.expand.Given as goal

abbrev pub invariant-loop-piece : goal.invariant-loop-piece
invariant-loop-piece l = l.used ≤ length l.out
