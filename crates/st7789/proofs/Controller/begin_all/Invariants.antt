use Rattle.std.proofs.Common.{length, ◌-◌}
use Rattle.st7789.proofs.Passing.{Together}
use Rattle.st7789.proofs.Controller.begin_all.Given as goal

abbrev pub invariant-loop-i : goal.invariant-loop-i
invariant-loop-i l = Together l.t l.bytes l.initial.controller l.controller l.i

abbrev pub decreases-loop-i : goal.decreases-loop-i
decreases-loop-i l = length l.bytes - l.i
