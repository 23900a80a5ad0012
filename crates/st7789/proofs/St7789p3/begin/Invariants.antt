use Rattle.std.proofs.Common.{length, ◌-◌}
use Rattle.st7789.proofs.Commands.{PanelTurn}
use Rattle.st7789.proofs.St7789p3.begin.Given as goal

abbrev pub invariant-loop-i : goal.invariant-loop-i
invariant-loop-i l = PanelTurn l.t l.bytes l.fn.self l.self l.i

abbrev pub decreases-loop-i : goal.decreases-loop-i
decreases-loop-i l = length l.bytes - l.i
