use Rattle.st7789.specs.Places.{Passing}
use Rattle.st7789.proofs.command.next_busy.Given as goal

abbrev pub invariant-loop-at : goal.invariant-loop-at
invariant-loop-at l = Passing l.bytes l.i l.at
