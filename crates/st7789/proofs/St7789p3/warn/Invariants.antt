use Rattle.timing.specs.Lint.{rules_of}
use Rattle.st7789.specs.Command.{warning}
use Rattle.st7789.proofs.Commands.{Kept}
use Rattle.st7789.proofs.St7789p3.warn.Given as goal

abbrev pub invariant-loop-k : goal.invariant-loop-k
invariant-loop-k l = Kept (warning l.c l.t) (rules_of l.broken) l.initial.self l.self l.k
