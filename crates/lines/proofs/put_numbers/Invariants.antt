use Rattle.std.proofs.Common.{take}
use Rattle.text.specs.Text.{Put}
use Rattle.lines.specs.Lines.{numbers}
use Rattle.lines.proofs.put_numbers.Given as goal

abbrev pub invariant-loop-n : goal.invariant-loop-n
invariant-loop-n l = Put l.initial.out l.at (numbers (take l.n-index l.ns)) l.used l.out
