use Rattle.std.proofs.Common.{◌≡◌, take}
use Rattle.boot.specs.Boot.{compared}
use Rattle.boot.proofs.boot_mismatch.Given as goal

abbrev pub invariant-loop-r : goal.invariant-loop-r
invariant-loop-r l = l.c ≡ compared (take l.r-index l.r-items)
