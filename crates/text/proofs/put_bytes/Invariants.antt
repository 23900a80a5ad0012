use Rattle.std.proofs.Common.{take}
use Rattle.text.specs.Text.{Put}
use Rattle.text.proofs.put_bytes.Given as goal

abbrev pub invariant-loop-byte : goal.invariant-loop-byte
invariant-loop-byte l = Put l.initial.out l.at (take l.byte-index l.bytes) l.used l.out
