use Rattle.std.proofs.Common.{take}
use Rattle.text.specs.Text.{Put}
use Rattle.lines.specs.Lines.{hex_bytes}
use Rattle.lines.proofs.put_hex_bytes.Given as goal

abbrev pub invariant-loop-byte : goal.invariant-loop-byte
invariant-loop-byte l = Put l.initial.out l.at (hex_bytes (take l.byte-index l.bytes)) l.used l.out
