use Rattle.pixels.proofs.Turns.{Turn}
use Rattle.pixels.proofs.write_pixels.Given as goal

abbrev pub invariant-loop-byte : goal.invariant-loop-byte
invariant-loop-byte l = Turn l.site l.bytes l.initial.memory l.initial.run l.memory l.run l.byte-index
