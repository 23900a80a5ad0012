use Rattle.logs.proofs.Numbers.{Valued}
use Rattle.logs.proofs.value.Given as goal

abbrev pub invariant-loop-byte : goal.invariant-loop-byte
invariant-loop-byte l = Valued l.bytes l.v l.byte-index
