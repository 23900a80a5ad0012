use Rattle.lists.proofs.Filling.{Filling}
use Rattle.lists.proofs.Params.append.Given as goal

abbrev pub invariant-loop-byte : goal.invariant-loop-byte
invariant-loop-byte l = Filling l.bytes l.initial.self l.fit l.self l.byte-index
