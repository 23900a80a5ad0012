use Rattle.text.proofs.Sizing.{Sizing}
use Rattle.text.proofs.decimal_size.Given as goal

abbrev pub invariant-loop-rest : goal.invariant-loop-rest
invariant-loop-rest l = Sizing l.n l.rest l.count

abbrev pub decreases-loop-rest : goal.decreases-loop-rest
decreases-loop-rest l = l.rest
