use Rattle.text.proofs.Making.{Making}
use Rattle.text.proofs.put_digits.Given as goal

abbrev pub invariant-loop-i : goal.invariant-loop-i
invariant-loop-i l = Making l.base l.width l.n l.start l.codes l.rest l.i
