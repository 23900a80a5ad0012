use Rattle.std.proofs.Common.{◌*◌}
use Rattle.formats.specs.declared.Format.TheVariants.{Twelve}
use Rattle.engine.specs.Whole.{pixels_in, Agree}
use Rattle.engine.proofs.strided.widen.Given as goal

abbrev pub invariant-loop-k : goal.invariant-loop-k
invariant-loop-k l = Agree l.line 0 (pixels_in Twelve l.bytes) (2 * l.round) (2 * l.k)
