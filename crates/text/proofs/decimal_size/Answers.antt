use Rattle.std.proofs.Common.{rules}
use Rattle.text.proofs.Sizing.{sizing-first, sizing-next, sizing-last}
use Rattle.text.proofs.decimal_size.Goals as goal

pub loop-rest-init : goal.loop-rest-init
loop-rest-init c = sizing-first (search rules)

pub loop-rest-preserved : goal.loop-rest-preserved
loop-rest-preserved c = sizing-next c.loop-rest.invariant c.loop-rest-test.true

pub returns : goal.returns
returns c = sizing-last c.loop-rest.invariant c.loop-rest-test.false
