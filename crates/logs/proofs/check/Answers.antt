use Rattle.std.proofs.Common.{arith}
use Rattle.logs.proofs.Checking.{checking-bad}
use Rattle.logs.proofs.check.Goals as goal

pub returns-then-rest-gt3 : goal.returns-then-rest-gt3
returns-then-rest-gt3 c =
    let r =
    checking-bad c.args.log.now c.loop-at.at c.loop-at.invariant c.loop-at-test.true c.size-taken.ensures.value (omega arith)
    c.then-rest-gt3.either
    in
    record { refusal = r.0; answer = r.1 }
