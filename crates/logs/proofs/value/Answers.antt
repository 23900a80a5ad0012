use Rattle.std.proofs.Common.{arith}
use Rattle.logs.proofs.Numbers.{room}
use Rattle.logs.proofs.value.Goals as goal

pub overflow_mul-v : goal.overflow_mul-v
overflow_mul-v c = omega (arith, room {b = 0} c.loop-byte.invariant.small (omega arith) (omega arith))
