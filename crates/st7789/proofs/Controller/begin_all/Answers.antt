use Rattle.st7789.proofs.Passing.{together-next}
use Rattle.st7789.proofs.Controller.begin_all.Goals as goal

pub loop-i-preserved : goal.loop-i-preserved
loop-i-preserved c =
    together-next c.args.t c.loop-i.invariant c.next_busy-next.ensures.lower_bound.0 c.next_busy-next.ensures.lower_bound.1
    c.next_busy-next.ensures.passing c.begin-controller.ensures
