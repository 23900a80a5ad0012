use Rattle.std.proofs.Common.{refl, ◌<◌, length, arith}
use Rattle.timing.specs.Lint.{rules_of}
use Rattle.lists.specs.Fixed.{places}
use Rattle.lists.proofs.Putting.{put-free, put-none}
use Rattle.st7789.proofs.Commands.{kept_next, kept-last}
use Rattle.st7789.proofs.St7789p3.warn.Goals as goal
use Rattle.st7789.proofs.St7789p3.warn.Goals.{then-place-lt-PLACES, else-place-lt-PLACES}

pub loop-k-preserved : goal.loop-k-preserved
loop-k-preserved c =
    let s = c.loop-k.self in
    let more : c.loop-k.k < length (rules_of c.args.broken) = omega (arith, c.count-k-end.ensures.answer) in
    elim c.if-place-lt-PLACES.branch [
      | then-place-lt-PLACES w ↦
          rw w.self-is
          (kept_next c.loop-k.invariant more w.rule.ensures.answer
          (put-free places s.controller.logs.warned c.free-place.ensures.answer s.warnings _ w.if-place-lt-PLACES.true) (λ f. refl))
      | else-place-lt-PLACES w ↦
          rw w.self-is
          (kept_next c.loop-k.invariant more refl
          (put-none places s.controller.logs.warned c.free-place.ensures.answer s.warnings _ w.if-place-lt-PLACES.false) (λ f. refl))
    ]

pub returns : goal.returns
returns c = kept-last c.loop-k.invariant (omega (arith, c.count-k-end.ensures.answer))
