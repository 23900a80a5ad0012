use Rattle.std.proofs.Common.{ap, ◌∙◌}
use Rattle.pixels.specs.Run.{walked_on}
use Rattle.pixels.proofs.Turns.{turn-next, turn_last, turn-last-memory}
use Rattle.pixels.proofs.write_pixels.Goals as goal

pub loop-byte-preserved : goal.loop-byte-preserved
loop-byte-preserved c = turn-next c.loop-byte.invariant c.loop-byte-test.true c.step-run.ensures.value c.step-run.ensures.memory_after

pub returns-clause-answer : goal.returns-clause-answer
returns-clause-answer c =
    let a = c.args in
    turn_last c.loop-byte.invariant c.loop-byte-test.false ∙
    ap (λ t. walked_on a.site (record { walk = a.walk; totals = t; marks = a.marks }) a.bytes.now) c.none.ensures.answer

pub returns-clause-lent : goal.returns-clause-lent
returns-clause-lent c = turn-last-memory c.loop-byte.invariant c.loop-byte-test.false
