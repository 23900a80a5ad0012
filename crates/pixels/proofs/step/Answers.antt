use Rattle.pixels.proofs.Steps.{waits, waits-memory, draws, draws-memory}
use Rattle.pixels.proofs.step.Goals as goal

pub returns-in-Some-clause-value : goal.returns-in-Some-clause-value
returns-in-Some-clause-value c =
    let a = c.args in
    draws a.site a.run a.byte c.arrive-arrived.result c.arrive-arrived.ensures.answer c.in-Some.pixel c.in-Some.is _ c.store_pixel.ensures.value

pub returns-in-Some-clause-memory_after : goal.returns-in-Some-clause-memory_after
returns-in-Some-clause-memory_after c =
    let a = c.args in
    draws-memory a.site a.run a.byte c.arrive-arrived.result c.arrive-arrived.ensures.answer c.in-Some.pixel c.in-Some.is _ _ c.store_pixel.ensures.memory_after

pub returns-in-None-clause-value : goal.returns-in-None-clause-value
returns-in-None-clause-value c =
    let a = c.args in waits a.site a.run a.byte c.arrive-arrived.result c.arrive-arrived.ensures.answer c.in-None.is

pub returns-in-None-clause-memory_after : goal.returns-in-None-clause-memory_after
returns-in-None-clause-memory_after c =
    let a = c.args in waits-memory a.site a.run a.byte c.arrive-arrived.result c.arrive-arrived.ensures.answer _ c.in-None.is
