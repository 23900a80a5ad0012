use Rattle.std.proofs.Common.{rules, ◌≡◌, length}
use Rattle.engine.specs.Whole.{pixels_in}
use Rattle.engine.specs.Strides.{on_from}
use Rattle.engine.proofs.Laying.{laid_none}
use Rattle.engine.proofs.lay.lay.Goals as goal

pub returns-then-is_empty : goal.returns-then-is_empty
returns-then-is_empty c =
    let a = c.args in
    let none : length a.memory.now ≡ 0 = search rules in
    laid_none (on_from a.stretch.madctl a.stretch.first) a.memory.now (pixels_in a.whole.format a.whole.bytes.now) a.stretch.j a.stretch.n none
