use Rattle.std.proofs.Common.{sym, ◌∙◌}
use Rattle.st7789.proofs.Moves.{stored-put, stored-nowhere, stored-lost, data-put}
use Rattle.st7789.proofs.St7789p3.take.Goals as goal

pub returns-then-place-lt12-clause-panel : goal.returns-then-place-lt12-clause-panel
returns-then-place-lt12-clause-panel c =
    let s = c.args.self.now in
    let d = c.data-totals.ensures.controller_value in
    data-put c.args.bytes.now s c.requires.current c.place-at.ensures.value c.noted.ensures d
    (stored-put c.args.bytes.now s.controller s.stored (sym c.in-Some.is ∙ c.command-command.ensures) c.place-place.ensures.answer
    c.if-place-lt12.true d c.stored_list.ensures)

pub returns-else-place-lt12-clause-panel : goal.returns-else-place-lt12-clause-panel
returns-else-place-lt12-clause-panel c =
    let s = c.args.self.now in
    data-put c.args.bytes.now s c.requires.current c.place-at.ensures.value c.noted.ensures c.data-totals.ensures.controller_value
    (stored-nowhere c.args.bytes.now s.controller s.stored (sym c.in-Some.is ∙ c.command-command.ensures) c.place-place.ensures.answer
    c.if-place-lt12.false)

pub returns-in-None-clause-panel : goal.returns-in-None-clause-panel
returns-in-None-clause-panel c =
    let s = c.args.self.now in
    data-put c.args.bytes.now s c.requires.current c.place-at.ensures.value c.noted.ensures c.data-totals.ensures.controller_value
    (stored-lost c.args.bytes.now s.controller s.stored (sym c.in-None.is ∙ c.command-command.ensures))
