use Rattle.pixels.proofs.Steps.{stored, unmapped, dropped}
use Rattle.pixels.proofs.store_pixel.Goals as goal

pub returns-in-Stored-clause-value : goal.returns-in-Stored-clause-value
returns-in-Stored-clause-value c =
    let a = c.args in
    stored a.site a.run a.pixel a.waiting c.in-Stored.ensures.answer c.advance-next.ensures.answer c.row_at-row.ensures.answer c.mark_row.ensures.answer

pub returns-in-Unmapped-clause-value : goal.returns-in-Unmapped-clause-value
returns-in-Unmapped-clause-value c =
    let a = c.args in unmapped a.site a.run a.pixel a.waiting c.in-Unmapped.ensures.answer c.advance-next.ensures.answer

pub returns-in-Inverted-clause-value : goal.returns-in-Inverted-clause-value
returns-in-Inverted-clause-value c = let a = c.args in dropped a.site a.run a.pixel a.waiting c.in-Inverted.ensures.answer
