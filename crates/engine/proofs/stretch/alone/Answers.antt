use Rattle.engine.proofs.Stretched.{one-passed, none_passed}
use Rattle.engine.proofs.stretch.alone.Goals as goal

pub returns-in-Some-clause-value : goal.returns-in-Some-clause-value
returns-in-Some-clause-value c =
    let a = c.args in
    one-passed a.site a.at a.pixel c.in-Some.ensures.answer c.advance-next.ensures.answer c.row_at-row.ensures.answer c.mark_row.ensures.answer

pub returns-in-None-clause-value : goal.returns-in-None-clause-value
returns-in-None-clause-value c = let a = c.args in none_passed a.site a.at a.pixel c.in-None.ensures.answer c.advance-next.ensures.answer
