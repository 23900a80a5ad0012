use Rattle.engine.specs.Whole.{pixels_in}
use Rattle.engine.proofs.Stretched.{stays-inside, stretched, stretched-memory, missed, missed-memory}
use Rattle.engine.proofs.stretch.stretch.Goals as goal

pub invariant_of-stretch : goal.invariant_of-stretch
invariant_of-stretch c =
    let a = c.args in
    record { inside = stays-inside a.site a.at (pixels_in a.whole.format a.whole.bytes.now) a.k a.n c.in-Some.ensures.answer c.requires.n_bound }

pub returns-in-Some : goal.returns-in-Some
returns-in-Some c =
    let a = c.args in
    let s = a.site in
    let pixels = pixels_in a.whole.format a.whole.bytes.now in
    let o = c.in-Some.ensures.answer in
    let e = c.advance-next.ensures.answer in
    record {
      value =
          stretched s a.at pixels a.k a.n o c.requires.n_bound c.requires.n_nonzero.0 e c.row_at-top.ensures.answer
          c.row_at-end.ensures.answer c.mark_rows.ensures.answer;
      memory_after = stretched-memory s a.at pixels a.k a.n o c.requires.n_bound _ _ c.lay.ensures;
    }

pub returns-in-None : goal.returns-in-None
returns-in-None c =
    let a = c.args in
    let pixels = pixels_in a.whole.format a.whole.bytes.now in
    let o = c.in-None.ensures.answer in
    record { value = missed a.site a.at pixels a.k a.n o c.advance-next.ensures.answer; memory_after = missed-memory a.site a.at pixels a.k a.n o _ }
