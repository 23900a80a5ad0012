use Rattle.std.proofs.Common.{ap, sym, ◌∙◌, get_or, arith}
use Rattle.engine.specs.Whole.{pixels_in}
use Rattle.engine.proofs.Rounds.{whole_length}
use Rattle.engine.proofs.Courses.{going-stretch, going-alone, going-pointer, going-marks, going-missed, going-memory}
use Rattle.engine.proofs.stretch.rows.Goals as goal

pub loop-k-preserved-then-at-site : goal.loop-k-preserved-then-at-site
loop-k-preserved-then-at-site c =
    let e = c.is_high_first-high.ensures c.if-high.true in
    going-alone c.loop-k.invariant c.requires.window_value c.loop-k-test.true
    (c.high_first.ensures ∙ ap (λ f. get_or (pixels_in f c.args.whole.bytes.now) c.loop-k.k 0) (sym e)) c.alone-at.ensures.value
    c.alone-at.ensures.memory_after

pub loop-k-preserved : goal.loop-k-preserved
loop-k-preserved c =
    let g = c.reach-n.ensures in
    let l = c.loop-k-test.true in
    going-stretch c.loop-k.invariant c.requires.window_value (omega (arith, g.most, l)) (g.some (omega (arith, l))) g.row
    c.stretch-at.ensures.value c.stretch-at.ensures.memory_after

pub returns : goal.returns
returns c =
    let all = c.pixels-total.ensures ∙ sym (whole_length c.args.whole.format c.args.whole.bytes.now) in
    let g = c.loop-k.invariant in
    let h = c.loop-k-test.false in
    record {
      pointer_value = going-pointer g all h;
      marks_value = going-marks g all h;
      missed_value_2 = going-missed g all h;
      memory_after = going-memory g all h;
    }
