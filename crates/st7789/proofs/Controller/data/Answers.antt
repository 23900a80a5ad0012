use Rattle.std.proofs.Common.{sym, ◌∙◌}
use Rattle.st7789.proofs.Datas.{walked_at, pixels-fit, data-run, data-lost, data-for}
use Rattle.st7789.proofs.Controller.data.Goals as goal

pub draw-self-requires-clause-unmapped_bound : goal.draw-self-requires-clause-unmapped_bound
draw-self-requires-clause-unmapped_bound c =
    let k = c.args.self.now in
    (pixels-fit k c.args.bytes.now c.requires.1 _ (walked_at k c.args.bytes.now c.site-site.ensures.answer c.write_pixels-run.ensures.answer)).0

pub draw-self-requires-clause-inverted_bound : goal.draw-self-requires-clause-inverted_bound
draw-self-requires-clause-inverted_bound c =
    let k = c.args.self.now in
    (pixels-fit k c.args.bytes.now c.requires.1 _ (walked_at k c.args.bytes.now c.site-site.ensures.answer c.write_pixels-run.ensures.answer)).1

pub returns-then-decoder-clause-controller_value : goal.returns-then-decoder-clause-controller_value
returns-then-decoder-clause-controller_value c =
    let k = c.args.self.now in
    data-run k c.args.bytes.now _ _ c.if-decoder.true
    (walked_at k c.args.bytes.now c.site-site.ensures.answer c.write_pixels-run.ensures.answer)
    c.draw-self.ensures

pub returns-in-None-clause-controller_value : goal.returns-in-None-clause-controller_value
returns-in-None-clause-controller_value c =
    data-lost c.args.self.now c.args.bytes.now c.if-decoder.false (sym c.in-None.is ∙ c.requires.0)

pub returns-in-Some-clause-controller_value : goal.returns-in-Some-clause-controller_value
returns-in-Some-clause-controller_value c =
    data-for c.args.self.now c.args.bytes.now c.if-decoder.false (sym c.in-Some.is ∙ c.requires.0) c.take-self.ensures.answer
    c.excess.ensures.answer
