use Rattle.std.proofs.Common.{rules, ◌∙◌, ◌%◌}
use Rattle.formats.specs.declared.Format.TheVariants.{Twelve}
use Rattle.engine.specs.Whole.{pixels_in}
use Rattle.engine.specs.Strides.{on_from}
use Rattle.engine.proofs.Laying.{laid_same, line-agrees}
use Rattle.engine.proofs.strided.lay_twelve.Goals as goal

pub returns : goal.returns
returns c =
    let a = c.args.stretch in
    c.lay_strided.ensures _ (record { each = λ k v h e. search rules }) ∙
    laid_same (on_from a.madctl a.first) c.args.memory.now _ (pixels_in Twelve c.args.bytes.now) (a.j % 2) a.j a.n
    (line-agrees _ (pixels_in Twelve c.args.bytes.now) a.j a.n c.widen.ensures)
