-- A black glass dimmed is black.
use borrow.Author.Tests.{eq-eqb}
use Rattle.std.proofs.Common.{◌∙◌}
use Rattle.light.specs.Light.{part_seen}
use Rattle.light.proofs.Looking.{perceived-black}
use Rattle.light.proofs.filling.fill.Goals as goal

pub returns-in-Perceived-2 : goal.returns-in-Perceived-2
unfolding part_seen
returns-in-Perceived-2 c =
    record {
      lent = rw (eq-eqb _ _ c.if-to-from.false, c.in-Perceived-2.is)
          (c.fill_glass-in-Perceived-2.ensures ∙ perceived-black c.args.light c.args.from.now c.if-light.false);
    }
