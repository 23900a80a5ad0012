use Rattle.light.proofs.Channels.{dimmed-scaled}
use Rattle.light.proofs.dimming.dim.Goals as goal

pub returns : goal.returns
returns c = record {
  answer =
      simp (c.from-all.ensures, c.scale_value-red.ensures.0, c.scale_value-green.ensures.0, c.scale_value-blue.ensures.0)
      (dimmed-scaled _ _ _);
}
