-- Rules: 02, Q-3, what a transfer's totals say of the state that it met and the one that it left.
use Rattle.std.specs.Prelude.{◌+◌, ◌≡◌}
use Rattle.pixels.specs.declared.Totals.{Totals}
use Rattle.st7789.specs.declared.St7789p3.{St7789p3}

-- "a transfer shall answer its own three totals beside the state": pixels_written grows by the stored and the unmapped, and each of the
-- "Two new counts, inverted and unmapped" by its own.
pub record Answered (t : Totals) (s r : St7789p3) : Type 0 where
  pub pixels : r.controller.counts.pixels_written ≡ s.controller.counts.pixels_written + (t.stored + t.unmapped)
  pub inverted : r.controller.counts.inverted ≡ s.controller.counts.inverted + t.inverted
  pub unmapped : r.controller.counts.unmapped ≡ s.controller.counts.unmapped + t.unmapped
