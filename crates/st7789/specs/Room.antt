-- Workshop: what the tests of a transfer leave known: room in every counter for n more, and a current record that is one.
use Rattle.std.specs.Prelude.{ℕ, ◌+◌, ◌^◌, ◌<◌, Option, Some, None}
use Rattle.lists.specs.Fixed.{places}
use Rattle.st7789.specs.Refusals.{pixels_held}
use Rattle.st7789.specs.declared.Counts.{Counts}
use Rattle.st7789.specs.declared.St7789p3.{St7789p3}

-- A current record is one of the 128.
abbrev pub Placed : Option ℕ → Type 0
Placed None = Unit {0}
Placed (Some i) = i < places

-- No counter runs over by n more.
pub record Countable (n : ℕ) (k : Counts) : Type 0 where
  pub commands : k.commands + n < 2 ^ 64
  pub ramwrs : k.ramwr_count + n < 2 ^ 64
  pub pixels : k.pixels_written + n < 2 ^ 64
  pub dropped : k.dropped_params + n < 2 ^ 64
  pub inverted : k.inverted + n < 2 ^ 64
  pub unmapped : k.unmapped + n < 2 ^ 64

-- The same of a panel, whose current record is one of the 128.
pub record Room (n : ℕ) (s : St7789p3) : Type 0 where
  pub counts : Countable n s.controller.counts
  pub held : pixels_held s.controller.logs.current s.records + n < 2 ^ 64
  pub current : Placed s.controller.logs.current
