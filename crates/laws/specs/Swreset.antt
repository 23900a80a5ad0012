-- Rules: 01, what the command 01 leaves alone.
use Rattle.std.specs.Prelude.{ℕ, ◌+◌, ◌≡◌, false, List, []}
use Rattle.st7789.specs.Data.{stores_in}
use Rattle.st7789.specs.declared.St7789p3.{St7789p3}

-- "MADCTL, COLMOD, RAMCTRL, stored lists, counts, wake time and memory stay." The command itself is counted.
pub record ResetKeeps (s r : St7789p3) : Type 0 where
  pub madctl : r.controller.chip.registers.madctl ≡ s.controller.chip.registers.madctl
  pub colmod : r.controller.chip.registers.colmod ≡ s.controller.chip.registers.colmod
  pub ramctrl0 : r.controller.chip.registers.ramctrl0 ≡ s.controller.chip.registers.ramctrl0
  pub ramctrl1 : r.controller.chip.registers.ramctrl1 ≡ s.controller.chip.registers.ramctrl1
  pub stored : r.stored ≡ s.stored
  pub commands : r.controller.counts.commands ≡ s.controller.counts.commands + 1
  pub ramwrs : r.controller.counts.ramwr_count ≡ s.controller.counts.ramwr_count
  pub pixels : r.controller.counts.pixels_written ≡ s.controller.counts.pixels_written
  pub dropped : r.controller.counts.dropped_params ≡ s.controller.counts.dropped_params
  pub inverted : r.controller.counts.inverted ≡ s.controller.counts.inverted
  pub unmapped : r.controller.counts.unmapped ≡ s.controller.counts.unmapped
  pub woken : r.controller.chip.times.slpout ≡ s.controller.chip.times.slpout
  pub nowhere : (bytes : List ℕ) → stores_in false bytes s.controller ≡ []
