-- Rules: what the laws say of a state: that it is good, and that no counter of it has run over.
use Rattle.std.specs.Prelude.{ℕ, ◌+◌, ◌^◌, ◌≤◌, ◌<◌, ◌≡◌, false, length, get_or}
use Rattle.formats.specs.Formats.{carry_bad}
use Rattle.formats.specs.declared.Format.TheVariants.{HighFirst}
use Rattle.lists.specs.Fixed.{places}
use Rattle.st7789.specs.Data.{no_record}
use Rattle.st7789.specs.Refusals.{bad_state, pixels_held}
use Rattle.st7789.specs.declared.St7789p3.{St7789p3}

-- What the types say of a panel's arrays, which the definitions have as lists of any length.
pub record Sized (s : St7789p3) : Type 0 where
  pub records : length s.records ≡ places
  pub bytes : length s.controller.chip.decoder.params.bytes ≡ 14
  pub each : (i : ℕ) → i < places → length (get_or s.records i no_record).params.bytes ≡ 14
  pub warnings : length s.warnings ≡ places

-- A state that is not BAD_STATE, with arrays of the lengths that the types say.
pub record Fine (s : St7789p3) : Type 0 where
  pub sized : Sized s
  pub fine : bad_state s ≡ false

-- A good state: such a one, in which two bytes wait in a run alone. Else data for COLMOD could change the format while they wait.
pub record Good (s : St7789p3) : Type 0 where
  pub sized : Sized s
  pub fine : bad_state s ≡ false
  pub quiet : s.controller.chip.decoder.in_pixels ≡ false → carry_bad HighFirst s.controller.chip.walk.carry ≡ false

-- The pixel bytes of the current record.
abbrev pub held_by : St7789p3 → ℕ
held_by s = pixels_held s.controller.logs.current s.records

-- The pixel bytes of the record at a place.
abbrev pub held_at : ℕ → St7789p3 → ℕ
held_at i s = (get_or s.records i no_record).pixel_bytes

-- No counter has run over: the bounds that 2^63 and 65,536 give, for every record's pixel bytes too, current or not.
pub record Bounded (s : St7789p3) : Type 0 where
  pub commands : s.controller.counts.commands ≤ 2 ^ 63 + 65536
  pub ramwrs : s.controller.counts.ramwr_count ≤ 2 ^ 63 + 65536
  pub pixels : s.controller.counts.pixels_written ≤ 2 ^ 63 + 65536
  pub dropped : s.controller.counts.dropped_params ≤ 2 ^ 63 + 65536
  pub inverted : s.controller.counts.inverted ≤ 2 ^ 63 + 65536
  pub unmapped : s.controller.counts.unmapped ≤ 2 ^ 63 + 65536
  pub held : (i : ℕ) → held_at i s ≤ 2 ^ 63 + 65536
