-- Rules: 01, "Publish copies the span's rows to the frame, other rows stay, answers span and six flags (powered, sleeping, inverted,
-- display on, switch, duty), and empties the span."
use Rattle.std.specs.Prelude.{ℕ, ◌+◌, ◌-◌, ◌*◌, false, List, ◌++◌, take, drop, Option, Some, None}
use Rattle.marks.specs.Rows.{no_rows, span_of}
use Rattle.st7789.specs.Parts.{with_controller, with_marks}
use Rattle.st7789.specs.Refusals.{bad_state}
use Rattle.status.specs.Numbers.{unless_refused}
use Rattle.status.specs.Tests.{first, publish_row}
use Rattle.st7789.specs.declared.Controller.{Controller}
use Rattle.st7789.specs.declared.St7789p3.{St7789p3}
use Rattle.publishing.specs.declared.Flags.{Flags}

-- "copies the span's rows to the frame, other rows stay": first to last are memory's, above and below are the frame's own.
abbrev pub copied : ℕ → ℕ → List ℕ → List ℕ → List ℕ
copied first last memory frame =
    take (first * 240) frame
    ++ (take ((last + 1 - first) * 240) (drop (first * 240) memory) ++ drop ((last + 1) * 240) frame)

-- The same by a span: an empty one copies nothing.
abbrev pub span_copied : Option (ℕ × ℕ) → List ℕ → List ℕ → List ℕ
span_copied None memory frame = frame
span_copied (Some (first, last)) memory frame = copied first last memory frame

-- The refusal of a publish.
unfoldable pub publish_refusal : St7789p3 → ℕ → ℕ → ℕ
publish_refusal s cells room = first (publish_row (bad_state s) cells room)

-- "six flags (powered, sleeping, inverted, display on, switch, duty)"
abbrev pub flags_of : Controller → Flags
flags_of k =
    record {
      powered = k.power.powered;
      sleeping = k.chip.registers.sleeping;
      inverted = k.chip.registers.inverted;
      display_on = k.chip.registers.display_on;
      invon_shows_ram = k.cfg.invon_shows_ram;
      duty = k.power.duty;
    }

-- The flags of a refusal: "no value (0 where a number is due)".
abbrev pub no_flags : Flags
no_flags =
    record { powered = false; sleeping = false; inverted = false; display_on = false; invon_shows_ram = false; duty = 0 }

-- "answers span"; refused, "no value".
unfoldable pub published_span : ℕ → St7789p3 → Option (ℕ × ℕ)
published_span refusal s = unless_refused refusal (span_of s.controller.marks) None

-- "answers .. six flags"; refused, "no value".
unfoldable pub published_flags : ℕ → St7789p3 → Flags
published_flags refusal s = unless_refused refusal (flags_of s.controller) no_flags

-- "empties the span"; refused, "A refusal gives back the state it got".
unfoldable pub published : ℕ → St7789p3 → St7789p3
published refusal s = unless_refused refusal (with_controller (with_marks no_rows s.controller) s) s

-- "Publish copies the span's rows to the frame"; refused, "every lent number as before".
unfoldable pub published_frame : ℕ → St7789p3 → List ℕ → List ℕ → List ℕ
published_frame refusal s memory frame = unless_refused refusal (span_copied (span_of s.controller.marks) memory frame) frame
