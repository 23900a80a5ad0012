-- Rules: 01's table of refusals, and 02, Q-3 and Q-5, when each is given.
use Rattle.std.specs.Prelude.{ℕ, ◌+◌, Bool, false, not, ◌||◌, List, [], ◌∷◌, get_or, ltb, eqb, Option, Some, None}
use Rattle.lists.specs.Fixed.{Fixed, places, used}
use Rattle.lists.specs.Entries.{some, stored_long, record_long}
use Rattle.lists.specs.Params.{too_long, differ}
use Rattle.formats.specs.Formats.{carry_bad}
use Rattle.geometry.specs.Bounds.{window_bad, pointer_bad}
use Rattle.chip.specs.Site.{format_in}
use Rattle.marks.specs.Rows.{marks_bad}
use Rattle.status.specs.Tests.{first, transfer_row, bare_row}
use Rattle.lists.specs.declared.Params.{Params}
use Rattle.lists.specs.declared.TraceRecord.{TraceRecord}
use Rattle.st7789.specs.Parts.{trace_of}
use Rattle.st7789.specs.Data.{no_record}
use Rattle.st7789.specs.declared.Controller.{Controller}
use Rattle.st7789.specs.declared.St7789p3.{St7789p3}

-- "trace or warnings count above 128"
abbrev pub count_bad : ℕ → Bool
count_bad n = ltb places n

-- "a current trace record isn't the last used one, or its parameters differ from those in force"
abbrev pub current_bad : Option ℕ → Fixed TraceRecord → Params → Bool
current_bad None trace in_force = false
current_bad (Some i) trace in_force = not (eqb (i + 1) trace.count) || differ (get_or trace.places i no_record).params in_force

-- BAD_STATE, clause by clause in 01's order, then Q-5's. What is asked of the stored lists, the used records and the current record comes in.
abbrev pub clauses : Controller → Bool → Bool → Bool → List Bool
clauses k stored records current =
    -- "a window corner
    window_bad k.chip.window
    -- or pointer coordinate is above 319;
    ∷ pointer_bad k.chip.walk.pointer
    -- a parameter list (in force,
    ∷ too_long k.chip.decoder.params
    -- stored,
    ∷ stored
    -- or in a used trace record) is longer than 14;
    ∷ records
    -- trace
    ∷ count_bad k.logs.traced
    -- or warnings count above 128;
    ∷ count_bad k.logs.warned
    -- the dirty span has first above last, or last above 319;
    ∷ marks_bad k.marks
    -- a current trace record isn't the last used one, or its parameters differ from those in force"
    ∷ current
    -- 02, Q-5: "BAD_STATE also for a carry of two bytes outside 12 and 18 bits or with the mode off."
    ∷ carry_bad (format_in k.cfg.formats k.chip) k.chip.walk.carry
    ∷ []

-- The clauses of a panel.
abbrev pub clauses_of : St7789p3 → List Bool
clauses_of s =
    clauses s.controller (some stored_long s.stored) (some record_long (used (trace_of s)))
    (current_bad s.controller.logs.current (trace_of s) s.controller.chip.decoder.params)

-- A clause holds if it is true.
abbrev pub itself : Bool → Bool
itself b = b

-- BAD_STATE: some clause holds.
unfoldable pub bad_state : St7789p3 → Bool
bad_state s = some itself (clauses_of s)

-- "the current trace record's pixel bytes", 0 where none is current.
abbrev pub pixels_held : Option ℕ → List TraceRecord → ℕ
pixels_held None records = 0
pixels_held (Some i) records = (get_or records i no_record).pixel_bytes

-- What COUNT_HIGH looks at: "one of commands, ramwr_count, pixels_written, dropped_params, or the current trace record's pixel bytes",
-- which come in; and 02, Q-3: "COUNT_HIGH also looks at both", the inverted and the unmapped.
abbrev pub counted : Controller → ℕ → List ℕ
counted k held =
    k.counts.commands ∷ k.counts.ramwr_count ∷ k.counts.pixels_written ∷ k.counts.dropped_params ∷ k.counts.inverted
    ∷ k.counts.unmapped ∷ held ∷ []

-- The counts of a panel.
abbrev pub counts_of : St7789p3 → List ℕ
counts_of s = counted s.controller (pixels_held s.controller.logs.current s.records)

-- The refusal of a transfer.
unfoldable pub transfer_refusal : St7789p3 → ℕ → ℕ → ℕ
transfer_refusal s cells bytes = first (transfer_row (bad_state s) cells bytes (counts_of s))

-- The refusal of a transfer without memory.
unfoldable pub bare_refusal : St7789p3 → ℕ → ℕ
bare_refusal s bytes = first (bare_row (bad_state s) bytes (counts_of s))
