-- Rules: 01, "Commands", on data, and 02, Q-3 and Q-5: in a run, for a command, or lost. What the controller becomes, and beside it what the
-- lists keep, what is stored, and how many pixels went which way.
use Rattle.std.specs.Prelude.{ℕ, ◌+◌, Bool, true, cond, ◌&&◌, List, [], length, set, get_or, Option, Some, None}
use Rattle.pixels.specs.Run.{Store, no_totals}
use Rattle.pixels.specs.declared.Totals.{Totals}
use Rattle.pixels.specs.declared.Walk.{Walk}
use Rattle.pixels.specs.declared.Walked.{Walked}
use Rattle.codes.specs.Codes.{kind_of, command_of, is_stored, place_of}
use Rattle.lists.specs.Params.{filled, excess}
use Rattle.lists.specs.declared.Params.{Params}
use Rattle.lists.specs.declared.Stored.{Stored}
use Rattle.lists.specs.declared.TraceRecord.{TraceRecord}
use Rattle.chip.specs.Apply.{chip_filled, applied_if_due}
use Rattle.chip.specs.Site.{chip_stores, chip_counted, chip_totals, chip_walked}
use Rattle.chip.specs.declared.Chip.{Chip}
use Rattle.st7789.specs.Parts.{with_chip, with_counts, with_marks}
use Rattle.st7789.specs.declared.Counts.{Counts}
use Rattle.st7789.specs.declared.Controller.{Controller}
use Rattle.st7789.specs.declared.St7789p3.{St7789p3}

-- What the language reads past the end of the trace's places.
abbrev pub no_record : TraceRecord
no_record = record { at = 0; pixel_bytes = 0; params = record { bytes = []; count = 0 }; cmd = 0 }

-- The current record changed, if there is one.
abbrev pub on_current : (TraceRecord → TraceRecord) → Option ℕ → List TraceRecord → List TraceRecord
on_current f None records = records
on_current f (Some i) records = set records i (f (get_or records i no_record))

-- "the current record's pixel bytes grow by the length"
abbrev pub more_pixels : ℕ → TraceRecord → TraceRecord
more_pixels n r = record { at = r.at; pixel_bytes = r.pixel_bytes + n; params = r.params; cmd = r.cmd }

-- "the current record gets the taken ones"
abbrev pub more_params : List ℕ → TraceRecord → TraceRecord
more_params bytes r = record { at = r.at; pixel_bytes = r.pixel_bytes; params = filled r.params bytes; cmd = r.cmd }

-- The walk of a data segment over the controller's window.
abbrev pub walk_over : Controller → List ℕ → Walked
walk_over k bytes = chip_walked k.cfg.formats k.chip k.marks bytes

-- The chip with the walk put anew.
abbrev pub walked_chip : Walk → Chip → Chip
walked_chip k s = record { registers = s.registers; window = s.window; walk = k; decoder = s.decoder; times = s.times }

-- "pixels_written + 1", n times; and 02, Q-3, of "Two new counts, inverted and unmapped" each by its total.
abbrev pub pixels_added : ℕ → Totals → Counts → Counts
pixels_added n t k =
    record {
      commands = k.commands;
      ramwr_count = k.ramwr_count;
      pixels_written = k.pixels_written + n;
      dropped_params = k.dropped_params;
      inverted = k.inverted + t.inverted;
      unmapped = k.unmapped + t.unmapped;
    }

-- "the rest counted as dropped": n of them.
abbrev pub dropped_added : ℕ → Counts → Counts
dropped_added n k =
    record {
      commands = k.commands;
      ramwr_count = k.ramwr_count;
      pixels_written = k.pixels_written;
      dropped_params = k.dropped_params + n;
      inverted = k.inverted;
      unmapped = k.unmapped;
    }

-- "Data in a run:"
unfoldable pub ran : List ℕ → Controller → Controller
ran bytes k =
    -- "pairs form pixels, high byte first, an odd byte waits as carry."; 02, Q-5: in the format in force
    let w : Walked = walk_over k bytes in
    let a : Controller = with_chip (walked_chip w.walk k.chip) k in
    -- "Stored or not, pixels_written + 1"; and by cause those that vanish
    let b : Controller = with_counts (pixels_added (chip_counted k.cfg.formats k.chip bytes) (chip_totals k.cfg.formats k.chip bytes) a.counts) a in
    -- "a stored pixel widens the dirty span by its row"
    with_marks w.marks b

-- "Data with a command and no run:"
unfoldable pub taken : ℕ → List ℕ → Controller → Controller
taken c bytes k =
    -- "bytes fill up to 14,
    let a : Controller = with_chip (chip_filled bytes k.chip) k in
    -- the rest counted as dropped; ..
    let b : Controller = with_counts (dropped_added (excess k.chip.decoder.params (length bytes)) a.counts) a in
    -- then the command applies."
    with_chip (applied_if_due (command_of c) b.chip) b

-- "With no run and no command in force data is lost and uncounted."
abbrev pub taken_for : Option ℕ → List ℕ → Controller → Controller
taken_for None bytes k = k
taken_for (Some c) bytes k = taken c bytes k

-- "Data in a run", or "Data with a command and no run": the controller.
abbrev pub controller_data : List ℕ → Controller → Controller
controller_data bytes k = cond k.chip.decoder.in_pixels (ran bytes k) (taken_for k.chip.decoder.cmd bytes k)

-- The current record of a segment without a run: lost where no command is in force.
abbrev pub listed_for : Option ℕ → List ℕ → TraceRecord → TraceRecord
listed_for None bytes r = r
listed_for (Some c) bytes r = more_params bytes r

-- "Data in a run", or "Data with a command and no run": the current record.
abbrev pub record_data : List ℕ → Controller → TraceRecord → TraceRecord
record_data bytes k r =
    cond k.chip.decoder.in_pixels (more_pixels (length bytes) r) (listed_for k.chip.decoder.cmd bytes r)

-- "A stored command stores its list on every data segment, an empty one too, so the last wins."
abbrev pub stored_for : Option ℕ → Params → List Stored → List Stored
stored_for None p l = l
stored_for (Some c) p l = cond (is_stored (kind_of c)) (set l (place_of (kind_of c)) (record { present = true; params = p })) l

-- "Data in a run", or "Data with a command and no run": the stored lists.
abbrev pub stored_data : List ℕ → Controller → List Stored → List Stored
stored_data bytes k l =
    cond k.chip.decoder.in_pixels l (stored_for k.chip.decoder.cmd (filled k.chip.decoder.params bytes) l)

-- "with dc high the bytes are data"
unfoldable pub data_in : List ℕ → St7789p3 → St7789p3
data_in bytes s =
    record {
      controller = controller_data bytes s.controller;
      stored = stored_data bytes s.controller s.stored;
      records = on_current (record_data bytes s.controller) s.controller.logs.current s.records;
      warnings = s.warnings;
    }

-- What a segment stores: only data in a run does.
abbrev pub stores_in : Bool → List ℕ → Controller → List Store
stores_in dc bytes k =
    cond (dc && k.chip.decoder.in_pixels) (chip_stores k.cfg.formats k.chip bytes) []

-- 02, Q-3: "a transfer shall answer its own three totals": only data in a run has pixels.
abbrev pub totals_in : Bool → List ℕ → Controller → Totals
totals_in dc bytes k = cond (dc && k.chip.decoder.in_pixels) (chip_totals k.cfg.formats k.chip bytes) no_totals
