-- Rules: 01, "Commands" and "Lint", and 02, Q-14 and Q-5: beginning a command, and the CS release. What the controller becomes, and beside it what the lists
-- keep.
use Rattle.std.specs.Prelude.{ℕ, ◌+◌, cond, ltb, Some, None}
use mathlib.Core.List.{List, map, foldl}
use Rattle.codes.specs.Codes.{kind_of, command_of, is}
use Rattle.codes.specs.declared.Kind.{Kind}
use Rattle.codes.specs.declared.Kind.TheVariants.{Ramwr}
use Rattle.lists.specs.Fixed.{Fixed, places, push, push_all}
use Rattle.lists.specs.Params.{no_params}
use Rattle.lists.specs.declared.TraceRecord.{TraceRecord}
use Rattle.lists.specs.declared.Warning.{Warning}
use Rattle.timing.specs.Lint.{broken_by, rules_of}
use Rattle.timing.specs.declared.Broken.{Broken}
use Rattle.chip.specs.Begin.{in_force, effects, chip_released}
use Rattle.st7789.specs.Parts.{trace_of, warnings_of, with_controller, with_chip, with_counts, with_logs, with_warnings}
use Rattle.st7789.specs.declared.Counts.{Counts}
use Rattle.st7789.specs.declared.Logs.{Logs}
use Rattle.st7789.specs.declared.Controller.{Controller}
use Rattle.st7789.specs.declared.St7789p3.{St7789p3}

-- The warning that c broke a rule at time t.
abbrev pub warning : ℕ → ℕ → ℕ → Warning
warning c t rule = record { at = t; rule = rule; cmd = c }

-- What c breaks at time t, under the profile and the mode that the panel is made with.
abbrev pub broken_with : ℕ → ℕ → Controller → Broken
broken_with c t k = broken_by k.cfg.strict k.cfg.formats k.chip.times k.chip.registers.colmod (kind_of c) t

-- A warning for each rule that is broken, "In that order".
abbrev pub warnings_for : ℕ → ℕ → Controller → List Warning
warnings_for c t k = map (warning c t) (rules_of (broken_with c t k))

-- "lint": the warnings of c at time t, "kept while fewer than 128."
abbrev pub linted : ℕ → ℕ → St7789p3 → Fixed Warning
linted c t s = push_all places (warnings_of s) (warnings_for c t s.controller)

-- "commands + 1", and with 2C "ramwr_count + 1"
abbrev pub counts_begun : Kind → Counts → Counts
counts_begun k n =
    record {
      commands = n.commands + 1;
      ramwr_count = cond (is k Ramwr) (n.ramwr_count + 1) n.ramwr_count;
      pixels_written = n.pixels_written;
      dropped_params = n.dropped_params;
      inverted = n.inverted;
      unmapped = n.unmapped;
    }

-- The trace record of c, as it is at first.
abbrev pub begun_record : ℕ → ℕ → TraceRecord
begun_record c t = record { at = t; pixel_bytes = 0; params = no_params; cmd = c }

-- "Then a trace record if fewer than 128 are used, else none is current.": how many are used, and which is current.
abbrev pub logs_begun : Logs → Logs
logs_begun l =
    cond {A = Logs} (ltb l.traced places) (record { traced = l.traced + 1; warned = l.warned; current = Some l.traced })
    (record { traced = l.traced; warned = l.warned; current = None })

-- What follows the lint, of the controller.
abbrev pub controller_begun : ℕ → ℕ → Controller → Controller
controller_begun c t k =
    -- "commands + 1;", and with 2C "ramwr_count + 1."
    let a : Controller = with_counts (counts_begun (kind_of c) k.counts) k in
    -- "parameters emptied, not applied, c in force. 2C: .. 3C: .. Any other: run off, carry dropped."
    let b : Controller = with_chip (in_force (command_of c) a.chip) a in
    -- "Then a trace record if fewer than 128 are used, else none is current."
    let d : Controller = with_logs (logs_begun b.logs) b in
    -- "Then effects: 01 reset, .."
    with_chip (effects (kind_of c) t d.chip) d

-- The same of the panel: "commands + 1; .. Then a trace record .. Then effects"
abbrev pub after_lint : ℕ → ℕ → St7789p3 → St7789p3
after_lint c t s =
    record {
      controller = controller_begun c t s.controller;
      stored = s.stored;
      records = (push places (trace_of s) (begun_record c t)).places;
      warnings = s.warnings;
    }

-- "Beginning command c at time t, in this order: lint; commands + 1; .."
unfoldable pub begun : ℕ → ℕ → St7789p3 → St7789p3
begun c t s = after_lint c t (with_warnings (linted c t s) s)

-- "with dc low, each byte begins a command"
abbrev pub begun_all : ℕ → List ℕ → St7789p3 → St7789p3
begun_all t bytes s = foldl (λ s c. begun c t s) s bytes

-- "CS release: .. no current record."
abbrev pub logs_released : Logs → Logs
logs_released l = record { traced = l.traced; warned = l.warned; current = None }

-- "CS release: no command, .. no current record."
unfoldable pub controller_released : Controller → Controller
controller_released k =
    -- "no command, no parameters, no run, no carry,
    let a : Controller = with_chip (chip_released k.chip) k in
    -- no current record."
    with_logs (logs_released a.logs) a

-- The panel of it.
abbrev pub released : St7789p3 → St7789p3
released s = with_controller (controller_released s.controller) s
