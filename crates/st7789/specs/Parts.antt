-- Rules: the words in which the others are said: the panel's lists as fixed lists, and the panel or its controller with one part changed.
-- None stands for a sentence of 01.
use Rattle.marks.specs.declared.Marks.{Marks}
use Rattle.lists.specs.Fixed.{Fixed}
use Rattle.lists.specs.declared.TraceRecord.{TraceRecord}
use Rattle.lists.specs.declared.Warning.{Warning}
use Rattle.chip.specs.declared.Chip.{Chip}
use Rattle.board.specs.declared.PanelConfig.{PanelConfig}
use Rattle.board.specs.declared.Power.{Power}
use Rattle.st7789.specs.declared.Counts.{Counts}
use Rattle.st7789.specs.declared.Logs.{Logs}
use Rattle.st7789.specs.declared.Controller.{Controller}
use Rattle.st7789.specs.declared.St7789p3.{St7789p3}

-- The trace and the warnings: how many are used, and all places.
abbrev pub trace_of : St7789p3 → Fixed TraceRecord
trace_of s = record { count = s.controller.logs.traced; places = s.records }

abbrev pub warnings_of : St7789p3 → Fixed Warning
warnings_of s = record { count = s.controller.logs.warned; places = s.warnings }

-- The panel with another controller, its lists as they are.
abbrev pub with_controller : Controller → St7789p3 → St7789p3
with_controller k s = record { controller = k; stored = s.stored; records = s.records; warnings = s.warnings }

-- The controller of its parts.
abbrev pub whole : PanelConfig → Power → Chip → Counts → Marks → Logs → Controller
whole cfg power chip counts marks logs =
    record { cfg = cfg; power = power; chip = chip; counts = counts; marks = marks; logs = logs }

-- The controller with one part put anew, each named after the part.
abbrev pub with_cfg : PanelConfig → Controller → Controller
with_cfg v k = whole v k.power k.chip k.counts k.marks k.logs

abbrev pub with_power : Power → Controller → Controller
with_power v k = whole k.cfg v k.chip k.counts k.marks k.logs

abbrev pub with_chip : Chip → Controller → Controller
with_chip v k = whole k.cfg k.power v k.counts k.marks k.logs

abbrev pub with_counts : Counts → Controller → Controller
with_counts v k = whole k.cfg k.power k.chip v k.marks k.logs

abbrev pub with_marks : Marks → Controller → Controller
with_marks v k = whole k.cfg k.power k.chip k.counts v k.logs

abbrev pub with_logs : Logs → Controller → Controller
with_logs v k = whole k.cfg k.power k.chip k.counts k.marks v

-- The panel with other warnings.
abbrev pub with_warnings : Fixed Warning → St7789p3 → St7789p3
with_warnings f s =
    let k = s.controller in
    record {
      controller = with_logs (record { traced = k.logs.traced; warned = f.count; current = k.logs.current }) k;
      stored = s.stored;
      records = s.records;
      warnings = f.places;
    }
