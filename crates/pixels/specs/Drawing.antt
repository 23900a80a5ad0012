-- Workshop: pixels on top of a run, with what waits behind them; the step of the byte engine goes by it.
use Rattle.std.specs.Prelude.{ℕ, List, length}
use Rattle.geometry.specs.declared.Site.{Site}
use Rattle.formats.specs.declared.Carry.{Carry}
use Rattle.pixels.specs.declared.Walked.{Walked}
use Rattle.pixels.specs.Run.{pointer_after, stores_of, marked, added, totals_of}

abbrev pub drawn_on : Site → Walked → List ℕ → Carry → Walked
drawn_on site r vs waiting =
    record {
      walk = record { pointer = pointer_after site.window r.walk.pointer (length vs); carry = waiting };
      totals = added r.totals (totals_of site r.walk.pointer vs);
      marks = marked r.marks (stores_of site r.walk.pointer vs);
    }
