-- Rules: where the pixels of a run go, and in which format they come, by the mode and the chip's registers; what data stores there, and how
-- many pixels went which way.
use Rattle.std.specs.Prelude.{ℕ, List, Bool}
use Rattle.formats.specs.Formats.{format_of}
use Rattle.formats.specs.declared.Format.{Format}
use Rattle.geometry.specs.declared.Site.{Site}
use Rattle.marks.specs.declared.Marks.{Marks}
use Rattle.pixels.specs.Run.{Store, stores, pixels_counted, totals, walked_on, unwalked}
use Rattle.pixels.specs.declared.Totals.{Totals}
use Rattle.pixels.specs.declared.Walked.{Walked}
use Rattle.chip.specs.declared.Chip.{Chip}

-- The format in force: 02, Q-5, by the mode, COLMOD and the second parameter of RAMCTRL, as they stand.
abbrev pub format_in : Bool → Chip → Format
format_in formats s = format_of formats s.registers.colmod s.registers.ramctrl1

-- The window, the present MADCTL, and that format.
abbrev pub site_of : Bool → Chip → Site
site_of formats s = record { window = s.window; madctl = s.registers.madctl; format = format_in formats s }

-- "Data in a run": what its pixels store,
abbrev pub chip_stores : Bool → Chip → List ℕ → List Store
chip_stores formats s bytes = stores (site_of formats s) s.walk bytes

-- how many of them are counted,
abbrev pub chip_counted : Bool → Chip → List ℕ → ℕ
chip_counted formats s bytes = pixels_counted (site_of formats s) s.walk bytes

-- how many are stored, inverted and unmapped,
abbrev pub chip_totals : Bool → Chip → List ℕ → Totals
chip_totals formats s bytes = totals (site_of formats s) s.walk bytes

-- and the walk, the totals and the marks that they leave.
abbrev pub chip_walked : Bool → Chip → Marks → List ℕ → Walked
chip_walked formats s marks bytes = walked_on (site_of formats s) (unwalked s.walk marks) bytes
