-- Rules: 01, "The log and its program": what the program prints of a panel.
use Rattle.std.specs.Prelude.{ℕ, Bool, cond, List, [], ◌∷◌, ◌++◌, eqb, Option, Some, None}
use Rattle.geometry.specs.declared.Window.{Window}
use Rattle.geometry.specs.declared.Pointer.{Pointer}
use Rattle.marks.specs.Rows.{span_of}
use Rattle.lists.specs.Fixed.{used}
use Rattle.chip.specs.declared.Registers.{Registers}
use Rattle.st7789.specs.Parts.{trace_of, warnings_of}
use Rattle.st7789.specs.declared.Controller.{Controller}
use Rattle.st7789.specs.declared.Counts.{Counts}
use Rattle.st7789.specs.declared.St7789p3.{St7789p3}
use Rattle.boot.specs.Boot.{compared, step_of}
use Rattle.lines.specs.Lines.{ascii, texts, numbers, hex_bytes, newline, line}
use Rattle.listing.specs.Listing.{warning_line, trace_line}

-- A flag as a number.
abbrev pub flag : Bool → ℕ
flag b = cond b 1 0

-- "regs: sleeping, display on, inverted, then MADCTL, COLMOD, RAMCTRL in hex."
unfoldable pub regs_line : Registers → List ℕ
regs_line r =
    ascii "regs"
    ++ numbers (flag r.sleeping ∷ flag r.display_on ∷ flag r.inverted ∷ [])
    ++ hex_bytes (r.madctl ∷ r.colmod ∷ r.ramctrl0 ∷ r.ramctrl1 ∷ [])
    ++ newline

-- "win: xs xe ys ye x y."
unfoldable pub win_line : Window → Pointer → List ℕ
win_line w p = line (ascii "win") (w.xs ∷ w.xe ∷ w.ys ∷ w.ye ∷ p.x ∷ p.y ∷ [])

-- "cnt: commands, RAMWRs, pixels, dropped parameters, warnings kept."
unfoldable pub cnt_line : Counts → ℕ → List ℕ
cnt_line n warned =
    line (ascii "cnt") (n.commands ∷ n.ramwr_count ∷ n.pixels_written ∷ n.dropped_params ∷ warned ∷ [])

-- "dirty: first, last, or `none`."
unfoldable pub dirty_line : Option (ℕ × ℕ) → List ℕ
dirty_line None = line (ascii "dirty none") []
dirty_line (Some (first, last)) = line (ascii "dirty") (first ∷ last ∷ [])

-- "boot: step, or `ok`."
unfoldable pub boot_line : ℕ → List ℕ
boot_line step = cond (eqb step 0) (line (ascii "boot ok") []) (line (ascii "boot") (step ∷ []))

-- The lines of which there is one each.
unfoldable pub state_lines : Controller → ℕ → List ℕ
state_lines k step =
    regs_line k.chip.registers
    ++ win_line k.chip.window k.chip.walk.pointer
    ++ cnt_line k.counts k.logs.warned
    ++ dirty_line (span_of k.marks)
    ++ boot_line step

-- The lines in 01's order. "Warnings come before trace; order of arrival."
unfoldable pub report : St7789p3 → List ℕ
report s =
    state_lines s.controller (step_of (compared (used (trace_of s))).check)
    ++ texts warning_line (used (warnings_of s))
    ++ texts trace_line (used (trace_of s))
