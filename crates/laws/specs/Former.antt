-- Rules: 02, Q-5, "with it off everything reads as now": what was before the other formats. Bytes to pixels, rule 3 and BAD_STATE as 01 has
-- them, and a transfer by them; whatever is not here is as it was.
use Rattle.std.specs.Prelude.{ℕ, ◌+◌, ◌*◌, ◌≡◌, Bool, false, cond, not, ◌&&◌, eqb, length, take}
use mathlib.Core.List.{List, [], ◌∷◌, map, foldl}
use Rattle.std.proofs.Math.Option.{Option, none, some}
use Rattle.formats.specs.Formats.{carry_bad}
use Rattle.formats.specs.declared.Format.TheVariants.{HighFirst}
use Rattle.formats.specs.declared.Carry.{Carry}
use Rattle.formats.specs.declared.Carry.TheVariants.{Empty, One, Two}
use Rattle.pixels.specs.Run.{counted, pointer_after, Store, stores_of, written, marked, no_totals, totals_of}
use Rattle.pixels.specs.declared.Totals.{Totals}
use Rattle.pixels.specs.declared.Walk.{Walk}
use Rattle.codes.specs.Codes.{kind_of, starts_run}
use Rattle.lists.specs.Fixed.{places, push_all}
use Rattle.lists.specs.Entries as entries
use Rattle.timing.specs.Lint.{breaks1, breaks2, breaks4, rules_of}
use Rattle.timing.specs.declared.Broken.{Broken}
use Rattle.chip.specs.Site.{site_of}
use Rattle.chip.specs.declared.Chip.{Chip}
use Rattle.status.specs.Numbers.{unless_refused}
use Rattle.status.specs.Tests.{first, transfer_row, bare_row}
use Rattle.st7789.specs.Parts.{warnings_of, with_chip, with_counts, with_marks, with_warnings}
use Rattle.st7789.specs.Command.{warning, after_lint, released}
use Rattle.st7789.specs.Data.{walked_chip, pixels_added, taken_for, on_current, record_data, stored_data}
use Rattle.st7789.specs.Refusals.{itself, clauses_of, counts_of}
use Rattle.st7789.specs.declared.PanelMemory.{PanelMemory}
use Rattle.st7789.specs.declared.PanelMemory.TheVariants.{Lent, Without}
use Rattle.st7789.specs.declared.Controller.{Controller}
use Rattle.st7789.specs.declared.St7789p3.{St7789p3}

-- A panel that was possible: the mode is off, and no two bytes wait.
pub record Former (s : St7789p3) : Type 0 where
  pub off : s.controller.cfg.formats ≡ false
  pub few : carry_bad HighFirst s.controller.chip.walk.carry ≡ false

-- "an odd byte waits as carry": it, if there is one, and back. Of two bytes, which did not wait, it is the later.
abbrev pub odd_byte : Carry → Option ℕ
odd_byte Empty = none
odd_byte (One a) = some a
odd_byte (Two a b) = some b

abbrev pub waiting_byte : Option ℕ → Carry
waiting_byte none = Empty
waiting_byte (some a) = One a

-- "pairs form pixels, high byte first, an odd byte waits as carry": the pixels of bytes after it, and what waits then.
abbrev pub former_pixels : Option ℕ → List ℕ → List ℕ
former_pixels waiting [] = []
former_pixels none (b ∷ bs) = former_pixels (some b) bs
former_pixels (some high) (b ∷ bs) = (high * 256 + b) ∷ former_pixels none bs

abbrev pub former_carry : Option ℕ → List ℕ → Option ℕ
former_carry waiting [] = waiting
former_carry none (b ∷ bs) = former_carry (some b) bs
former_carry (some high) (b ∷ bs) = former_carry none bs

-- The pixels of data in a run, what they store, their totals, and the walk after them. Where a pixel goes is not asked of the format.
abbrev pub former_drawn : Chip → List ℕ → List ℕ
former_drawn s bytes = former_pixels (odd_byte s.walk.carry) bytes

abbrev pub former_stores : Chip → List ℕ → List Store
former_stores s bytes = stores_of (site_of false s) s.walk.pointer (former_drawn s bytes)

abbrev pub former_totals : Chip → List ℕ → Totals
former_totals s bytes = totals_of (site_of false s) s.walk.pointer (former_drawn s bytes)

abbrev pub former_walk : Chip → List ℕ → Walk
former_walk s bytes =
    record {
      pointer = pointer_after s.window s.walk.pointer (length (former_drawn s bytes));
      carry = waiting_byte (former_carry (odd_byte s.walk.carry) bytes);
    }

-- "Data in a run:"
abbrev pub former_ran : List ℕ → Controller → Controller
former_ran bytes k =
    let a : Controller = with_chip (walked_chip (former_walk k.chip bytes) k.chip) k in
    let n : ℕ = counted k.chip.window (length (former_drawn k.chip bytes)) in
    let b : Controller = with_counts (pixels_added n (former_totals k.chip bytes) a.counts) a in
    with_marks (marked k.marks (former_stores k.chip bytes)) b

-- "with dc high the bytes are data"
abbrev pub former_data : List ℕ → St7789p3 → St7789p3
former_data bytes s =
    let k : Controller = s.controller in
    record {
      controller = cond k.chip.decoder.in_pixels (former_ran bytes k) (taken_for k.chip.decoder.cmd bytes k);
      stored = stored_data bytes k s.stored;
      records = on_current (record_data bytes k) k.logs.current s.records;
      warnings = s.warnings;
    }

-- "(3) 2C or 3C with COLMOD not 55." The other rules are as they are.
abbrev pub former_broken : ℕ → ℕ → Controller → Broken
former_broken c t k =
    record {
      rule1 = breaks1 k.chip.times (kind_of c) t;
      rule2 = breaks2 k.chip.times (kind_of c) t;
      rule3 = starts_run (kind_of c) && not (eqb k.chip.registers.colmod 0x55);
      rule4 = breaks4 k.cfg.strict k.chip.times t;
    }

-- "Beginning command c at time t, in this order: lint; .."
abbrev pub former_begun : ℕ → ℕ → St7789p3 → St7789p3
former_begun c t s =
    after_lint c t (with_warnings (push_all places (warnings_of s) (map (warning c t) (rules_of (former_broken c t s.controller)))) s)

-- "Transfer: with dc low, each byte begins a command; with dc high the bytes are data. CS release, if asked, comes last."
abbrev pub former_moved : ℕ → Bool → List ℕ → Bool → St7789p3 → St7789p3
former_moved t dc bytes cs s =
    let r : St7789p3 = cond dc (former_data bytes s) (foldl (λ s c. former_begun c t s) s bytes) in
    cond cs (released r) r

-- BAD_STATE: one of 01's clauses, which are the first nine.
abbrev pub former_bad : St7789p3 → Bool
former_bad s = entries.some itself (take 9 (clauses_of s))

-- The number of a transfer, with memory and without, the state after it, its totals, and what is lent.
abbrev pub former_refusal : PanelMemory → St7789p3 → ℕ → ℕ → ℕ
former_refusal Lent s cells bytes = first (transfer_row (former_bad s) cells bytes (counts_of s))
former_refusal Without s cells bytes = first (bare_row (former_bad s) bytes (counts_of s))

abbrev pub former_state : PanelMemory → ℕ → Bool → List ℕ → Bool → ℕ → St7789p3 → St7789p3
former_state memory t dc bytes cs cells s = unless_refused (former_refusal memory s cells (length bytes)) (former_moved t dc bytes cs s) s

abbrev pub former_answered : PanelMemory → Bool → List ℕ → ℕ → St7789p3 → Totals
former_answered memory dc bytes cells s =
    unless_refused (former_refusal memory s cells (length bytes))
    (cond (dc && s.controller.chip.decoder.in_pixels) (former_totals s.controller.chip bytes) no_totals) no_totals

abbrev pub former_memory : PanelMemory → Bool → List ℕ → List ℕ → St7789p3 → List ℕ
former_memory Lent dc bytes memory s =
    unless_refused (former_refusal Lent s (length memory) (length bytes))
    (written memory (cond (dc && s.controller.chip.decoder.in_pixels) (former_stores s.controller.chip bytes) [])) memory
former_memory Without dc bytes memory s = memory
