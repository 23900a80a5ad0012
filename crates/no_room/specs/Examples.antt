-- Examples: 01's worked examples as rows of one table: the transfers made on a fresh panel, and a test of what they leave; of dimming, a
-- test of what it answers. Those of Q-14 as rows of another, each under both profiles, those of Q-3 as rows of a third, and those of Q-5 as
-- rows of a fourth.
use Rattle.std.specs.Prelude.{ℕ, ◌+◌, ◌*◌, Bool, true, false, not, ◌&&◌, get_or, take, replicate, eqb, Option, Some, None}
use mathlib.Core.List.{List, [], ◌∷◌, ◌++◌, foldl, map}
use Rattle.pixels.specs.declared.Totals.{Totals}
use Rattle.formats.specs.declared.Carry.{Carry}
use Rattle.formats.specs.declared.Carry.TheVariants.{Empty, One, Two}
use Rattle.marks.specs.Rows.{span_of}
use Rattle.lists.specs.Fixed.{used}
use Rattle.lists.specs.Params.{listed, same_numbers}
use Rattle.lists.specs.declared.Stored.{Stored}
use Rattle.sequence.specs.Sequence.{boot_sequence}
use Rattle.boot.specs.Boot.{compared, step_of}
use Rattle.sequence.specs.declared.BootStep.{BootStep}
use Rattle.st7789.specs.Parts.{trace_of}
use Rattle.st7789.specs.Entries.{transferred, transfer_totals}
use Rattle.st7789.specs.declared.St7789p3.{St7789p3}
use Rattle.no_room.specs.Panels.{Call, Panel, fresh_under, fresh, after}
use Rattle.no_room.specs.Kept.{Dim}

-- A row of the table.
pub record Row : Type 0 where
  pub calls : List Call
  pub passes : Panel → Bool

-- The rows all pass from a panel on, for a way to make a call.
abbrev pub all_pass : Panel → (Panel → Call → Panel) → List Row → Bool
all_pass p make [] = true
all_pass p make (row ∷ rest) = row.passes (foldl make p row.calls) && all_pass p make rest

-- A segment of commands, at a time in nanoseconds.
abbrev pub commands_at : ℕ → List ℕ → Call
commands_at t bytes = record { time = t; dc = false; bytes = bytes; release = false }

-- One command, at time 0.
abbrev pub command : ℕ → Call
command c = commands_at 0 (c ∷ [])

-- A segment of data.
abbrev pub segment : List ℕ → Call
segment bytes = record { time = 0; dc = true; bytes = bytes; release = false }

-- The same, with CS released after it.
abbrev pub last_segment : List ℕ → Call
last_segment bytes = record { time = 0; dc = true; bytes = bytes; release = true }

-- Milliseconds in nanoseconds.
abbrev pub ms : ℕ → ℕ
ms n = n * 1000000

-- Memory has this number at this index.
abbrev pub holds : ℕ → ℕ → Panel → Bool
holds index value p = eqb (get_or p.memory index 0) value

-- Memory is as it was.
abbrev pub nothing_stored : Panel → Bool
nothing_stored p = same_numbers p.memory fresh.memory

-- The pointer stands here.
abbrev pub pointer : ℕ → ℕ → Panel → Bool
pointer x y p = eqb p.state.controller.chip.walk.pointer.x x && eqb p.state.controller.chip.walk.pointer.y y

-- So many pixels are counted.
abbrev pub pixels : ℕ → Panel → Bool
pixels n p = eqb p.state.controller.counts.pixels_written n

-- A span is these rows.
abbrev pub is_rows : ℕ → ℕ → Option (ℕ × ℕ) → Bool
is_rows first last None = false
is_rows first last (Some (a, b)) = eqb a first && eqb b last

-- The rows to publish are these.
abbrev pub span : ℕ → ℕ → Panel → Bool
span first last p = is_rows first last (span_of p.state.controller.marks)

-- The bytes of a carry, in their order.
abbrev pub bytes_of : Carry → List ℕ
bytes_of Empty = []
bytes_of (One a) = a ∷ []
bytes_of (Two a b) = a ∷ b ∷ []

-- These bytes wait.
abbrev pub carry : List ℕ → Panel → Bool
carry bytes p = same_numbers (bytes_of p.state.controller.chip.walk.carry) bytes

-- The window has these columns.
abbrev pub columns : ℕ → ℕ → Panel → Bool
columns xs xe p = eqb p.state.controller.chip.window.xs xs && eqb p.state.controller.chip.window.xe xe

-- A stored command's place among the twelve.
abbrev pub place : ℕ → Panel → Stored
place i p = get_or p.state.stored i (record { present = false; params = record { bytes = []; count = 0 } })

-- This list is stored there.
abbrev pub stored : ℕ → List ℕ → Panel → Bool
stored i bytes p = (place i p).present && same_numbers (listed (place i p).params) bytes

-- So many parameters are dropped.
abbrev pub dropped : ℕ → Panel → Bool
dropped n p = eqb p.state.controller.counts.dropped_params n

-- The rules of the warnings kept, in order.
abbrev pub warns : List ℕ → Panel → Bool
warns rules p = same_numbers (map (λ w. w.rule) (take p.state.controller.logs.warned p.state.warnings)) rules

-- The times of the warnings kept, in order.
abbrev pub warns_at : List ℕ → Panel → Bool
warns_at times p = same_numbers (map (λ w. w.at) (take p.state.controller.logs.warned p.state.warnings)) times

-- No record is current.
abbrev pub is_none : Option ℕ → Bool
is_none None = true
is_none (Some i) = false

-- The parameters of a boot row as a segment, where it has any.
abbrev pub data_of : List ℕ → List Call
data_of [] = []
data_of (b ∷ bs) = segment (b ∷ bs) ∷ []

-- The boot rows as calls, each row at the delays of those before it, in milliseconds.
abbrev pub sent_from : ℕ → List BootStep → List Call
sent_from at [] = []
sent_from at (s ∷ steps) = commands_at (ms at) (s.cmd ∷ []) ∷ (data_of (listed s.params) ++ sent_from (at + s.delay_ms_after) steps)

-- A row of Q-14's table: the transfers, and the rules that are warned of under strict and under plain.
pub record Timed : Type 0 where
  pub calls : List Call
  pub strict : List ℕ
  pub plain : List ℕ

-- The rows all warn so, for a way to make a call.
abbrev pub all_warn : (Panel → Call → Panel) → List Timed → Bool
all_warn make [] = true
all_warn make (row ∷ rest) =
    warns row.strict (foldl make (fresh_under true) row.calls) && warns row.plain (foldl make (fresh_under false) row.calls)
    && all_warn make rest

-- Q-14: "lint rule 4: any command less than 5 ms after a SWRESET, after the other rules in order."
unfoldable pub timed : List Timed
timed =
    -- 01 at 0, 11 a nanosecond before 5 ms, and at 5 ms
    record { calls = command 0x01 ∷ commands_at 4999999 (0x11 ∷ []) ∷ []; strict = 2 ∷ 4 ∷ []; plain = 2 ∷ [] }
    ∷ record { calls = command 0x01 ∷ commands_at 5000000 (0x11 ∷ []) ∷ []; strict = 2 ∷ []; plain = 2 ∷ [] }
    -- 01 01 in one segment: the second is 0 ns after the first, the first after none
    ∷ record { calls = commands_at 0 (0x01 ∷ 0x01 ∷ []) ∷ []; strict = 4 ∷ []; plain = [] }
    -- 01, then 2C at 1 ms with COLMOD 66
    ∷ record { calls = command 0x01 ∷ commands_at (ms 1) (0x2C ∷ []) ∷ []; strict = 3 ∷ 4 ∷ []; plain = 3 ∷ [] }
    -- three rules at once: 11, 01, then 2C, or 10
    ∷ record { calls = commands_at (ms 200) (0x11 ∷ []) ∷ commands_at (ms 201) (0x01 ∷ 0x2C ∷ []) ∷ []; strict = 1 ∷ 1 ∷ 3 ∷ 4 ∷ []; plain = 1 ∷ 1 ∷ 3 ∷ [] }
    ∷ record {
      calls = commands_at (ms 200) (0x11 ∷ []) ∷ commands_at (ms 201) (0x01 ∷ 0x10 ∷ []) ∷ [];
      strict = 1 ∷ 1 ∷ 2 ∷ 4 ∷ [];
      plain = 1 ∷ 1 ∷ 2 ∷ [];
    }
    -- the 01 itself is judged by the reset before it, and what follows by it
    ∷ record {
      calls = command 0x01 ∷ commands_at (ms 5) (0x01 ∷ []) ∷ commands_at (ms 9) (0x00 ∷ []) ∷ commands_at (ms 10) (0x00 ∷ []) ∷ [];
      strict = 4 ∷ [];
      plain = [];
    }
    -- "Elapsed time is 0 if the clock went back."
    ∷ record { calls = commands_at (ms 100) (0x01 ∷ []) ∷ command 0x00 ∷ []; strict = 4 ∷ []; plain = [] }
    -- a CS release doesn't end it, nor does a sleep-in begin it
    ∷ record {
      calls = record { time = 0; dc = false; bytes = 0x01 ∷ []; release = true } ∷ commands_at (ms 1) (0x00 ∷ []) ∷ [];
      strict = 4 ∷ [];
      plain = [];
    }
    ∷ record { calls = command 0x10 ∷ commands_at (ms 1) (0x00 ∷ []) ∷ []; strict = []; plain = [] }
    -- a list full of rule 4 has no place for rule 3
    ∷ record { calls = commands_at 0 (replicate 129 0x01) ∷ command 0x2C ∷ []; strict = replicate 128 4; plain = 3 ∷ [] }
    -- the boot rows at their delays: 20 ms after 01, and so as under plain
    ∷ record { calls = sent_from 0 boot_sequence; strict = 2 ∷ []; plain = 2 ∷ [] }
    ∷ []

-- A row of Q-3's table: the transfers, and the totals that each of them answers.
pub record Totalled : Type 0 where
  pub calls : List Call
  pub answers : List Totals

-- Totals by their numbers.
abbrev pub outcomes : ℕ → ℕ → ℕ → Totals
outcomes stored inverted unmapped = record { stored = stored; inverted = inverted; unmapped = unmapped }

-- What calls answer in turn, for a way to make one and for what it answers.
abbrev pub answers_by : (Panel → Call → Panel) → (Panel → Call → Totals) → Panel → List Call → List Totals
answers_by make told p [] = []
answers_by make told p (c ∷ calls) = told p c ∷ answers_by make told (make p c) calls

-- The same by the state alone, over memory of the right length.
abbrev pub answers_from : St7789p3 → List Call → List Totals
answers_from s [] = []
answers_from s (c ∷ calls) =
    transfer_totals c.dc c.bytes 76800 s ∷ answers_from (transferred c.time c.dc c.bytes c.release 76800 s) calls

-- Q-3: "Each pixel's outcome shall be named stored, inverted or unmapped, the run shall add them up, and a transfer shall answer its own
-- three totals"
unfoldable pub totalled : List Totalled
totalled =
    -- P3, an inverted window: one inverted; its commands and their parameters answer none
    record {
      calls = command 0x2A ∷ segment (0x00 ∷ 0x05 ∷ 0x00 ∷ 0x04 ∷ []) ∷ command 0x2C ∷ segment (0xF8 ∷ 0x00 ∷ []) ∷ [];
      answers = outcomes 0 0 0 ∷ outcomes 0 0 0 ∷ outcomes 0 0 0 ∷ outcomes 0 1 0 ∷ [];
    }
    -- P7, rows past the panel's: one unmapped
    ∷ record {
      calls =
          command 0x2B
          ∷ segment (0x00 ∷ 0xF0 ∷ 0x01 ∷ 0x3F ∷ [])
          ∷ command 0x36
          ∷ segment (0x20 ∷ [])
          ∷ command 0x2C
          ∷ segment (0xF8 ∷ 0x00 ∷ [])
          ∷ [];
      answers = replicate 5 (outcomes 0 0 0) ++ (outcomes 0 0 1 ∷ []);
    }
    -- a pixel cut over two transfers: none, then one stored
    ∷ record {
      calls = command 0x2C ∷ segment (0xF8 ∷ []) ∷ segment (0x00 ∷ []) ∷ [];
      answers = outcomes 0 0 0 ∷ outcomes 0 0 0 ∷ outcomes 1 0 0 ∷ [];
    }
    -- data outside a run, and after a CS release
    ∷ record {
      calls = segment (0xF8 ∷ 0x00 ∷ []) ∷ command 0x2C ∷ last_segment (0xF8 ∷ 0x00 ∷ []) ∷ segment (0xF8 ∷ 0x00 ∷ []) ∷ [];
      answers = outcomes 0 0 0 ∷ outcomes 0 0 0 ∷ outcomes 1 0 0 ∷ outcomes 0 0 0 ∷ [];
    }
    -- the full window under MV, 320 by 240, and then MV off: of a row of 320 pixels 240 map
    ∷ record {
      calls = command 0x36 ∷ segment (0x20 ∷ []) ∷ command 0x01 ∷ command 0x36 ∷ segment (0x00 ∷ []) ∷ command 0x2C ∷ segment (replicate 640 0xF8) ∷ [];
      answers = replicate 6 (outcomes 0 0 0) ++ (outcomes 240 0 80 ∷ []);
    }
    -- its right half, columns 160 to 319, set under MV: half of it maps
    ∷ record {
      calls =
          command 0x36
          ∷ segment (0x20 ∷ [])
          ∷ command 0x2A
          ∷ segment (0x00 ∷ 0xA0 ∷ 0x01 ∷ 0x3F ∷ [])
          ∷ command 0x36
          ∷ segment (0x00 ∷ [])
          ∷ command 0x2C
          ∷ segment (replicate 640 0xF8)
          ∷ [];
      answers = replicate 7 (outcomes 0 0 0) ++ (outcomes 160 0 160 ∷ []);
    }
    ∷ []

-- One command with its parameters.
abbrev pub sent : ℕ → List ℕ → List Call
sent c bytes = command c ∷ segment bytes ∷ []

-- The segments of a run, one after the other.
abbrev pub drawn : List (List ℕ) → List Call
drawn segments = command 0x2C ∷ map segment segments

-- Q-5, on a panel whose mode is on. A fresh COLMOD, 66, names 18 bits.
unfoldable pub formatted : List Row
formatted =
    -- "18-bit takes three bytes, the upper six bits of each; red and blue lose their lowest bit."
    record { calls = drawn ((0xFC ∷ 0x00 ∷ 0x00 ∷ []) ∷ []); passes = λ p. holds 0 0xF800 p && pointer 1 0 p && carry [] p }
    ∷ record { calls = drawn ((0x00 ∷ 0xFC ∷ 0x00 ∷ []) ∷ []); passes = holds 0 0x07E0 }
    -- the lowest bit of red, and the two that no format takes
    ∷ record { calls = drawn ((0x07 ∷ 0x03 ∷ 0x07 ∷ []) ∷ []); passes = λ p. nothing_stored p && pixels 1 p }
    -- cut after each byte
    ∷ record {
      calls = drawn ((0xFC ∷ []) ∷ (0x00 ∷ []) ∷ (0x00 ∷ []) ∷ []);
      passes = λ p. holds 0 0xF800 p && pixels 1 p;
    }
    ∷ record { calls = drawn ((0xFC ∷ []) ∷ (0x00 ∷ []) ∷ []); passes = λ p. nothing_stored p && carry (0xFC ∷ 0x00 ∷ []) p }
    -- "12-bit takes three bytes for two pixels, each stored when its last bit arrives": at the second byte, and at the third
    ∷ record {
      calls = sent 0x3A (0x03 ∷ []) ++ drawn ((0xF0 ∷ 0x00 ∷ []) ∷ []);
      passes = λ p. holds 0 0xF800 p && pixels 1 p && carry (0xF0 ∷ 0x00 ∷ []) p;
    }
    ∷ record {
      calls = sent 0x3A (0x03 ∷ []) ++ drawn ((0xF0 ∷ 0x00 ∷ 0xF0 ∷ []) ∷ []);
      passes = λ p. holds 0 0xF800 p && holds 1 0x07E0 p && pointer 2 0 p && carry [] p;
    }
    -- cut after each byte
    ∷ record {
      calls = sent 0x3A (0x03 ∷ []) ++ drawn ((0xF0 ∷ []) ∷ (0x00 ∷ []) ∷ (0xF0 ∷ []) ∷ []);
      passes = λ p. holds 0 0xF800 p && holds 1 0x07E0 p;
    }
    -- "widened by repeating top bits": 1 to 2 and 4, 8 to 17 and 34
    ∷ record {
      calls = sent 0x3A (0x03 ∷ []) ++ drawn ((0x11 ∷ 0x18 ∷ 0x88 ∷ []) ∷ []);
      passes = λ p. holds 0 0x1082 p && holds 1 0x8C51 p;
    }
    -- 3C with one and with two bytes waiting goes on; 2C drops them
    ∷ record {
      calls = drawn ((0xFC ∷ []) ∷ []) ++ (command 0x3C ∷ segment (0x00 ∷ 0x00 ∷ []) ∷ []);
      passes = holds 0 0xF800;
    }
    ∷ record {
      calls = drawn ((0xFC ∷ 0x00 ∷ []) ∷ []) ++ (command 0x3C ∷ segment (0x00 ∷ []) ∷ []);
      passes = holds 0 0xF800;
    }
    ∷ record {
      calls = drawn ((0xFC ∷ 0x00 ∷ []) ∷ []) ++ drawn ((0x00 ∷ []) ∷ []);
      passes = λ p. nothing_stored p && carry (0x00 ∷ []) p;
    }
    -- "In 16-bit, RAMCTRL's ENDIAN bit (08 of the second parameter) turns the byte order.": of the second, and not of the first
    ∷ record {
      calls = sent 0x3A (0x55 ∷ []) ++ (sent 0xB0 (0x00 ∷ 0x08 ∷ []) ++ drawn ((0x00 ∷ 0xF8 ∷ []) ∷ []));
      passes = λ p. holds 0 0xF800 p && warns [] p;
    }
    ∷ record {
      calls = sent 0x3A (0x55 ∷ []) ++ (sent 0xB0 (0x08 ∷ 0xF7 ∷ []) ++ drawn ((0xF8 ∷ 0x00 ∷ []) ∷ []));
      passes = holds 0 0xF800;
    }
    -- "others as 16-bit", and "lint rule 3 fires only for the others"
    ∷ record {
      calls = sent 0x3A (0x07 ∷ []) ++ drawn ((0xF8 ∷ 0x00 ∷ []) ∷ []);
      passes = λ p. holds 0 0xF800 p && warns (3 ∷ []) p;
    }
    ∷ record { calls = drawn [] ++ (sent 0x3A (0x03 ∷ []) ++ drawn []); passes = warns [] }
    -- "kept by every reset": SWRESET leaves COLMOD too
    ∷ record {
      calls = command 0x01 ∷ drawn ((0xFC ∷ 0x00 ∷ 0x00 ∷ []) ∷ []);
      passes = holds 0 0xF800;
    }
    ∷ []

-- A fresh panel in a run over its full window: a full flush is 153,600 bytes from here on.
abbrev pub flushing : Panel
flushing = after fresh (command 0x2C)

-- The table, for a way to dim.
unfoldable pub rows : Dim → List Row
rows dim =
    -- P1: 2C, data F8 00 07 E0: indexes 0 and 1 hold F800, 07E0; pointer (2,0)
    record {
      calls = command 0x2C ∷ segment (0xF8 ∷ 0x00 ∷ 0x07 ∷ 0xE0 ∷ []) ∷ [];
      passes = λ p. holds 0 0xF800 p && holds 1 0x07E0 p && pointer 2 0 p;
    }
    -- P2: cut as F8, 00 07, E0: same
    ∷ record {
      calls = command 0x2C ∷ segment (0xF8 ∷ []) ∷ segment (0x00 ∷ 0x07 ∷ []) ∷ segment (0xE0 ∷ []) ∷ [];
      passes = λ p. holds 0 0xF800 p && holds 1 0x07E0 p && pointer 2 0 p;
    }
    -- P3: 2A 00 05 00 04, 2C, one pixel: none counted, pointer (5,0)
    ∷ record {
      calls = command 0x2A ∷ segment (0x00 ∷ 0x05 ∷ 0x00 ∷ 0x04 ∷ []) ∷ command 0x2C ∷ segment (0xF8 ∷ 0x00 ∷ []) ∷ [];
      passes = λ p. nothing_stored p && pixels 0 p && pointer 5 0 p;
    }
    -- P4: 2A 01 00 FF FF: 239, 239; sent with 36 20 before it: 256, 319
    ∷ record {
      calls = command 0x2A ∷ segment (0x01 ∷ 0x00 ∷ 0xFF ∷ 0xFF ∷ []) ∷ [];
      passes = columns 239 239;
    }
    ∷ record {
      calls = command 0x36 ∷ segment (0x20 ∷ []) ∷ command 0x2A ∷ segment (0x01 ∷ 0x00 ∷ 0xFF ∷ 0xFF ∷ []) ∷ [];
      passes = columns 256 319;
    }
    -- P5: E0 with 15 bytes: 14 stored, 1 dropped
    ∷ record {
      calls = command 0xE0 ∷ segment (1 ∷ 2 ∷ 3 ∷ 4 ∷ 5 ∷ 6 ∷ 7 ∷ 8 ∷ 9 ∷ 10 ∷ 11 ∷ 12 ∷ 13 ∷ 14 ∷ 15 ∷ []) ∷ [];
      passes = λ p. stored 10 (1 ∷ 2 ∷ 3 ∷ 4 ∷ 5 ∷ 6 ∷ 7 ∷ 8 ∷ 9 ∷ 10 ∷ 11 ∷ 12 ∷ 13 ∷ 14 ∷ []) p && dropped 1 p;
    }
    -- P6: B2 with an empty segment: an empty list is stored; with no segment, none
    ∷ record { calls = command 0xB2 ∷ segment [] ∷ []; passes = stored 0 [] }
    ∷ record { calls = command 0xB2 ∷ []; passes = λ p. not (place 0 p).present }
    -- P7: 2B 00 F0 01 3F, 36 20, 2C, one pixel: nothing stored, 1 counted, pointer (1,240)
    ∷ record {
      calls =
          command 0x2B
          ∷ segment (0x00 ∷ 0xF0 ∷ 0x01 ∷ 0x3F ∷ [])
          ∷ command 0x36
          ∷ segment (0x20 ∷ [])
          ∷ command 0x2C
          ∷ segment (0xF8 ∷ 0x00 ∷ [])
          ∷ [];
      passes = λ p. nothing_stored p && pixels 1 p && pointer 1 240 p;
    }
    -- P8: 36 C0, 2C, F8 00: index 76,799, span 319 to 319
    ∷ record {
      calls = command 0x36 ∷ segment (0xC0 ∷ []) ∷ command 0x2C ∷ segment (0xF8 ∷ 0x00 ∷ []) ∷ [];
      passes = λ p. holds 76799 0xF800 p && span 319 319 p;
    }
    -- P9: 11 at 200 ms: 00 at 205 ms no warning, one nanosecond earlier rule 1, at 199 ms rule 1; 10 at 320 ms none
    ∷ record { calls = commands_at (ms 200) (0x11 ∷ []) ∷ commands_at (ms 205) (0x00 ∷ []) ∷ []; passes = warns [] }
    ∷ record { calls = commands_at (ms 200) (0x11 ∷ []) ∷ commands_at (ms 204 + 999999) (0x00 ∷ []) ∷ []; passes = warns (1 ∷ []) }
    ∷ record { calls = commands_at (ms 200) (0x11 ∷ []) ∷ commands_at (ms 199) (0x00 ∷ []) ∷ []; passes = warns (1 ∷ []) }
    ∷ record { calls = commands_at (ms 200) (0x11 ∷ []) ∷ commands_at (ms 320) (0x10 ∷ []) ∷ []; passes = warns [] }
    -- P10: after that 11, 10 at 203 ms: rules 1 and 2
    ∷ record { calls = commands_at (ms 200) (0x11 ∷ []) ∷ commands_at (ms 203) (0x10 ∷ []) ∷ []; passes = warns (1 ∷ 2 ∷ []) }
    -- P11: FFFF dimmed 1/2: 7BEF; 2/1, as Q-1 has it: FFFF
    ∷ record { calls = []; passes = λ p. eqb (dim 0xFFFF 1 2) 0x7BEF }
    ∷ record { calls = []; passes = λ p. eqb (dim 0xFFFF 2 1) 0xFFFF }
    -- P12: 2C, F8, 3C, 00: F800 stored; with CS released before 3C: nothing, carry 00
    ∷ record {
      calls = command 0x2C ∷ segment (0xF8 ∷ []) ∷ command 0x3C ∷ segment (0x00 ∷ []) ∷ [];
      passes = holds 0 0xF800;
    }
    ∷ record {
      calls = command 0x2C ∷ last_segment (0xF8 ∷ []) ∷ command 0x3C ∷ segment (0x00 ∷ []) ∷ [];
      passes = λ p. nothing_stored p && carry (0x00 ∷ []) p;
    }
    -- The boot rows at their delays from 0: one warning, rule 2 at 20 ms; comparison matches; D0 holds A4 A1
    ∷ record {
      calls = sent_from 0 boot_sequence;
      passes = λ p.
          warns (2 ∷ []) p && warns_at (ms 20 ∷ []) p && eqb (step_of (compared (used (trace_of p.state))).check) 0
          && stored 8 (0xA4 ∷ 0xA1 ∷ []) p;
    }
    -- The 129th command works and isn't traced
    ∷ record {
      calls = commands_at 0 (replicate 128 0x00) ∷ command 0x21 ∷ [];
      passes = λ p.
          p.state.controller.chip.registers.inverted && eqb p.state.controller.counts.commands 129 && eqb p.state.controller.logs.traced 128
          && is_none p.state.controller.logs.current;
    }
    ∷ []
