-- Examples: 01's table of refusals, case by case: a fresh panel with a part at or past a limit, whether or not a call reaches it, and the
-- number that an entry gives. Here are the transfer, with memory and without, and what tests memory alone; publishing and the whole view
-- have their cases in no_room.
use Rattle.std.specs.Prelude.{ℕ, ◌+◌, ◌^◌, Bool, true, false, ◌&&◌, List, [], ◌∷◌, ◌++◌, map, set, replicate, eqb, Option, Some, None}
use Rattle.status.specs.Tests.{memory_refusal}
use Rattle.formats.specs.declared.Carry.{Carry}
use Rattle.formats.specs.declared.Carry.TheVariants.{Empty, One, Two}
use Rattle.marks.specs.Rows.{of_span}
use Rattle.lists.specs.Params.{no_params}
use Rattle.lists.specs.declared.Params.{Params}
use Rattle.board.specs.Board.{switched_to, formats_set}
use Rattle.st7789.specs.Parts.{with_controller, with_cfg, with_chip, with_counts, with_marks, with_logs}
use Rattle.st7789.specs.Entries.{fresh_panel}
use Rattle.st7789.specs.Refusals.{transfer_refusal, bare_refusal}
use Rattle.st7789.specs.declared.Controller.{Controller}
use Rattle.st7789.specs.declared.St7789p3.{St7789p3}

-- A case of the table: the refusal of an entry by its definition, and the number that 01 gives it.
pub record Case : Type 0 where
  pub refusal : ℕ
  pub number : ℕ

-- Whether every case is given its number.
abbrev pub all_given : List Case → Bool
all_given [] = true
all_given (c ∷ cs) = eqb c.refusal c.number && all_given cs

-- A state, and the number that it is given where nothing else is wrong.
pub record Limit : Type 0 where
  pub state : St7789p3
  pub number : ℕ

-- A transfer over so many cells and bytes, and the number that it is given.
pub record Sent : Type 0 where
  pub state : St7789p3
  pub cells : ℕ
  pub bytes : ℕ
  pub number : ℕ

-- A fresh panel; each state below is one with a part set.
abbrev pub plain : St7789p3
plain = fresh_panel (switched_to true)

-- A panel with its controller changed.
abbrev pub on_controller : (Controller → Controller) → St7789p3 → St7789p3
on_controller f s = with_controller (f s.controller) s

-- Window and pointer.
abbrev pub cornered : ℕ → ℕ → ℕ → ℕ → ℕ → ℕ → St7789p3
cornered xs xe ys ye x y =
    on_controller
    (λ k.
    with_chip
    (record {
      registers = k.chip.registers;
      window = record { xs = xs; xe = xe; ys = ys; ye = ye };
      walk = record { pointer = record { x = x; y = y }; carry = Empty };
      decoder = k.chip.decoder;
      times = k.chip.times;
    })
    k)
    plain

-- A panel whose COLMOD and second RAMCTRL byte are these, with a carry, and the mode on or off.
abbrev pub carrying : Bool → ℕ → ℕ → Carry → St7789p3
carrying formats colmod ramctrl1 carry =
    on_controller
    (λ k.
    with_cfg (formats_set formats k.cfg)
    (with_chip
    (record {
      registers =
          record {
            sleeping = k.chip.registers.sleeping;
            display_on = k.chip.registers.display_on;
            inverted = k.chip.registers.inverted;
            madctl = k.chip.registers.madctl;
            colmod = colmod;
            ramctrl0 = k.chip.registers.ramctrl0;
            ramctrl1 = ramctrl1;
          };
      window = k.chip.window;
      walk = record { pointer = k.chip.walk.pointer; carry = carry };
      decoder = k.chip.decoder;
      times = k.chip.times;
    })
    k))
    plain

-- A parameter list of n bytes, the first of which is this.
abbrev pub list : ℕ → ℕ → Params
list n byte = record { bytes = set (replicate 14 0) 0 byte; count = n }

-- The parameters in force.
abbrev pub in_force : Params → St7789p3 → St7789p3
in_force p s =
    on_controller
    (λ k.
    with_chip
    (record {
      registers = k.chip.registers;
      window = k.chip.window;
      walk = k.chip.walk;
      decoder = record { cmd = None; params = p; applied = false; in_pixels = false };
      times = k.chip.times;
    })
    k)
    s

-- The last of the twelve places.
abbrev pub stored : Bool → Params → St7789p3
stored present p =
    record {
      controller = plain.controller;
      stored = set plain.stored 11 (record { present = present; params = p });
      records = plain.records;
      warnings = plain.warnings;
    }

-- `used` records, of which the first has these parameters and pixel bytes, and a current one.
abbrev pub traced : ℕ → Params → ℕ → Option ℕ → St7789p3 → St7789p3
traced used p pixels current s =
    record {
      controller = with_logs (record { traced = used; warned = s.controller.logs.warned; current = current }) s.controller;
      stored = s.stored;
      records = set s.records 0 (record { at = 0; pixel_bytes = pixels; params = p; cmd = 0x00 });
      warnings = s.warnings;
    }

-- How many warnings are used.
abbrev pub warned : ℕ → St7789p3
warned n = on_controller (λ k. with_logs (record { traced = k.logs.traced; warned = n; current = k.logs.current }) k) plain

-- The six counts.
abbrev pub counted : ℕ → ℕ → ℕ → ℕ → ℕ → ℕ → St7789p3
counted a b c d e f =
    on_controller
    (with_counts
    (record { commands = a; ramwr_count = b; pixels_written = c; dropped_params = d; inverted = e; unmapped = f }))
    plain

-- The dirty span.
abbrev pub spanned : Option (ℕ × ℕ) → St7789p3
spanned d = on_controller (with_marks (of_span d)) plain

-- A limit, number first.
abbrev pub given : ℕ → St7789p3 → Limit
given n s = record { state = s; number = n }

-- The limits of BAD_STATE.
unfoldable pub state_limits : List Limit
state_limits =
    given 0 plain
    -- "a window corner or pointer coordinate is above 319"
    ∷ given 0 (cornered 319 319 319 319 319 319)
    ∷ given 1 (cornered 320 239 0 319 0 0)
    ∷ given 1 (cornered 0 320 0 319 0 0)
    ∷ given 1 (cornered 0 239 320 319 0 0)
    ∷ given 1 (cornered 0 239 0 320 0 0)
    ∷ given 1 (cornered 0 239 0 319 320 0)
    ∷ given 1 (cornered 0 239 0 319 0 320)
    -- "a parameter list (in force, stored, or in a used trace record) is longer than 14"; an absent place and an unused record have none
    ∷ given 0 (in_force (list 14 0) plain)
    ∷ given 1 (in_force (list 15 0) plain)
    ∷ given 0 (stored true (list 14 0))
    ∷ given 1 (stored true (list 15 0))
    ∷ given 0 (stored false (list 15 0))
    ∷ given 0 (traced 1 (list 14 0) 0 None plain)
    ∷ given 1 (traced 1 (list 15 0) 0 None plain)
    ∷ given 0 (traced 0 (list 15 0) 0 None plain)
    -- "trace or warnings count above 128"
    ∷ given 0 (traced 128 no_params 0 None plain)
    ∷ given 1 (traced 129 no_params 0 None plain)
    ∷ given 0 (warned 128)
    ∷ given 1 (warned 129)
    -- "the dirty span has first above last, or last above 319"
    ∷ given 0 (spanned (Some (319, 319)))
    ∷ given 1 (spanned (Some (319, 318)))
    ∷ given 0 (spanned (Some (0, 319)))
    ∷ given 1 (spanned (Some (0, 320)))
    -- "a current trace record isn't the last used one, or its parameters differ from those in force"
    ∷ given 0 (traced 1 no_params 0 (Some 0) plain)
    ∷ given 1 (traced 2 no_params 0 (Some 0) plain)
    ∷ given 1 (traced 1 no_params 0 (Some 1) plain)
    ∷ given 1 (traced 0 no_params 0 (Some 0) plain)
    ∷ given 0 (in_force (list 1 7) (traced 1 (list 1 7) 0 (Some 0) plain))
    ∷ given 1 (in_force (list 1 7) (traced 1 (list 1 8) 0 (Some 0) plain))
    ∷ given 1 (in_force (list 1 7) (traced 1 (list 2 7) 0 (Some 0) plain))
    ∷ given 0 (in_force (list 0 7) (traced 1 (list 0 8) 0 (Some 0) plain))
    -- 02, Q-5: "a carry of two bytes outside 12 and 18 bits"; one byte may wait in every format
    ∷ given 0 (carrying true 0x03 0x00 (Two 1 2))
    ∷ given 0 (carrying true 0x66 0x00 (Two 1 2))
    ∷ given 1 (carrying true 0x55 0x00 (Two 1 2))
    ∷ given 1 (carrying true 0x55 0x08 (Two 1 2))
    ∷ given 1 (carrying true 0x07 0x00 (Two 1 2))
    ∷ given 0 (carrying true 0x55 0x00 (One 1))
    ∷ given 0 (carrying true 0x03 0x08 (One 1))
    -- "or with the mode off"
    ∷ given 1 (carrying false 0x03 0x00 (Two 1 2))
    ∷ given 1 (carrying false 0x66 0x00 (Two 1 2))
    ∷ given 0 (carrying false 0x66 0x00 (One 1))
    ∷ []

-- The limits of COUNT_HIGH: "above 2^63"; of the pixel bytes only the current record's.
unfoldable pub count_limits : List Limit
count_limits =
    given 0 (counted (2 ^ 63) (2 ^ 63) (2 ^ 63) (2 ^ 63) (2 ^ 63) (2 ^ 63))
    ∷ given 5 (counted (2 ^ 63 + 1) 0 0 0 0 0)
    ∷ given 5 (counted 0 (2 ^ 63 + 1) 0 0 0 0)
    ∷ given 5 (counted 0 0 (2 ^ 63 + 1) 0 0 0)
    ∷ given 5 (counted 0 0 0 (2 ^ 63 + 1) 0 0)
    -- 02, Q-3: "COUNT_HIGH also looks at both."
    ∷ given 5 (counted 0 0 0 0 (2 ^ 63 + 1) 0)
    ∷ given 5 (counted 0 0 0 0 0 (2 ^ 63 + 1))
    ∷ given 0 (traced 1 no_params (2 ^ 63) (Some 0) plain)
    ∷ given 5 (traced 1 no_params (2 ^ 63 + 1) (Some 0) plain)
    ∷ given 0 (traced 1 no_params (2 ^ 63 + 1) None plain)
    ∷ []

-- Transfers at and past the other limits.
unfoldable pub sent : List Sent
sent =
    -- BAD_MEMORY and TOO_LONG: "Exactly 65,536 bytes .. accepted"
    record { state = plain; cells = 76799; bytes = 0; number = 2 }
    ∷ record { state = plain; cells = 76801; bytes = 0; number = 2 }
    ∷ record { state = plain; cells = 76800; bytes = 65536; number = 0 }
    ∷ record { state = plain; cells = 76800; bytes = 65537; number = 4 }
    -- "Tests run in number order"
    ∷ record { state = warned 129; cells = 0; bytes = 65537; number = 1 }
    ∷ record { state = counted (2 ^ 63 + 1) 0 0 0 0 0; cells = 0; bytes = 65537; number = 2 }
    ∷ record { state = counted (2 ^ 63 + 1) 0 0 0 0 0; cells = 76800; bytes = 65537; number = 4 }
    ∷ []

-- A transfer, a transfer without memory, and what tests memory alone: a pixel, a reset, a panel made over lent memory.
abbrev pub transfer_case : Sent → Case
transfer_case t = record { refusal = transfer_refusal t.state t.cells t.bytes; number = t.number }

abbrev pub bare_case : ℕ → St7789p3 → ℕ → Case
bare_case n s bytes = record { refusal = bare_refusal s bytes; number = n }

abbrev pub memory_case : ℕ → ℕ → Case
memory_case n cells = record { refusal = memory_refusal cells; number = n }

-- The table.
unfoldable pub cases : List Case
cases =
    map (λ l. transfer_case (record { state = l.state; cells = 76800; bytes = 0; number = l.number })) (state_limits ++ count_limits)
    ++ (map transfer_case sent
    ++ (map (λ l. bare_case l.number l.state 0) (state_limits ++ count_limits)
    -- without memory, TOO_LONG, and "Tests run in number order"
    ++ (bare_case 0 plain 65536
    ∷ bare_case 4 plain 65537
    ∷ bare_case 1 (warned 129) 65537
    ∷ bare_case 1 (traced 129 no_params (2 ^ 63 + 1) (Some 0) plain) 0
    ∷ bare_case 4 (counted (2 ^ 63 + 1) 0 0 0 0 0) 65537
    -- BAD_MEMORY of what tests memory alone
    ∷ memory_case 0 76800
    ∷ memory_case 2 76799
    ∷ memory_case 2 76801
    ∷ memory_case 2 0
    ∷ [])))
