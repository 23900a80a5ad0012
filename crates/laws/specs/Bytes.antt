-- Rules: 01's decisions, byte by byte, as they stood before Q-9's table; "the decode equal to the former decisions for every byte". Whoever
-- trusts 01's bytes reads this file: each definition here is proved equal to the one that goes by kinds (laws, `Decoding`).
use Rattle.std.specs.Prelude.{ℕ, suc, ◌+◌, min, Bool, true, false, cond, not, ◌&&◌, ◌||◌, List, [], ◌∷◌, eqb, get_or, Some}
use Rattle.codes.specs.declared.Kind.{Kind}
use Rattle.codes.specs.declared.Kind.TheVariants.{NoEffect, Swreset, Slpin, Slpout, Invoff, Invon, Dispoff, Dispon, Caset, Raset, Ramwr, Madctl, Colmod, Ramwrc, Ramctrl, Porctrl, Gctrl, Vcoms, Lcmctrl, Vdvvrhen, Vrhs, Vdvs, Frctrl2, Pwctrl1, VendorD6, Pvgamctrl, Nvgamctrl}
use Rattle.geometry.specs.Place.{largest_column, largest_row}
use Rattle.geometry.specs.declared.Window.{Window}
use Rattle.formats.specs.declared.Carry.TheVariants.{Empty}
use Rattle.pixels.specs.declared.Walk.{Walk}
use Rattle.lists.specs.Entries.{some}
use Rattle.lists.specs.declared.Params.{Params}
use Rattle.timing.specs.Lint.{soon_after, wrong_colmod}
use Rattle.timing.specs.declared.Times.{Times}
use Rattle.timing.specs.declared.Broken.{Broken}
use Rattle.chip.specs.Begin.{full_window, origin}
use Rattle.chip.specs.Apply.{byte_at, number_at}
use Rattle.chip.specs.declared.Registers.{Registers}
use Rattle.st7789.specs.declared.Counts.{Counts}

-- "Twelve stored commands: B2 B7 BB C0 C2 C3 C4 C6 D0 D6 E0 E1."
abbrev pub stored_commands : List ℕ
stored_commands =
    0xB2 ∷ 0xB7 ∷ 0xBB ∷ 0xC0 ∷ 0xC2 ∷ 0xC3 ∷ 0xC4 ∷ 0xC6 ∷ 0xD0 ∷ 0xD6 ∷ 0xE0 ∷ 0xE1 ∷ []

-- Whether a byte is one of the twelve.
abbrev pub stored_byte : ℕ → Bool
stored_byte c = some (eqb c) stored_commands

-- The place of a byte in a list, past its end where the list lacks it.
abbrev pub place_in : List ℕ → ℕ → ℕ
place_in [] c = 0
place_in (b ∷ bs) c = cond (eqb c b) 0 (suc (place_in bs c))

-- "a place for each of the twelve"; 12 for any other byte.
abbrev pub place_of_byte : ℕ → ℕ
place_of_byte c = place_in stored_commands c

-- The kinds of the twelve, by their places.
abbrev pub stored_kinds : List Kind
stored_kinds =
    Porctrl ∷ Gctrl ∷ Vcoms ∷ Lcmctrl ∷ Vdvvrhen ∷ Vrhs ∷ Vdvs ∷ Frctrl2 ∷ Pwctrl1 ∷ VendorD6 ∷ Pvgamctrl ∷ Nvgamctrl ∷ []

-- "codes and meanings": which byte is of which kind. "Other bytes have no effect here."
abbrev pub kind_of_byte : ℕ → Kind
kind_of_byte c =
    cond (eqb c 0x01) Swreset
    (cond (eqb c 0x10) Slpin
    (cond (eqb c 0x11) Slpout
    (cond (eqb c 0x20) Invoff
    (cond (eqb c 0x21) Invon
    (cond (eqb c 0x28) Dispoff
    (cond (eqb c 0x29) Dispon
    (cond (eqb c 0x2A) Caset
    (cond (eqb c 0x2B) Raset
    (cond (eqb c 0x2C) Ramwr
    (cond (eqb c 0x36) Madctl
    (cond (eqb c 0x3A) Colmod
    (cond (eqb c 0x3C) Ramwrc
    (cond (eqb c 0xB0) Ramctrl
    (get_or stored_kinds (place_of_byte c) NoEffect))))))))))))))

-- "2A and 2B at 4 bytes .., 36 and 3A at 1, B0 at 2." Other bytes apply nothing: 0.
abbrev pub need_of_byte : ℕ → ℕ
need_of_byte c =
    cond (eqb c 0x2A || eqb c 0x2B) 4 (cond (eqb c 0x36 || eqb c 0x3A) 1 (cond (eqb c 0xB0) 2 0))

-- Lint: "(1) Any command but 11, less than 5 ms after a wake. (2) 10 less than 120 ms after the wake, or 11 less than 120 ms after the
-- sleep-in. (3) 2C or 3C with COLMOD not 55." Which COLMOD it is that rule 3 warns of is not asked of the byte; rule 4 asks for no byte.
abbrev pub broken_by_byte : Bool → Bool → Times → ℕ → ℕ → ℕ → Broken
broken_by_byte strict formats times colmod c t =
    record {
      rule1 = not (eqb c 0x11) && soon_after times.slpout t 5000000;
      rule2 =
          (eqb c 0x10 && soon_after times.slpout t 120000000) || (eqb c 0x11 && soon_after (Some times.slpin) t 120000000);
      rule3 = (eqb c 0x2C || eqb c 0x3C) && wrong_colmod formats colmod;
      rule4 = strict && soon_after times.swreset t 5000000;
    }

-- "10 sleep and its time, 11 wake and its time"; 01 sets "sleep-in time t", and "wake time .. stay"; the time of 01 is its own.
abbrev pub times_after_byte : Times → ℕ → ℕ → Times
times_after_byte times c t =
    record {
      slpout = cond (eqb c 0x11) (Some t) times.slpout;
      slpin = cond (eqb c 0x10 || eqb c 0x01) t times.slpin;
      swreset = cond (eqb c 0x01) (Some t) times.swreset;
    }

-- "commands + 1", and with 2C "ramwr_count + 1"
abbrev pub counts_by_byte : ℕ → Counts → Counts
counts_by_byte c n =
    record {
      commands = n.commands + 1;
      ramwr_count = cond (eqb c 0x2C) (n.ramwr_count + 1) n.ramwr_count;
      pixels_written = n.pixels_written;
      dropped_params = n.dropped_params;
      inverted = n.inverted;
      unmapped = n.unmapped;
    }

-- "2C: .. pixel run on, .. 3C: pixel run on, .. Any other: run off"
abbrev pub runs_by_byte : ℕ → Bool
runs_by_byte c = eqb c 0x2C || eqb c 0x3C

-- Carry and pointer: "2C: pointer to (xs, ys), carry dropped"; "3C: .. pointer and carry kept. Any other: .. carry dropped."; and 01 sets
-- "pointer (0,0), no carry".
abbrev pub walk_by_byte : ℕ → Window → Walk → Walk
walk_by_byte c w k =
    cond (eqb c 0x01) (record { pointer = origin; carry = Empty })
    (cond (eqb c 0x2C) (record { pointer = record { x = w.xs; y = w.ys }; carry = Empty })
    (cond (eqb c 0x3C) k
    (record { pointer = k.pointer; carry = Empty })))

-- 01 sets "the full window for the present MV".
abbrev pub window_by_byte : ℕ → ℕ → Window → Window
window_by_byte c madctl w = cond (eqb c 0x01) (full_window madctl) w

-- "01 reset, 10 sleep .., 11 wake .., 20 and 21 inversion off and on, 28 and 29 display off and on. Other bytes have no effect here."
-- "01 sets sleep, .. display and inversion off"; "MADCTL, COLMOD, RAMCTRL .. stay".
abbrev pub registers_by_byte : ℕ → Registers → Registers
registers_by_byte c r =
    record {
      sleeping = cond (eqb c 0x01 || eqb c 0x10) true (cond (eqb c 0x11) false r.sleeping);
      display_on = cond (eqb c 0x01 || eqb c 0x28) false (cond (eqb c 0x29) true r.display_on);
      inverted = cond (eqb c 0x01 || eqb c 0x20) false (cond (eqb c 0x21) true r.inverted);
      madctl = r.madctl;
      colmod = r.colmod;
      ramctrl0 = r.ramctrl0;
      ramctrl1 = r.ramctrl1;
    }

-- Applying: "2A and 2B .. (two big-endian corners, each cut down to the largest column or row)"
abbrev pub window_applied_by_byte : ℕ → Params → ℕ → Window → Window
window_applied_by_byte c p madctl w =
    cond (eqb c 0x2A)
    (record {
      xs = min (number_at p 0) (largest_column madctl);
      xe = min (number_at p 2) (largest_column madctl);
      ys = w.ys;
      ye = w.ye;
    })
    (cond (eqb c 0x2B)
    (record {
      xs = w.xs;
      xe = w.xe;
      ys = min (number_at p 0) (largest_row madctl);
      ye = min (number_at p 2) (largest_row madctl);
    })
    w)

-- Applying: "36 and 3A at 1, B0 at 2": MADCTL, COLMOD and the two bytes of RAMCTRL.
abbrev pub registers_applied_by_byte : ℕ → Params → Registers → Registers
registers_applied_by_byte c p r =
    record {
      sleeping = r.sleeping;
      display_on = r.display_on;
      inverted = r.inverted;
      madctl = cond (eqb c 0x36) (byte_at p 0) r.madctl;
      colmod = cond (eqb c 0x3A) (byte_at p 0) r.colmod;
      ramctrl0 = cond (eqb c 0xB0) (byte_at p 0) r.ramctrl0;
      ramctrl1 = cond (eqb c 0xB0) (byte_at p 1) r.ramctrl1;
    }
