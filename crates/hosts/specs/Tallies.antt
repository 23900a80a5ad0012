-- Rules: what each count of a panel is, from the operations made on it and what they send, refused ones adding nothing.
use Rattle.std.specs.Prelude.{ℕ, ◌+◌, Bool, cond, List, [], ◌∷◌, ◌++◌, map, eqb, length, take, set, get_or, replicate, Option, Some, None}
use Rattle.status.specs.Numbers.{unless_refused}
use Rattle.status.specs.Tests.{memory_refusal}
use Rattle.lists.specs.Fixed.{places, used}
use Rattle.lists.specs.Params.{excess}
use Rattle.lists.specs.declared.Params.{Params}
use Rattle.board.specs.Board.{is_board_rail}
use Rattle.board.specs.declared.PanelConfig.{PanelConfig}
use Rattle.chip.specs.Site.{chip_counted, chip_totals}
use Rattle.st7789.specs.Parts.{trace_of}
use Rattle.st7789.specs.Entries.{fresh_panel, refusal_with}
use Rattle.st7789.specs.declared.Controller.{Controller}
use Rattle.st7789.specs.declared.St7789p3.{St7789p3}
use Rattle.hosts.specs.Operations.{Operation, transferring, publishing, resetting, setting, marking, taking, operated}

-- Commands, RAMWRs, pixels, dropped parameters, inverted and unmapped pixels, and the pixel bytes of each used record.
pub record Tally : Type 0 where
  pub commands : ℕ
  pub ramwrs : ℕ
  pub pixels : ℕ
  pub dropped : ℕ
  pub inverted : ℕ
  pub unmapped : ℕ
  pub held : List ℕ

-- Nothing sent.
abbrev pub nothing_sent : Tally
nothing_sent = record { commands = 0; ramwrs = 0; pixels = 0; dropped = 0; inverted = 0; unmapped = 0; held = [] }

-- How many of the bytes are this one.
abbrev pub times_sent : ℕ → List ℕ → ℕ
times_sent c [] = 0
times_sent c (b ∷ bytes) = cond (eqb b c) (times_sent c bytes + 1) (times_sent c bytes)

-- "with dc low, each byte begins a command": each is counted, each 2C among them too, and each has a record without pixel bytes "if
-- fewer than 128 are used".
abbrev pub commands_sent : List ℕ → Tally → Tally
commands_sent bytes y =
    record {
      commands = y.commands + length bytes;
      ramwrs = y.ramwrs + times_sent 0x2C bytes;
      pixels = y.pixels;
      dropped = y.dropped;
      inverted = y.inverted;
      unmapped = y.unmapped;
      held = take places (y.held ++ replicate (length bytes) 0);
    }

-- "the current record's pixel bytes grow by the length"
abbrev pub grown_at : Option ℕ → ℕ → List ℕ → List ℕ
grown_at None n held = held
grown_at (Some i) n held = set held i (get_or held i 0 + n)

-- "Data in a run": the pixels that its bytes complete, unless the window is inverted, and the record that is current; 02, Q-3: those
-- that vanish, by their outcome.
abbrev pub pixels_sent : List ℕ → Controller → Tally → Tally
pixels_sent bytes k y =
    record {
      commands = y.commands;
      ramwrs = y.ramwrs;
      pixels = y.pixels + chip_counted k.cfg.formats k.chip bytes;
      dropped = y.dropped;
      inverted = y.inverted + (chip_totals k.cfg.formats k.chip bytes).inverted;
      unmapped = y.unmapped + (chip_totals k.cfg.formats k.chip bytes).unmapped;
      held = grown_at k.logs.current (length bytes) y.held;
    }

-- "Data with a command and no run: bytes fill up to 14, the rest counted as dropped"; "With no run and no command in force data is lost
-- and uncounted."
abbrev pub rest_of : Option ℕ → Params → List ℕ → ℕ
rest_of None p bytes = 0
rest_of (Some c) p bytes = excess p (length bytes)

abbrev pub params_sent : List ℕ → Controller → Tally → Tally
params_sent bytes k y =
    record {
      commands = y.commands;
      ramwrs = y.ramwrs;
      pixels = y.pixels;
      dropped = y.dropped + rest_of k.chip.decoder.cmd k.chip.decoder.params bytes;
      inverted = y.inverted;
      unmapped = y.unmapped;
      held = y.held;
    }

-- A segment, by the controller that it meets.
abbrev pub segment_sent : Bool → List ℕ → Controller → Tally → Tally
segment_sent dc bytes k y =
    cond dc (cond k.chip.decoder.in_pixels (pixels_sent bytes k y) (params_sent bytes k y)) (commands_sent bytes y)

-- The tally after one operation more on a state; "Board rail: fresh", so it begins anew.
unfoldable pub tallied : St7789p3 → Tally → Operation → Tally
tallied s y (transferring memory cells t dc bytes cs) =
    unless_refused (refusal_with memory s cells (length bytes)) (segment_sent dc bytes s.controller y) y
tallied s y (publishing cells room) = y
tallied s y (resetting domain cells) = unless_refused (memory_refusal cells) (cond (is_board_rail domain) nothing_sent y) y
tallied s y (setting x) = y
tallied s y marking = y
tallied s y taking = y

-- And after operations in turn.
abbrev pub tally_from : St7789p3 → Tally → List Operation → Tally
tally_from s y [] = y
tally_from s y (o ∷ operations) = tally_from (operated s o) (tallied s y o) operations

-- From a fresh panel.
abbrev pub tally : PanelConfig → List Operation → Tally
tally cfg operations = tally_from (fresh_panel cfg) nothing_sent operations

-- What a panel itself says of its counts.
abbrev pub counts_in : St7789p3 → Tally
counts_in s =
    record {
      commands = s.controller.counts.commands;
      ramwrs = s.controller.counts.ramwr_count;
      pixels = s.controller.counts.pixels_written;
      dropped = s.controller.counts.dropped_params;
      inverted = s.controller.counts.inverted;
      unmapped = s.controller.counts.unmapped;
      held = map (λ r. r.pixel_bytes) (used (trace_of s));
    }
