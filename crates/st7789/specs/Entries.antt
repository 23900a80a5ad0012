-- Rules: 01, and 02, Q-3, what the public operations leave behind and answer.
use Rattle.std.specs.Prelude.{ℕ, Bool, false, cond, List, length, replicate, None}
use Rattle.marks.specs.Rows.{no_rows, all_rows}
use Rattle.pixels.specs.Run.{written, zeroed, no_totals}
use Rattle.pixels.specs.declared.Totals.{Totals}
use Rattle.lists.specs.Fixed.{places}
use Rattle.lists.specs.Entries.{empty_record}
use Rattle.lists.specs.Params.{no_params}
use Rattle.board.specs.Board.{switch_set, unpowered, powered_to, lit_to, is_board_rail}
use Rattle.board.specs.declared.BoardDomain.{BoardDomain}
use Rattle.board.specs.declared.PanelConfig.{PanelConfig}
use Rattle.chip.specs.Begin.{fresh_chip}
use Rattle.status.specs.Numbers.{unless_refused}
use Rattle.status.specs.Tests.{memory_refusal}
use Rattle.st7789.specs.Parts.{with_controller, with_cfg, with_power, with_marks, with_logs}
use Rattle.st7789.specs.Command.{begun_all, released}
use Rattle.st7789.specs.Data.{data_in, stores_in, totals_in}
use Rattle.st7789.specs.Refusals.{transfer_refusal, bare_refusal}
use Rattle.st7789.specs.declared.PanelMemory.{PanelMemory}
use Rattle.st7789.specs.declared.PanelMemory.TheVariants.{Lent, Without}
use Rattle.st7789.specs.declared.HandedOver.{HandedOver}
use Rattle.st7789.specs.declared.Controller.{Controller}
use Rattle.st7789.specs.declared.St7789p3.{St7789p3}

-- "Fresh: .. unpowered, .. level 0 scale 1 .., duty 0, span, counts .. empty, nothing in force, the switch as asked"
unfoldable pub fresh_controller : PanelConfig → Controller
fresh_controller cfg =
    record {
      cfg = cfg;
      power = unpowered;
      chip = fresh_chip;
      counts = record { commands = 0; ramwr_count = 0; pixels_written = 0; dropped_params = 0; inverted = 0; unmapped = 0 };
      marks = no_rows;
      logs = record { traced = 0; warned = 0; current = None };
    }

-- "Fresh: .. lists empty": a controller beside empty lists.
unfoldable pub empty_lists : Controller → St7789p3
empty_lists k =
    record {
      controller = k;
      stored = replicate 12 (record { present = false; params = no_params });
      records = replicate places empty_record;
      warnings = replicate places (record { at = 0; rule = 0; cmd = 0 });
    }

-- "Fresh": both.
abbrev pub fresh_panel : PanelConfig → St7789p3
fresh_panel cfg = empty_lists (fresh_controller cfg)

-- "Transfer: with dc low, each byte begins a command; with dc high the bytes are data. CS release, if asked, comes last."
unfoldable pub moved : ℕ → Bool → List ℕ → Bool → St7789p3 → St7789p3
moved t dc bytes cs s =
    let r : St7789p3 = cond dc (data_in bytes s) (begun_all t bytes s) in
    cond cs (released r) r

-- The state after a transfer; refused, "A refusal gives back the state it got".
unfoldable pub transferred : ℕ → Bool → List ℕ → Bool → ℕ → St7789p3 → St7789p3
transferred t dc bytes cs cells s = unless_refused (transfer_refusal s cells (length bytes)) (moved t dc bytes cs s) s

-- Memory after a transfer; refused, "every lent number as before".
unfoldable pub transfer_memory : Bool → List ℕ → List ℕ → St7789p3 → List ℕ
transfer_memory dc bytes memory s =
    unless_refused (transfer_refusal s (length memory) (length bytes)) (written memory (stores_in dc bytes s.controller)) memory

-- 02, Q-3: "a transfer shall answer its own three totals beside the state"; refused, it has none.
unfoldable pub transfer_totals : Bool → List ℕ → ℕ → St7789p3 → Totals
transfer_totals dc bytes cells s = unless_refused (transfer_refusal s cells (length bytes)) (totals_in dc bytes s.controller) no_totals

-- "a transfer without memory, whose state equals the full one's"
unfoldable pub bare_transferred : ℕ → Bool → List ℕ → Bool → St7789p3 → St7789p3
bare_transferred t dc bytes cs s = unless_refused (bare_refusal s (length bytes)) (moved t dc bytes cs s) s

-- The totals of such a one.
unfoldable pub bare_totals : Bool → List ℕ → St7789p3 → Totals
bare_totals dc bytes s = unless_refused (bare_refusal s (length bytes)) (totals_in dc bytes s.controller) no_totals

-- The one entry of both: the number, the state, the totals, and what is lent, which stays where no panel memory is.
abbrev pub refusal_with : PanelMemory → St7789p3 → ℕ → ℕ → ℕ
refusal_with Lent s cells bytes = transfer_refusal s cells bytes
refusal_with Without s cells bytes = bare_refusal s bytes

abbrev pub transferred_with : PanelMemory → ℕ → Bool → List ℕ → Bool → ℕ → St7789p3 → St7789p3
transferred_with Lent t dc bytes cs cells s = transferred t dc bytes cs cells s
transferred_with Without t dc bytes cs cells s = bare_transferred t dc bytes cs s

abbrev pub totals_with : PanelMemory → Bool → List ℕ → ℕ → St7789p3 → Totals
totals_with Lent dc bytes cells s = transfer_totals dc bytes cells s
totals_with Without dc bytes cells s = bare_totals dc bytes s

abbrev pub memory_with : PanelMemory → Bool → List ℕ → List ℕ → St7789p3 → List ℕ
memory_with Lent dc bytes memory s = transfer_memory dc bytes memory s
memory_with Without dc bytes memory s = memory

-- "Setting power, .. never refused."
abbrev pub powered_set : Bool → Controller → Controller
powered_set on k = with_power (powered_to on k.power) k

-- "Setting .. `invon_shows_ram`, .. never refused."
abbrev pub shows_set : Bool → Controller → Controller
shows_set shows k = with_cfg (switch_set shows k.cfg) k

-- "Setting .. brightness, .. never refused."
abbrev pub brightness_set : ℕ → ℕ → ℕ → Controller → Controller
brightness_set level scale duty k = with_power (lit_to level scale duty k.power) k

-- "Mark-all makes the span 0 to 319."
abbrev pub all_marked : Controller → Controller
all_marked k = with_marks all_rows k

-- "taking warnings are never refused.": they are handed over with their count, and none is left.
abbrev pub warnings_taken : St7789p3 → HandedOver
warnings_taken s =
    let logs = s.controller.logs in
    record {
      panel =
          with_controller
          (with_logs (record { traced = logs.traced; warned = 0; current = logs.current }) s.controller) s;
      warnings = s.warnings;
      count = logs.warned;
    }

-- "Board rail: fresh with the switch kept, and all rows marked; the other six domains change nothing." The whole configuration is kept.
abbrev pub rail_reset : Bool → St7789p3 → St7789p3
rail_reset rail s = cond rail (empty_lists (all_marked (fresh_controller s.controller.cfg))) s

-- "Board rail: fresh with the switch kept, and all rows marked"; refused, "A refusal gives back the state it got".
unfoldable pub reset_state : BoardDomain → ℕ → St7789p3 → St7789p3
reset_state domain cells s = unless_refused (memory_refusal cells) (rail_reset (is_board_rail domain) s) s

-- "Board rail: fresh", so "memory zero"; refused, "every lent number as before".
unfoldable pub reset_memory : BoardDomain → List ℕ → List ℕ
reset_memory domain memory = unless_refused (memory_refusal (length memory)) (cond (is_board_rail domain) (zeroed memory) memory) memory

-- A panel made over lent memory: "Fresh: memory zero"; refused, "every lent number as before".
unfoldable pub new_memory : List ℕ → List ℕ
new_memory memory = unless_refused (memory_refusal (length memory)) (zeroed memory) memory
