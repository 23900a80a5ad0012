-- Rules: what the examples and the impostors are said with: a transfer as a call, a panel with its memory, and what a call leaves of it as
-- `transfer` promises.
use Rattle.std.specs.Prelude.{ℕ, Bool, true, false, List, length, replicate}
use Rattle.board.specs.Board.{switched_to, strict_set, formats_set}
use Rattle.board.specs.declared.PanelConfig.{PanelConfig}
use Rattle.st7789.specs.Entries.{fresh_panel, transferred, transfer_memory}
use Rattle.st7789.specs.declared.St7789p3.{St7789p3}

-- A transfer.
pub record Call : Type 0 where
  pub time : ℕ
  pub dc : Bool
  pub bytes : List ℕ
  pub release : Bool

-- A panel's state and its memory.
pub record Panel : Type 0 where
  pub state : St7789p3
  pub memory : List ℕ

-- A panel made so, with memory of zeros.
abbrev pub made : PanelConfig → Panel
made cfg = record { state = fresh_panel cfg; memory = replicate 76800 0 }

-- "fresh panel unless said", under the strict profile or the plain one; and one that reads the other formats.
abbrev pub fresh_under : Bool → Panel
fresh_under strict = made (strict_set strict (switched_to true))

abbrev pub fresh : Panel
fresh = fresh_under false

abbrev pub reading : Panel
reading = made (formats_set true (switched_to true))

-- The panel after a call, as `transfer` promises it.
abbrev pub after : Panel → Call → Panel
after p c =
    record {
      state = transferred c.time c.dc c.bytes c.release (length p.memory) p.state;
      memory = transfer_memory c.dc c.bytes p.memory p.state;
    }
