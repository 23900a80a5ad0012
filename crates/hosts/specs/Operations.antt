-- Rules: the public operations that give a panel another state, one after the other on whatever is lent to them, refused or not.
use Rattle.std.specs.Prelude.{ℕ, Bool, true, false, length}
use mathlib.Core.List.{List, [], ◌∷◌, ◌++◌, foldl}
use Rattle.board.specs.declared.BoardDomain.{BoardDomain}
use Rattle.board.specs.declared.PanelConfig.{PanelConfig}
use Rattle.st7789.specs.Parts.{with_controller}
use Rattle.st7789.specs.Entries.{fresh_panel, transferred_with, reset_state, all_marked, warnings_taken}
use Rattle.st7789.specs.declared.PanelMemory.{PanelMemory}
use Rattle.st7789.specs.declared.PanelMemory.TheVariants.{Lent}
use Rattle.st7789.specs.declared.St7789p3.{St7789p3}
use Rattle.publishing.specs.Publish.{publish_refusal, published}
use Rattle.hosts.specs.Calls.{Host, Setting, settled, Call, commands, segment, publish, reset, mark_all, sets, looks, Machine}

-- A transfer, with panel memory of so many cells or without: its time, dc, bytes, and whether CS is released. A publish over so many
-- cells and a frame of so many. A reset over so many cells. What is set, marking all, taking warnings.
pub data Operation : Type 0 where
  transferring : PanelMemory → ℕ → ℕ → Bool → List ℕ → Bool → Operation
  publishing : ℕ → ℕ → Operation
  resetting : BoardDomain → ℕ → Operation
  setting : Setting → Operation
  marking : Operation
  taking : Operation

-- The state that an operation leaves, by the definition that its promise cites.
unfoldable pub operated : St7789p3 → Operation → St7789p3
operated s (transferring memory cells t dc bytes cs) = transferred_with memory t dc bytes cs cells s
operated s (publishing cells room) = published (publish_refusal s cells room) s
operated s (resetting domain cells) = reset_state domain cells s
operated s (setting x) = with_controller (settled x s.controller) s
operated s marking = with_controller (all_marked s.controller) s
operated s taking = (warnings_taken s).panel

-- The state after operations in turn from a fresh panel.
abbrev pub after : PanelConfig → List Operation → St7789p3
after cfg operations = foldl operated (fresh_panel cfg) operations

-- The operation that a call of a host is, over its own memory and frame; looks are none.
abbrev pub operations_of : Host → Call → List Operation
operations_of h (commands t bytes cs) = transferring Lent (length h.memory) t false bytes cs ∷ []
operations_of h (segment t bytes cs) = transferring Lent (length h.memory) t true bytes cs ∷ []
operations_of h publish = publishing (length h.memory) (length h.frame) ∷ []
operations_of h (reset domain) = resetting domain (length h.memory) ∷ []
operations_of h mark_all = marking ∷ []
operations_of h (sets x) = setting x ∷ []
operations_of h (looks x) = []

-- Those of calls in turn.
abbrev pub operations_from : Machine → Host → List Call → List Operation
operations_from m h [] = []
operations_from m h (c ∷ calls) = operations_of h c ++ operations_from m (m.step h c) calls
