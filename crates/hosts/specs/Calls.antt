-- Rules: demand 3, a host, the calls it makes, and what each call does, by the definitions that the promises of the entries cite.
use Rattle.std.specs.Prelude.{ℕ, ◌≡◌, Bool, true, false, length, replicate}
use mathlib.Core.List.{List, [], ◌∷◌, foldl}
use Rattle.status.specs.Tests.{memory_refusal}
use Rattle.board.specs.declared.BoardDomain.{BoardDomain}
use Rattle.board.specs.declared.PanelConfig.{PanelConfig}
use Rattle.st7789.specs.Parts.{with_controller}
use Rattle.st7789.specs.Refusals.{transfer_refusal}
use Rattle.st7789.specs.Entries.{fresh_panel, transferred, transfer_memory, reset_state, reset_memory, powered_set, shows_set, brightness_set, all_marked}
use Rattle.st7789.specs.declared.Controller.{Controller}
use Rattle.st7789.specs.declared.St7789p3.{St7789p3}
use Rattle.views.specs.Views.{frame_refusal}
use Rattle.light.specs.declared.FrameView.{FrameView}
use Rattle.views.specs.declared.Memory.{Memory}
use Rattle.publishing.specs.Publish.{publish_refusal, published, published_frame}

-- A panel, "whose memory only its own transfers and board-rail resets write, and an all-zero frame that only its own publishing writes".
pub record Host : Type 0 where
  pub panel : St7789p3
  pub memory : List ℕ
  pub frame : List ℕ

-- "a fresh panel, equally set, .. and an all-zero frame": one configuration, and so the switch as both set it.
abbrev pub fresh_host : PanelConfig → Host
fresh_host cfg = record { panel = fresh_panel cfg; memory = replicate 76800 0; frame = replicate 76800 0 }

-- What is set: power, the switch, or level, scale and duty of the brightness.
pub data Setting : Type 0 where
  power : Bool → Setting
  shows : Bool → Setting
  brightness : ℕ → ℕ → ℕ → Setting

-- "Setting power, `invon_shows_ram`, brightness, .. never refused.": what it makes of the controller.
abbrev pub settled : Setting → Controller → Controller
settled (power on) k = powered_set on k
settled (shows on) k = shows_set on k
settled (brightness level scale duty) k = brightness_set level scale duty k

-- What is looked at: a pixel, a whole view (in a buffer of so many numbers that is neither memory nor frame), a row of one of the two
-- memories, the trace beside the boot table.
pub data Look : Type 0 where
  pixel : FrameView → ℕ → ℕ → Look
  view : FrameView → ℕ → Look
  row : Memory → ℕ → Look
  compare : Look

-- The number of the refusal that a look over so many cells of memory is given, 0 for none.
abbrev pub look_refusal : ℕ → Look → ℕ
look_refusal cells (pixel v x y) = memory_refusal cells
look_refusal cells (view v room) = frame_refusal cells room
look_refusal cells (row m r) = 0
look_refusal cells compare = 0

-- Transfers, "every transfer with memory": a segment of commands or of data, its time, its bytes, and whether CS is released after it.
-- "warnings aren't taken": there is no such call.
pub data Call : Type 0 where
  commands : ℕ → List ℕ → Bool → Call
  segment : ℕ → List ℕ → Bool → Call
  publish : Call
  reset : BoardDomain → Call
  mark_all : Call
  sets : Setting → Call
  looks : Look → Call

-- The number of the refusal that a call is given, 0 for none.
unfoldable pub refusal : Host → Call → ℕ
refusal h (commands t bytes cs) = transfer_refusal h.panel (length h.memory) (length bytes)
refusal h (segment t bytes cs) = transfer_refusal h.panel (length h.memory) (length bytes)
refusal h publish = publish_refusal h.panel (length h.memory) (length h.frame)
refusal h (reset domain) = memory_refusal (length h.memory)
refusal h mark_all = 0
refusal h (sets x) = 0
refusal h (looks x) = look_refusal (length h.memory) x

-- A transfer over the host's own memory.
abbrev pub transfer : ℕ → Bool → List ℕ → Bool → Host → Host
transfer t dc bytes cs h =
    record {
      panel = transferred t dc bytes cs (length h.memory) h.panel;
      memory = transfer_memory dc bytes h.memory h.panel;
      frame = h.frame;
    }

-- Lists, memory and frame as they are, the controller changed.
abbrev pub on_controller : (Controller → Controller) → Host → Host
on_controller f h = record { panel = with_controller (f h.panel.controller) h.panel; memory = h.memory; frame = h.frame }

-- "each call takes its panel's newest state, and the memory and frame lent to it are always these"
unfoldable pub step : Host → Call → Host
step h (commands t bytes cs) = transfer t false bytes cs h
step h (segment t bytes cs) = transfer t true bytes cs h
step h publish =
    record {
      panel = published (refusal h publish) h.panel;
      memory = h.memory;
      frame = published_frame (refusal h publish) h.panel h.memory h.frame;
    }
step h (reset domain) =
    record {
      panel = reset_state domain (length h.memory) h.panel;
      memory = reset_memory domain h.memory;
      frame = h.frame;
    }
step h mark_all = on_controller all_marked h
step h (sets x) = on_controller (settled x) h
step h (looks x) = h

-- What a host is run by: how it begins, what a call leaves of it, and the number of the refusal that a call is given.
pub record Machine : Type 0 where
  pub fresh : PanelConfig → Host
  pub step : Host → Call → Host
  pub refusal : Host → Call → ℕ

-- That of the definitions.
abbrev pub defined : Machine
defined = record { fresh = fresh_host; step = step; refusal = refusal }

-- Calls in turn.
abbrev pub run : Machine → Host → List Call → Host
run m h calls = foldl m.step h calls

-- "No call is refused": each where it comes.
abbrev pub Accepted : Machine → Host → List Call → Type 0
Accepted m h [] = Unit {0}
Accepted m h (c ∷ calls) = (m.refusal h c ≡ 0) × Accepted m (m.step h c) calls
