-- Rules: demand 3 of functions: anything of the types of the public functions that a host calls, what it is for them all to keep their
-- promises, and the machine that they are for a host.
use Rattle.std.specs.Prelude.{ℕ, Bool, true, false, List, [], replicate, Result}
use denote.Triple.Clauses.{at_exit}
use Rattle.status.specs.Numbers.{number}
use Rattle.status.specs.Numbers.{Status}
use Rattle.status.specs.declared.Refusal.{Refusal}
use Rattle.board.specs.declared.BoardDomain.{BoardDomain}
use Rattle.board.specs.declared.PanelConfig.{PanelConfig}
use Rattle.st7789.specs.declared.Answer.{Answer}
use Rattle.st7789.specs.declared.Controller.{Controller}
use Rattle.st7789.specs.contracts.St7789p3.new as new
use Rattle.st7789.proofs.St7789p3.new.Reads as new-reads
use Rattle.st7789.specs.contracts.St7789p3.reset as reset
use Rattle.st7789.proofs.St7789p3.reset.Reads as reset-reads
use Rattle.st7789.specs.contracts.Controller.set_powered as set-powered
use Rattle.st7789.proofs.Controller.set_powered.Reads as set-powered-reads
use Rattle.st7789.specs.contracts.Controller.set_invon_shows_ram as set-invon-shows-ram
use Rattle.st7789.proofs.Controller.set_invon_shows_ram.Reads as set-invon-shows-ram-reads
use Rattle.st7789.specs.contracts.Controller.set_brightness as set-brightness
use Rattle.st7789.proofs.Controller.set_brightness.Reads as set-brightness-reads
use Rattle.st7789.specs.contracts.Controller.mark_all_dirty as mark-all-dirty
use Rattle.st7789.proofs.Controller.mark_all_dirty.Reads as mark-all-dirty-reads
use Rattle.light.specs.declared.FrameView.{FrameView}
use Rattle.views.specs.contracts.pixel as pixel
use Rattle.views.proofs.pixel.Reads as pixel-reads
use Rattle.views.specs.contracts.frame as frame
use Rattle.views.proofs.frame.Reads as frame-reads
use Rattle.hosts.specs.Calls as calls
use Rattle.hosts.specs.Calls.{Host, Machine, on_controller}
use Rattle.no_room.specs.Panels.{Call, Panel}
use Rattle.no_room.specs.Kept.{lent, lent_to_write, Transfer, KeepsTransfer, left_by, Shown, Publish, KeepsPublish}

-- What making a panel or resetting it leaves: the answer, and memory.
pub record Done : Type 0 where
  pub answer : Answer
  pub memory : List ℕ

-- What a whole view leaves: the status, and the buffer.
pub record Filled : Type 0 where
  pub status : Status
  pub buffer : List ℕ

-- The functions that a host calls. The looks that answer no status, a row and the boot comparison, refuse nothing and change nothing,
-- whatever they are.
pub record Functions : Type 0 where
  pub new : PanelConfig → List ℕ → Done
  pub transfer : Transfer
  pub publish : Publish
  pub reset : Panel → BoardDomain → Done
  pub set_powered : Controller → Bool → Controller
  pub set_invon_shows_ram : Controller → Bool → Controller
  pub set_brightness : Controller → ℕ → ℕ → ℕ → Controller
  pub mark_all_dirty : Controller → Controller
  pub pixel : Controller → FrameView → ℕ → ℕ → List ℕ → Result ℕ Refusal
  pub frame : Controller → FrameView → List ℕ → List ℕ → Filled

-- Each keeps its promise, which is its contract.
pub record KeepAll (f : Functions) : Type 0 where
  pub new :
      (cfg : PanelConfig) (memory : List ℕ) →
      new-reads.Learnt ([], tt) (cfg, (lent_to_write memory, tt)) (f.new cfg memory).answer
      (at_exit new.ended ([], tt) (cfg, (lent_to_write memory, tt)) (tt, ((f.new cfg memory).memory, tt)))
  pub transfer : KeepsTransfer f.transfer
  pub publish : KeepsPublish f.publish
  pub reset :
      (p : Panel) (d : BoardDomain) →
      reset-reads.Learnt ([], tt) (p.state, (d, (lent_to_write p.memory, tt))) (f.reset p d).answer
      (at_exit reset.ended ([], tt) (p.state, (d, (lent_to_write p.memory, tt))) (tt, (tt, ((f.reset p d).memory, tt))))
  pub set_powered :
      (k : Controller) (on : Bool) →
      set-powered-reads.Learnt tt (k, (on, tt)) (f.set_powered k on) (at_exit set-powered.ended tt (k, (on, tt)) (tt, (tt, tt)))
  pub set_invon_shows_ram :
      (k : Controller) (on : Bool) →
      set-invon-shows-ram-reads.Learnt tt (k, (on, tt)) (f.set_invon_shows_ram k on)
      (at_exit set-invon-shows-ram.ended tt (k, (on, tt)) (tt, (tt, tt)))
  pub set_brightness :
      (k : Controller) (level scale duty : ℕ) →
      set-brightness-reads.Learnt tt (k, (level, (scale, (duty, tt)))) (f.set_brightness k level scale duty)
      (at_exit set-brightness.ended tt (k, (level, (scale, (duty, tt)))) (tt, (tt, (tt, (tt, tt)))))
  pub mark_all_dirty :
      (k : Controller) → mark-all-dirty-reads.Learnt tt (k, tt) (f.mark_all_dirty k) (at_exit mark-all-dirty.ended tt (k, tt) (tt, tt))
  pub pixel :
      (k : Controller) (v : FrameView) (x y : ℕ) (memory : List ℕ) →
      pixel-reads.Learnt ([], tt) (k, (v, (x, (y, (lent memory, tt))))) (f.pixel k v x y memory)
      (at_exit pixel.ended ([], tt) (k, (v, (x, (y, (lent memory, tt))))) (tt, (tt, (tt, (tt, (tt, tt))))))
  pub frame :
      (k : Controller) (v : FrameView) (memory buffer : List ℕ) →
      frame-reads.Learnt ([], ([], tt)) (k, (v, (lent memory, (lent_to_write buffer, tt)))) (f.frame k v memory buffer).status
      (at_exit frame.ended ([], ([], tt)) (k, (v, (lent memory, (lent_to_write buffer, tt)))) (tt, (tt, (tt, ((f.frame k v memory buffer).buffer, tt)))))

-- A host's panel with its memory.
abbrev pub panel_of : Host → Panel
panel_of h = record { state = h.panel; memory = h.memory }

-- A host with another panel, and so what a transfer or a reset leaves of it.
abbrev pub left_of : Panel → Host → Host
left_of p h = record { panel = p.state; memory = p.memory; frame = h.frame }

-- The panel that a reset leaves.
abbrev pub done_of : Done → Panel
done_of d = record { state = d.answer.panel; memory = d.memory }

-- And what a publish leaves.
abbrev pub shown_of : Shown → Host → Host
shown_of s h = record { panel = s.answer.panel; memory = h.memory; frame = s.frame }

-- A segment as a call of `transfer`.
abbrev pub sending : ℕ → Bool → List ℕ → Bool → Call
sending t dc bytes cs = record { time = t; dc = dc; bytes = bytes; release = cs }

-- What is set, by its function.
abbrev pub settled_by : Functions → calls.Setting → Controller → Controller
settled_by f (calls.power on) k = f.set_powered k on
settled_by f (calls.shows on) k = f.set_invon_shows_ram k on
settled_by f (calls.brightness level scale duty) k = f.set_brightness k level scale duty

-- What a call leaves of a host, by its function.
abbrev pub step_by : Functions → Host → calls.Call → Host
step_by f h (calls.commands t bytes cs) = left_of (left_by f.transfer (panel_of h) (sending t false bytes cs)) h
step_by f h (calls.segment t bytes cs) = left_of (left_by f.transfer (panel_of h) (sending t true bytes cs)) h
step_by f h calls.publish = shown_of (f.publish (panel_of h) h.frame) h
step_by f h (calls.reset domain) = left_of (done_of (f.reset (panel_of h) domain)) h
step_by f h calls.mark_all = on_controller f.mark_all_dirty h
step_by f h (calls.sets x) = on_controller (settled_by f x) h
step_by f h (calls.looks x) = h

-- The number of the refusal that a look is given.
abbrev pub look_by : Functions → Host → calls.Look → ℕ
look_by f h (calls.pixel v x y) = number (f.pixel h.panel.controller v x y h.memory)
look_by f h (calls.view v room) = number (f.frame h.panel.controller v h.memory (replicate room 0)).status
look_by f h (calls.row m r) = 0
look_by f h calls.compare = 0

-- And that any call is given.
abbrev pub refusal_by : Functions → Host → calls.Call → ℕ
refusal_by f h (calls.commands t bytes cs) = number (f.transfer (panel_of h) (sending t false bytes cs)).answer.status
refusal_by f h (calls.segment t bytes cs) = number (f.transfer (panel_of h) (sending t true bytes cs)).answer.status
refusal_by f h calls.publish = number (f.publish (panel_of h) h.frame).answer.status
refusal_by f h (calls.reset domain) = number (f.reset (panel_of h) domain).answer.status
refusal_by f h calls.mark_all = 0
refusal_by f h (calls.sets x) = 0
refusal_by f h (calls.looks x) = look_by f h x

-- The machine of functions, whose panels are made over lent memory; the frame is "an all-zero frame".
abbrev pub machine_of : Functions → List ℕ → Machine
machine_of f memory =
    record {
      fresh = λ cfg. record { panel = (f.new cfg memory).answer.panel; memory = (f.new cfg memory).memory; frame = replicate 76800 0 };
      step = step_by f;
      refusal = refusal_by f;
    }
