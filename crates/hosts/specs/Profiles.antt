-- Rules: 02, Q-14, the operations by 01's rules alone, and the answers of two panels under two profiles.
use Rattle.std.specs.Prelude.{ℕ, ◌≡◌, Bool, true, List}
use Rattle.board.specs.Board.{switched_to, strict_set}
use Rattle.board.specs.declared.PanelConfig.{PanelConfig}
use Rattle.light.specs.declared.FrameView.{FrameView}
use Rattle.lists.specs.Fixed.{used}
use Rattle.st7789.specs.Parts.{trace_of}
use Rattle.st7789.specs.Refusals.{bad_state}
use Rattle.st7789.specs.Entries.{refusal_with, totals_with, memory_with}
use Rattle.st7789.specs.declared.PanelMemory.{PanelMemory}
use Rattle.st7789.specs.declared.St7789p3.{St7789p3}
use Rattle.views.specs.Views.{pixel_seen, frame_seen}
use Rattle.publishing.specs.Publish.{publish_refusal, published_span, published_flags, published_frame}
use Rattle.laws.specs.Profiles.{transferred_before, ProfilesAgree}
use Rattle.hosts.specs.Calls.{Host}
use Rattle.hosts.specs.Operations.{Operation, transferring, publishing, resetting, setting, marking, taking, operated}

-- "strict .., chosen at the start", and the plain profile.
abbrev pub plainly : Bool → PanelConfig
plainly on = switched_to on

abbrev pub strictly : Bool → PanelConfig
strictly on = strict_set true (switched_to on)

-- "all warnings are as before": what an operation leaves, by the three rules of 01.
abbrev pub operated_before : St7789p3 → Operation → St7789p3
operated_before s (transferring memory cells t dc bytes cs) = transferred_before memory t dc bytes cs cells s
operated_before s (publishing cells room) = operated s (publishing cells room)
operated_before s (resetting domain cells) = operated s (resetting domain cells)
operated_before s (setting x) = operated s (setting x)
operated_before s marking = operated s marking
operated_before s taking = operated s taking

-- Every answer of two panels is equal but their warnings, and every lent number: the test for a bad state, a transfer with its totals, a
-- publish by the number of its refusal, the views, and the trace that the boot comparison reads. The refusals that are not here look at no
-- panel.
pub record AnswersAlike (p s : St7789p3) : Type 0 where
  pub bad : bad_state p ≡ bad_state s
  pub transfer : (memory : PanelMemory) (cells n : ℕ) → refusal_with memory p cells n ≡ refusal_with memory s cells n
  pub lent : (memory : PanelMemory) (dc : Bool) (bytes cells : List ℕ) → memory_with memory dc bytes cells p ≡ memory_with memory dc bytes cells s
  pub totals : (memory : PanelMemory) (dc : Bool) (bytes : List ℕ) (cells : ℕ) → totals_with memory dc bytes cells p ≡ totals_with memory dc bytes cells s
  pub publish : (cells room : ℕ) → publish_refusal p cells room ≡ publish_refusal s cells room
  pub frame : (n : ℕ) (memory frame : List ℕ) → published_frame n p memory frame ≡ published_frame n s memory frame
  pub span : (n : ℕ) → published_span n p ≡ published_span n s
  pub flags : (n : ℕ) → published_flags n p ≡ published_flags n s
  pub pixel : (v : FrameView) (x y : ℕ) (memory : List ℕ) → pixel_seen v p.controller x y memory ≡ pixel_seen v s.controller x y memory
  pub view : (v : FrameView) (memory buffer : List ℕ) → frame_seen v p.controller memory buffer ≡ frame_seen v s.controller memory buffer
  pub trace : used (trace_of p) ≡ used (trace_of s)

-- Two hosts, the first under plain: their memories and frames are equal, and their panels agree.
pub record AgreeBut (a b : Host) : Type 0 where
  pub memory : a.memory ≡ b.memory
  pub frame : a.frame ≡ b.frame
  pub panels : ProfilesAgree a.panel b.panel
