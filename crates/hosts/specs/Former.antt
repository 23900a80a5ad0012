-- Rules: 02, Q-5, "with it off everything reads as now": the operations as they were before the other formats, and what they answered.
use Rattle.std.specs.Prelude.{ℕ, ◌≡◌, Bool, List}
use Rattle.status.specs.Tests.{first, publish_row}
use Rattle.st7789.specs.Refusals.{bad_state}
use Rattle.st7789.specs.Entries.{refusal_with, totals_with, memory_with}
use Rattle.st7789.specs.declared.PanelMemory.{PanelMemory}
use Rattle.st7789.specs.declared.St7789p3.{St7789p3}
use Rattle.publishing.specs.Publish.{publish_refusal, published}
use Rattle.laws.specs.Former.{former_bad, former_refusal, former_state, former_answered, former_memory}
use Rattle.hosts.specs.Operations.{Operation, transferring, publishing, resetting, setting, marking, taking, operated}

-- The number of a publish: its tests, of which BAD_STATE is one.
abbrev pub former_publish : St7789p3 → ℕ → ℕ → ℕ
former_publish s cells room = first (publish_row (former_bad s) cells room)

-- What an operation left: a transfer and a publish, which test for BAD_STATE, and the others, which are as they were.
abbrev pub former_operated : St7789p3 → Operation → St7789p3
former_operated s (transferring memory cells t dc bytes cs) = former_state memory t dc bytes cs cells s
former_operated s (publishing cells room) = published (former_publish s cells room) s
former_operated s (resetting domain cells) = operated s (resetting domain cells)
former_operated s (setting x) = operated s (setting x)
former_operated s marking = operated s marking
former_operated s taking = operated s taking

-- What a panel answers is what it answered: the test for a bad state, a transfer's number, totals and lent numbers, and a publish's number,
-- by which the rest of its answer goes. What is seen of a panel and the boot comparison have not changed.
pub record FormerAnswers (s : St7789p3) : Type 0 where
  pub bad : bad_state s ≡ former_bad s
  pub transfer : (memory : PanelMemory) (cells n : ℕ) → refusal_with memory s cells n ≡ former_refusal memory s cells n
  pub totals : (memory : PanelMemory) (dc : Bool) (bytes : List ℕ) (cells : ℕ) → totals_with memory dc bytes cells s ≡ former_answered memory dc bytes cells s
  pub lent : (memory : PanelMemory) (dc : Bool) (bytes cells : List ℕ) → memory_with memory dc bytes cells s ≡ former_memory memory dc bytes cells s
  pub publish : (cells room : ℕ) → publish_refusal s cells room ≡ former_publish s cells room
