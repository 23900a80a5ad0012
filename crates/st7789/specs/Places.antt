-- Workshop: how the code looks at the current record, at a place that the list always has, at the stored lists and at lent memory.
use Rattle.std.specs.Prelude.{ℕ, ◌+◌, ◌≤◌, ◌<◌, ◌≡◌, Bool, true, false, cond, not, ◌||◌, ltb, eqb, get_or, Option, Some, None}
use mathlib.Core.List.{List, foldl}
use Rattle.formats.specs.declared.Carry.{Carry}
use Rattle.formats.specs.declared.Carry.TheVariants.{Empty, One, Two}
use Rattle.pixels.specs.Run.{Store, written}
use Rattle.lists.specs.Fixed.{places}
use Rattle.codes.specs.Codes.{kind_of, command_of, is, has_effect}
use Rattle.codes.specs.declared.Kind.{Kind}
use Rattle.codes.specs.declared.Kind.TheVariants.{Ramwr}
use Rattle.codes.specs.declared.Command.{Command}
use Rattle.lists.specs.Params.{differ}
use Rattle.lists.specs.declared.Params.{Params}
use Rattle.lists.specs.declared.TraceRecord.{TraceRecord}
use Rattle.status.specs.Tests.{first, transfer_row}
use Rattle.st7789.specs.Command.{controller_begun}
use Rattle.st7789.specs.Refusals.{counted}
use Rattle.st7789.specs.declared.PanelMemory.{PanelMemory}
use Rattle.st7789.specs.declared.PanelMemory.TheVariants.{Lent, Without}
use Rattle.st7789.specs.declared.Controller.{Controller}
use Rattle.st7789.specs.declared.Logs.{Logs}

-- The place of the current record, the first one where there is none.
abbrev pub current_place : Option ℕ → ℕ
current_place None = 0
current_place (Some i) = cond (ltb i places) i 0

-- Whether the record is not the last of n, or its parameters p differ from those in force, q.
abbrev pub wrong_for : Option ℕ → ℕ → Params → Params → Bool
wrong_for None n p q = false
wrong_for (Some i) n p q = not (eqb (i + 1) n) || differ p q

-- The pixel bytes n of the record that stands at the place, 0 where none is current.
abbrev pub held_for : Option ℕ → ℕ → ℕ
held_for None n = 0
held_for (Some i) n = n

-- The record that stands at the place, changed where it is current.
abbrev pub if_current : (TraceRecord → TraceRecord) → Option ℕ → TraceRecord → TraceRecord
if_current f None r = r
if_current f (Some i) r = f r

-- The refusal of a transfer, by BAD_STATE and by the current record's pixel bytes.
abbrev pub judged_for : Controller → Bool → ℕ → ℕ → ℕ → ℕ
judged_for k bad held cells bytes = first (transfer_row bad cells bytes (counted k held))

-- The command in force.
abbrev pub command_for : Option ℕ → Option Command
command_for None = None
command_for (Some c) = Some (command_of c)

-- The command that data is for; in a run there is none.
abbrev pub command_in : Controller → Option Command
command_in k = cond k.chip.decoder.in_pixels None (command_for k.chip.decoder.cmd)

-- Whether a place is free in the trace or among the warnings.
abbrev pub any_free : Logs → Bool
any_free l = ltb l.traced places || ltb l.warned places

-- Whether a byte waits for its pixel.
abbrev pub waits : Carry → Bool
waits Empty = false
waits (One a) = true
waits (Two a b) = true

-- Whether a command goes by itself: it may leave something in a list, or a byte waits.
abbrev pub alone : Controller → Bool
alone k = any_free k.logs || waits k.chip.walk.carry

-- Whether something stays of a command when the next one begins, beside its number.
abbrev pub busy : Kind → Bool
busy k = has_effect k || is k Ramwr

-- None of the commands from i up to r is such a one.
abbrev pub Passing : List ℕ → ℕ → ℕ → Type 0
Passing bytes i r = (j : ℕ) → i ≤ j → j < r → busy (kind_of (get_or bytes j 0)) ≡ false

-- What commands leave of the controller, each after its lint.
abbrev pub controller_begun_all : ℕ → List ℕ → Controller → Controller
controller_begun_all t bytes k = foldl (λ k c. controller_begun c t k) k bytes

-- How much of n numbers a transfer takes as lent, and how many of them it may store to.
abbrev pub cells_for : PanelMemory → ℕ → ℕ
cells_for Lent n = n
cells_for Without n = 76800

abbrev pub end_for : PanelMemory → ℕ → ℕ
end_for Lent n = n
end_for Without n = 0

-- Lent numbers after stores, which go nowhere without panel memory.
abbrev pub stored_to : PanelMemory → List ℕ → List Store → List ℕ
stored_to Lent memory ss = written memory ss
stored_to Without memory ss = memory
