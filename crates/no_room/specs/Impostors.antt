-- Examples: two impostors of 01 as functions, and hosts whose calls give them away: "One that decodes the first segment and idles, or
-- publishes once only, breaks demands 2 and 3."
use Rattle.std.specs.Prelude.{false, cond, ◌&&◌, List, [], ◌∷◌, ltb, eqb, get_or, replicate, None}
use Rattle.std.specs.Prelude.{Ok}
use Rattle.pixels.specs.Run.{no_totals}
use Rattle.publishing.specs.Publish.{no_flags}
use Rattle.hosts.specs.Calls as calls
use Rattle.hosts.specs.Calls.{Machine}
use Rattle.no_room.specs.Kept.{Transfer, Publish}
use Rattle.no_room.specs.Functions.{machine_of}
use Rattle.no_room.specs.Promised.{promised_transfer, promised_publish, promised_but}

-- It decodes the first segment of pixels, and accepts and forgets those after it.
abbrev pub idling : Transfer
idling p c =
    cond (c.dc && ltb 0 p.state.controller.counts.pixels_written)
    (record { answer = record { panel = p.state; totals = no_totals; status = Ok tt }; memory = p.memory }) (promised_transfer p c)

-- It publishes to a frame whose first number is 0, and accepts and forgets every other publish.
abbrev pub publishing_once : Publish
publishing_once p frame =
    cond (eqb (get_or frame 0 0) 0) (promised_publish p frame)
    (record { answer = record { panel = p.state; span = None; flags = no_flags; status = Ok tt }; frame = frame })

-- The machines with one of them, over memory of zeros.
abbrev pub idler : Machine
idler = machine_of (promised_but idling promised_publish) (replicate 76800 0)

abbrev pub once_only : Machine
once_only = machine_of (promised_but promised_transfer publishing_once) (replicate 76800 0)

-- Two pixels, sent whole,
abbrev pub whole : List calls.Call
whole = calls.commands 0 (0x2C ∷ []) false ∷ calls.segment 1 (0xF8 ∷ 0x00 ∷ 0x07 ∷ 0xE0 ∷ []) false ∷ []

-- in two parts,
abbrev pub halved : List calls.Call
halved =
    calls.commands 0 (0x2C ∷ []) false ∷ calls.segment 1 (0xF8 ∷ 0x00 ∷ []) false ∷ calls.segment 2 (0x07 ∷ 0xE0 ∷ []) false ∷ []

-- and in two parts with a publish between.
abbrev pub published_between : List calls.Call
published_between =
    calls.commands 0 (0x2C ∷ []) false
    ∷ calls.segment 1 (0xF8 ∷ 0x00 ∷ []) false
    ∷ calls.publish
    ∷ calls.segment 2 (0x07 ∷ 0xE0 ∷ []) false
    ∷ []
