-- Examples: two hosts for which demand 3 says something: what both have to do, and the calls of each.
use Rattle.std.specs.Prelude.{ℕ, Bool, true, false, ◌&&◌, List, [], ◌∷◌, get_or, eqb, Option, Some, None}
use Rattle.marks.specs.Rows.{span_of}
use Rattle.board.specs.declared.BoardDomain.TheVariants.{BoardRail}
use Rattle.light.specs.declared.FrameView.TheVariants.{Glass}
use Rattle.views.specs.declared.Memory.TheVariants.{Panel}
use Rattle.hosts.specs.Calls.{Host, Call, commands, segment, publish, reset, mark_all, power, brightness, pixel, view, row, compare, sets, looks}
use Rattle.hosts.specs.Hosts.{marks_of}

-- Two pixels and a CS release, a stored command, a pixel of another row.
abbrev pub plan : List Call
plan =
    reset BoardRail
    ∷ sets (power true)
    ∷ commands 5 (0x2C ∷ []) false
    ∷ segment 0 (0xF8 ∷ 0x00 ∷ 0x07 ∷ 0xE0 ∷ []) true
    ∷ mark_all
    ∷ commands 6 (0xB2 ∷ []) false
    ∷ segment 0 (0x05 ∷ 0x0A ∷ []) false
    ∷ sets (brightness 1 2 3)
    ∷ commands 7 (0x2B ∷ []) false
    ∷ segment 0 (0x00 ∷ 0x09 ∷ 0x01 ∷ 0x3F ∷ []) false
    ∷ commands 8 (0x2C ∷ []) false
    ∷ segment 0 (0x12 ∷ 0x34 ∷ []) false
    ∷ []

-- The first sends every segment whole, and publishes twice.
abbrev pub first : List Call
first =
    reset BoardRail
    ∷ sets (power true)
    ∷ publish
    ∷ commands 5 (0x2C ∷ []) false
    ∷ segment 11 (0xF8 ∷ 0x00 ∷ 0x07 ∷ 0xE0 ∷ []) true
    ∷ looks (pixel Glass 0 0)
    ∷ mark_all
    ∷ commands 6 (0xB2 ∷ []) false
    ∷ segment 12 (0x05 ∷ 0x0A ∷ []) false
    ∷ publish
    ∷ sets (brightness 1 2 3)
    ∷ commands 7 (0x2B ∷ []) false
    ∷ segment 13 (0x00 ∷ 0x09 ∷ 0x01 ∷ 0x3F ∷ []) false
    ∷ commands 8 (0x2C ∷ []) false
    ∷ segment 14 (0x12 ∷ 0x34 ∷ []) false
    ∷ []

-- The second cuts: an odd byte waits over a publish and an empty part; a stored command and a window come in two parts.
abbrev pub second : List Call
second =
    reset BoardRail
    ∷ sets (power true)
    ∷ commands 5 (0x2C ∷ []) false
    ∷ segment 1 (0xF8 ∷ []) false
    ∷ publish
    ∷ segment 2 [] false
    ∷ segment 2 (0x00 ∷ 0x07 ∷ []) false
    ∷ looks (row Panel 0)
    ∷ segment 3 (0xE0 ∷ []) true
    ∷ mark_all
    ∷ commands 6 (0xB2 ∷ []) false
    ∷ segment 4 (0x05 ∷ []) false
    ∷ segment 4 (0x0A ∷ []) false
    ∷ sets (brightness 1 2 3)
    ∷ commands 7 (0x2B ∷ []) false
    ∷ segment 5 (0x00 ∷ 0x09 ∷ 0x01 ∷ []) false
    ∷ looks compare
    ∷ segment 5 (0x3F ∷ []) false
    ∷ publish
    ∷ commands 8 (0x2C ∷ []) false ∷ segment 6 (0x12 ∷ 0x34 ∷ []) false
    ∷ looks (view Glass 76800)
    ∷ []

-- One pixel of 18 bits, for panels that read the formats: the first host sends it whole, the second in two parts with a publish between.
abbrev pub pixel_plan : List Call
pixel_plan = commands 5 (0x2C ∷ []) false ∷ segment 0 (0xFC ∷ 0x00 ∷ 0x00 ∷ []) false ∷ []

abbrev pub pixel_whole : List Call
pixel_whole = commands 5 (0x2C ∷ []) false ∷ segment 1 (0xFC ∷ 0x00 ∷ 0x00 ∷ []) false ∷ []

abbrev pub pixel_cut : List Call
pixel_cut = commands 5 (0x2C ∷ []) false ∷ segment 1 (0xFC ∷ 0x00 ∷ []) false ∷ publish ∷ segment 2 (0x00 ∷ []) false ∷ []

-- Whether a span is these rows.
abbrev pub is_rows : ℕ → ℕ → Option (ℕ × ℕ) → Bool
is_rows f l None = false
is_rows f l (Some (first, last)) = eqb first f && eqb last l

-- What a host leaves to its last publish: row 9, stored to since the publish before, and not yet in the frame.
abbrev pub left_over : Host → Bool
left_over h =
    is_rows 9 9 (span_of (marks_of h)) && (eqb (get_or h.memory 2160 0) 0x1234 && eqb (get_or h.frame 2160 0) 0)
