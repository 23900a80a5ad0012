-- The record at a place of the trace, by its content.
use Prim.Native.Nat.{ℕ, ◌<◌}
use mathlib.Core.Path.{◌≡◌, ap, ◌∙◌}
use mathlib.Core.List.{map}
use lib.ListN.{take, get_or, get_or-map}
use lib.Seq.{get_or-take}
use Rattle.lists.specs.Fixed.{Fixed, used}
use Rattle.lists.specs.declared.TraceRecord.{TraceRecord}
use Rattle.st7789.specs.Data.{no_record}
use Rattle.laws.specs.Same.{Entry, entry}

-- What stands past the end.
abbrev pub no_entry : Entry
no_entry = entry no_record

pub entry_at :
    (t : Fixed TraceRecord) (i : ℕ) → i < t.count → get_or (map entry (used t)) i no_entry ≡ entry (get_or t.places i no_record)
entry_at t i h = get_or-map entry (take t.count t.places) i no_record ∙ ap entry (get_or-take t.count t.places i no_record h)
