-- Rules: the rows that the next publishing copies. Nothing but this file and its laws looks into the marks.
use Rattle.std.specs.Prelude.{ℕ, min, max, Bool, false, ◌&&◌, ◌||◌, ltb, leb, Option, Some, None}
use Rattle.marks.specs.declared.Marks.{Marks}

-- A span with one more row: the smallest that holds both.
abbrev pub widened : Option (ℕ × ℕ) → ℕ → Option (ℕ × ℕ)
widened None row = Some (row, row)
widened (Some (first, last)) row = Some (min first row, max last row)

-- Whether a row lies in a span.
abbrev pub in_span : ℕ → Option (ℕ × ℕ) → Bool
in_span row None = false
in_span row (Some (first, last)) = leb first row && leb row last

-- No row: "empties the span".
unfoldable pub no_rows : Marks
no_rows = record { span = None }

-- Every row: "Mark-all makes the span 0 to 319."
unfoldable pub all_rows : Marks
all_rows = record { span = Some (0, 319) }

-- The marks of a span as it stands, also of one that no call leaves.
unfoldable pub of_span : Option (ℕ × ℕ) → Marks
of_span span = record { span = span }

-- One row more: "a stored pixel widens the dirty span by its row".
unfoldable pub mark : Marks → ℕ → Marks
mark m row = record { span = widened m.span row }

-- Every row from one to another more, in either order.
abbrev pub mark_rows : Marks → ℕ → ℕ → Marks
mark_rows m a b = mark (mark m a) b

-- Whether a row is marked: "the rows .. in the span marked for copying".
unfoldable pub is_marked : Marks → ℕ → Bool
is_marked m row = in_span row m.span

-- First and last: "answers span".
unfoldable pub span_of : Marks → Option (ℕ × ℕ)
span_of m = m.span

-- BAD_STATE: "the dirty span has first above last, or last above 319"
abbrev pub span_bad : Option (ℕ × ℕ) → Bool
span_bad None = false
span_bad (Some (first, last)) = ltb last first || ltb 319 last

unfoldable pub marks_bad : Marks → Bool
marks_bad m = span_bad m.span
