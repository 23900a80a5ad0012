-- Rules: 01, "The log and its program": what the program prints of a warning and of a trace record.
use Rattle.std.specs.Prelude.{ℕ, List, [], ◌∷◌, ◌++◌}
use Rattle.lists.specs.Params.{listed}
use Rattle.lists.specs.declared.TraceRecord.{TraceRecord}
use Rattle.lists.specs.declared.Warning.{Warning}
use Rattle.lines.specs.Lines.{ascii, numbers, hex_bytes, newline}

-- "w: rule, command, time."
unfoldable pub warning_line : Warning → List ℕ
warning_line w = ascii "w" ++ numbers (w.rule ∷ []) ++ hex_bytes (w.cmd ∷ []) ++ numbers (w.at ∷ []) ++ newline

-- "t: command, time, pixel bytes, then each parameter in hex after a space."
unfoldable pub trace_line : TraceRecord → List ℕ
trace_line r =
    ascii "t"
    ++ hex_bytes (r.cmd ∷ [])
    ++ numbers (r.at ∷ r.pixel_bytes ∷ [])
    ++ hex_bytes (listed r.params)
    ++ newline
