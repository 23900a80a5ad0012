-- Rules: 01, "The log and its program": a log replayed, and printed.
use Rattle.std.specs.Prelude.{ℕ, ◌≡◌, true, length}
use mathlib.Core.List.{List, [], ◌∷◌, foldl}
use Rattle.status.specs.Numbers.{unless_refused}
use Rattle.logs.specs.Log.{Segment, segments, log_refusal, bad_offset}
use Rattle.board.specs.Board.{switched_to}
use Rattle.board.specs.declared.PanelConfig.{PanelConfig}
use Rattle.st7789.specs.Refusals.{bare_refusal}
use Rattle.st7789.specs.Entries.{fresh_panel, moved, bare_transferred}
use Rattle.st7789.specs.declared.St7789p3.{St7789p3}
use Rattle.lines.specs.Lines.{ascii, line}
use Rattle.report.specs.Report.{report}

-- "the switch as asked (true in a log)"
abbrev pub logged : PanelConfig
logged = switched_to true

-- One record of the log as a transfer without memory.
abbrev pub sent : St7789p3 → Segment → St7789p3
sent s r = bare_transferred r.time r.dc r.bytes r.release s

-- "on a fresh panel without memory"
unfoldable pub replayed : List ℕ → St7789p3
replayed log = foldl sent (fresh_panel logged) (segments log)

-- "The log is checked whole before any record runs": a refused log leaves a fresh panel.
abbrev pub replayed_if_good : List ℕ → St7789p3
replayed_if_good log = unless_refused (log_refusal log) (replayed log) (fresh_panel logged)

-- "A refusal prints `refused N P` (P the offset, 0 for LOG_LONG)."
unfoldable pub printed : List ℕ → List ℕ
printed log = unless_refused (log_refusal log) (report (replayed log)) (line (ascii "refused") (log_refusal log ∷ bad_offset log ∷ []))

-- What `exactly-replayed` and `stored-printed` are said with: one record as what an accepted transfer does.
abbrev pub made : St7789p3 → Segment → St7789p3
made s r = moved r.time r.dc r.bytes r.release s

-- What `none-refused-in-log` says: none of the transfers is refused where it comes.
abbrev pub NoneRefused : St7789p3 → List Segment → Type 0
NoneRefused s [] = Unit {0}
NoneRefused s (r ∷ rs) = (bare_refusal s (length r.bytes) ≡ 0) × NoneRefused (sent s r) rs
