-- Rules: 02, Q-14, what the profiles leave alike: the lint as it was, a panel but for its warnings and its profile, the warnings of rules
-- 1 to 3.
use Rattle.std.specs.Prelude.{ℕ, ◌<◌, ◌≡◌, Bool, false, cond, ltb, length}
use mathlib.Core.List.{List, [], ◌∷◌, ◌++◌, map, foldl}
use Rattle.codes.specs.Codes.{kind_of}
use Rattle.lists.specs.Fixed.{places, used, push_all}
use Rattle.lists.specs.declared.Warning.{Warning}
use Rattle.timing.specs.Lint.{breaks1, breaks2, breaks3, only}
use Rattle.board.specs.Board.{switch_set, strict_set}
use Rattle.board.specs.declared.PanelConfig.{PanelConfig}
use Rattle.status.specs.Numbers.{unless_refused}
use Rattle.st7789.specs.Parts.{warnings_of, with_controller, with_cfg, with_warnings}
use Rattle.st7789.specs.Command.{warning, after_lint, released}
use Rattle.st7789.specs.Data.{data_in}
use Rattle.st7789.specs.Entries.{refusal_with}
use Rattle.st7789.specs.declared.PanelMemory.{PanelMemory}
use Rattle.st7789.specs.declared.Controller.{Controller}
use Rattle.st7789.specs.declared.St7789p3.{St7789p3}

-- The rules that c breaks at time t, rule 4 left out: 01's "(1) .. (2) .. (3) .. In that order".
abbrev pub three_rules : ℕ → ℕ → Controller → List ℕ
three_rules c t k =
    only (breaks1 k.chip.times (kind_of c) t) 1
    ++ (only (breaks2 k.chip.times (kind_of c) t) 2 ++ only (breaks3 k.cfg.formats k.chip.registers.colmod (kind_of c)) 3)

-- "all warnings are as before": the begin of a command, a segment and a transfer by these rules, everything else as it is.
abbrev pub begun_before : ℕ → ℕ → St7789p3 → St7789p3
begun_before c t s = after_lint c t (with_warnings (push_all places (warnings_of s) (map (warning c t) (three_rules c t s.controller))) s)

abbrev pub moved_before : ℕ → Bool → List ℕ → Bool → St7789p3 → St7789p3
moved_before t dc bytes cs s =
    let r : St7789p3 = cond dc (data_in bytes s) (foldl (λ s c. begun_before c t s) s bytes) in
    cond cs (released r) r

abbrev pub transferred_before : PanelMemory → ℕ → Bool → List ℕ → Bool → ℕ → St7789p3 → St7789p3
transferred_before memory t dc bytes cs cells s =
    unless_refused (refusal_with memory s cells (length bytes)) (moved_before t dc bytes cs s) s

-- What is chosen when a panel is made: its configuration but for the switch, which can be set.
abbrev pub chosen : St7789p3 → PanelConfig
chosen s = switch_set false s.controller.cfg

-- A panel but for its warnings and its profile: as if nothing had been warned of, under plain.
abbrev pub unwarned : St7789p3 → St7789p3
unwarned s =
    with_warnings (record { count = 0; places = [] }) (with_controller (with_cfg (strict_set false s.controller.cfg) s.controller) s)

-- "those of rules 1 to 3", in their order.
abbrev pub of_three : List Warning → List Warning
of_three [] = []
of_three (w ∷ ws) = cond (ltb w.rule 4) (w ∷ of_three ws) (of_three ws)

-- A plain panel and a strict one: everything but the warnings and the profile is equal, and "those of rules 1 to 3 are the same while
-- neither list is full." A full list stays full until its warnings are taken or the board rail resets the panel, so one that isn't full
-- has lost none since; and the plain one's is then no longer than the strict one's.
pub record ProfilesAgree (p s : St7789p3) : Type 0 where
  pub rest : unwarned p ≡ unwarned s
  pub three : s.controller.logs.warned < places → of_three (used (warnings_of s)) ≡ used (warnings_of p)
