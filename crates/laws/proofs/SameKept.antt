-- Same states stay the same by a reset, a switch, mark-all and taking warnings.
use Prim.Native.Nat.{ℕ}
use mathlib.Core.Path.{◌≡◌, ap}
use mathlib.Core.Bool.{Bool, true, false, cond}
use mathlib.Core.List.{[]}
use lib.Dec.{eqb}
use lib.ListN.{take}
use Rattle.marks.specs.Rows.{no_rows}
use Rattle.status.specs.Tests.{memory_refusal}
use Rattle.board.specs.Board.{is_board_rail}
use Rattle.board.specs.declared.BoardDomain.{BoardDomain}
use Rattle.st7789.specs.Parts.{with_controller, with_marks, with_logs}
use Rattle.st7789.specs.Entries.{fresh_controller, empty_lists, rail_reset, reset_state, powered_set, shows_set, brightness_set, all_marked, warnings_taken}
use Rattle.st7789.specs.declared.Controller.{Controller}
use Rattle.st7789.specs.declared.St7789p3.{St7789p3}
use Rattle.laws.specs.Same.{Content, content, Same}
use Rattle.laws.proofs.Marks.{unmarked}

-- The fields changed, and the lists as they are.
abbrev with_fields : Controller → Content → Content
with_fields k v = record { fields = k; params = v.params; stored = v.stored; trace = v.trace; warnings = v.warnings }

module _ (s r : St7789p3) (e : Same s r) where
  pub powered-same : (on : Bool) → Same (with_controller (powered_set on s.controller) s) (with_controller (powered_set on r.controller) r)
  powered-same on = ap (λ v. with_fields (powered_set on v.fields) v) e

  pub shows_same : (on : Bool) → Same (with_controller (shows_set on s.controller) s) (with_controller (shows_set on r.controller) r)
  shows_same on = ap (λ v. with_fields (shows_set on v.fields) v) e

  pub brightness-same :
      (level scale duty : ℕ) →
      Same (with_controller (brightness_set level scale duty s.controller) s) (with_controller (brightness_set level scale duty r.controller) r)
  brightness-same level scale duty = ap (λ v. with_fields (brightness_set level scale duty v.fields) v) e

  pub marked-same : Same (with_controller (all_marked s.controller) s) (with_controller (all_marked r.controller) r)
  marked-same = ap (λ v. with_fields (all_marked v.fields) v) e

  pub unmarked-same : Same (unmarked s) (unmarked r)
  unmarked-same = ap (λ v. with_fields (with_marks no_rows v.fields) v) e

  -- The warnings that are handed over, and what is left.
  abbrev unwarned : Content → Content
  unwarned v =
      record {
        fields = with_logs (record { traced = v.fields.logs.traced; warned = 0; current = v.fields.logs.current }) v.fields;
        params = v.params;
        stored = v.stored;
        trace = v.trace;
        warnings = [];
      }

  pub taken-warnings-same : Same (warnings_taken s).panel (warnings_taken r).panel
  taken-warnings-same = ap unwarned e

  pub handed-same :
      ((warnings_taken s).count ≡ (warnings_taken r).count)
      × (take (warnings_taken s).count (warnings_taken s).warnings ≡ take (warnings_taken r).count (warnings_taken r).warnings)
  handed-same = (ap (λ v. v.fields.logs.warned) e, ap (λ v. v.warnings) e)

  rail-same : (rail : Bool) → Same (rail_reset rail s) (rail_reset rail r)
  rail-same true = ap (λ v. content (empty_lists (all_marked (fresh_controller v.fields.cfg)))) e
  rail-same false = e

  pub reset-same : (domain : BoardDomain) (cells : ℕ) → Same (reset_state domain cells s) (reset_state domain cells r)
  unfolding reset_state
  reset-same domain cells = go (eqb (memory_refusal cells) 0)
    where
      go : (b : Bool) → Same (cond b (rail_reset (is_board_rail domain) s) s) (cond b (rail_reset (is_board_rail domain) r) r)
      go true = rail-same (is_board_rail domain)
      go false = e
