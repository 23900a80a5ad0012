-- Every public operation keeps a state good, and a fresh panel is good: BAD_STATE never arises from a fresh panel.
use Prim.Native.Nat.{ℕ}
use mathlib.Core.Path.{◌≡◌, refl, ap, ◌∙◌}
use mathlib.Core.Bool.{Bool, true, false}
use mathlib.Core.List.{List}
use lib.ListN.{length, get_or-replicate}
use Rattle.lists.specs.Fixed.{places}
use Rattle.lists.specs.declared.Warning.{Warning}
use Rattle.lists.specs.Entries.{empty_record}
use Rattle.formats.specs.Formats.{carry_bad}
use Rattle.chip.specs.Site.{format_in}
use Rattle.chip.specs.Begin.{fresh_chip}
use Rattle.status.specs.Tests.{memory_refusal}
use Rattle.status.proofs.Unless.{unless-either}
use Rattle.marks.specs.Rows.{marks_bad, no_rows, all_rows}
use Rattle.marks.proofs.Laws.{none-good, all-good}
use Rattle.marks.specs.declared.Marks.{Marks}
use Rattle.board.specs.Board.{is_board_rail}
use Rattle.st7789.specs.Parts.{with_controller, whole, with_cfg, with_power}
use Rattle.st7789.specs.Data.{no_record}
use Rattle.st7789.specs.Refusals.{transfer_refusal, bare_refusal, count_bad, bad_state}
use Rattle.st7789.specs.Entries.{fresh_controller, empty_lists, fresh_panel, rail_reset, moved, transferred, bare_transferred, reset_state, powered_set, shows_set, brightness_set, all_marked, warnings_taken}
use Rattle.board.specs.declared.PanelConfig.{PanelConfig}
use Rattle.board.specs.declared.Power.{Power}
use Rattle.st7789.specs.declared.Counts.{Counts}
use Rattle.board.specs.declared.BoardDomain.{BoardDomain}
use Rattle.st7789.specs.declared.St7789p3.{St7789p3}
use Rattle.st7789.proofs.Tests.{clause}
use Rattle.laws.specs.Valid.{Good}
use Rattle.laws.proofs.Marks.{unmarked}
use Rattle.laws.proofs.Stays.{fine_of, chip-within, lined, put-fine, put-good, moved-good}

pub transferred-good :
    (t : ℕ) (dc : Bool) (bytes : List ℕ) (cs : Bool) (cells : ℕ) (s : St7789p3) → Good s → Good (transferred t dc bytes cs cells s)
unfolding transferred
transferred-good t dc bytes cs cells s g =
    unless-either (transfer_refusal s cells (length bytes)) (moved t dc bytes cs s) s Good (moved-good t dc bytes cs s g) g

pub bare-good : (t : ℕ) (dc : Bool) (bytes : List ℕ) (cs : Bool) (s : St7789p3) → Good s → Good (bare_transferred t dc bytes cs s)
unfolding bare_transferred
bare-good t dc bytes cs s g = unless-either (bare_refusal s (length bytes)) (moved t dc bytes cs s) s Good (moved-good t dc bytes cs s g) g

-- A fresh panel.
pub fresh-good : (cfg : PanelConfig) → Good (fresh_panel cfg)
unfolding fresh_controller empty_lists fresh_chip bad_state no_rows marks_bad
fresh-good cfg =
    record {
      sized =
          record {
            records = refl;
            bytes = refl;
            each = λ i h. ap (λ r. length r.params.bytes) (get_or-replicate places i empty_record no_record h);
            warnings = refl;
          };
      fine = refl;
      quiet = λ off. refl;
    }

-- What the tests do not look at may change, the configuration but for its mode of formats, and the span and the count of warnings within
-- their bounds.
pub unseen-good :
    (cfg : PanelConfig) (power : Power) (counts : Counts) (marks : Marks) (warned : ℕ) (warnings : List Warning) (s : St7789p3) → Good s →
    cfg.formats ≡ s.controller.cfg.formats → length warnings ≡ places → marks_bad marks ≡ false → count_bad warned ≡ false →
    Good
    (record {
      controller =
          whole cfg power s.controller.chip counts marks
          (record { traced = s.controller.logs.traced; warned = warned; current = s.controller.logs.current });
      stored = s.stored;
      records = s.records;
      warnings = warnings;
    })
unseen-good cfg power counts marks warned warnings s g ef el ed ew =
    let f = fine_of s g in
    put-good _
    (put-fine _ (chip-within s f) g.sized.bytes el (lined s f) (clause s g.fine 3) ew ed
    (ap (λ b. carry_bad (format_in b s.controller.chip) s.controller.chip.walk.carry) ef ∙ clause s g.fine 9))
    g.quiet

-- Switches, marking all rows and none, taking warnings, resets.
module _ (s : St7789p3) (g : Good s) where
  -- A switch: another configuration of the same mode, or power.
  pub switched-good :
      (cfg : PanelConfig) (power : Power) → cfg.formats ≡ s.controller.cfg.formats →
      Good (with_controller (with_power power (with_cfg cfg s.controller)) s)
  switched-good cfg power e = unseen-good _ _ _ _ _ _ s g e g.sized.warnings (clause s g.fine 7) (clause s g.fine 6)

  pub powered-good : (on : Bool) → Good (with_controller (powered_set on s.controller) s)
  powered-good on = switched-good _ _ refl

  pub shows-good : (shows : Bool) → Good (with_controller (shows_set shows s.controller) s)
  shows-good shows = switched-good _ _ refl

  pub brightness-good : (level scale duty : ℕ) → Good (with_controller (brightness_set level scale duty s.controller) s)
  brightness-good level scale duty = switched-good _ _ refl

  pub marked-good : Good (with_controller (all_marked s.controller) s)
  marked-good = unseen-good _ _ _ _ _ _ s g refl g.sized.warnings all-good (clause s g.fine 6)

  -- What a publish leaves of the state.
  pub unmarked-good : Good (unmarked s)
  unmarked-good = unseen-good _ _ _ _ _ _ s g refl g.sized.warnings none-good (clause s g.fine 6)

  pub taken-warnings-good : Good (warnings_taken s).panel
  taken-warnings-good = unseen-good _ _ _ _ _ _ s g refl g.sized.warnings (clause s g.fine 7) refl

  pub rail-good : (rail : Bool) → Good (rail_reset rail s)
  unfolding empty_lists
  rail-good true =
      let h = fresh-good s.controller.cfg in
      unseen-good _ _ _ all_rows _ _ (fresh_panel s.controller.cfg) h refl h.sized.warnings all-good (clause _ h.fine 6)
  rail-good false = g

  pub reset-good : (domain : BoardDomain) (cells : ℕ) → Good (reset_state domain cells s)
  unfolding reset_state
  reset-good domain cells = unless-either (memory_refusal cells) (rail_reset (is_board_rail domain) s) s Good (rail-good (is_board_rail domain)) g
