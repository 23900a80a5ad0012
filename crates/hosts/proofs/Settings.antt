-- What a setting leaves: it changes the configuration, but for its mode of formats, and the power, each by itself, and nothing else.
use mathlib.Core.Path.{◌≡◌, refl, sym, ap, ◌∙◌}
use Rattle.board.specs.Board.{switch_set, powered_to, lit_to}
use Rattle.board.specs.declared.PanelConfig.{PanelConfig}
use Rattle.board.specs.declared.Power.{Power}
use Rattle.st7789.specs.Parts.{with_controller, with_cfg, with_power}
use Rattle.st7789.specs.declared.Controller.{Controller}
use Rattle.st7789.specs.declared.St7789p3.{St7789p3}
use Rattle.laws.specs.Valid.{Good}
use Rattle.laws.proofs.Marks.{unmarked}
use Rattle.laws.proofs.Reach.{switched-good}
use Rattle.hosts.specs.Calls.{Setting, power, shows, brightness, settled}

pub record Settles (f : Controller → Controller) : Type 0 where
  pub cfg_by : PanelConfig → PanelConfig
  pub mode : (cfg : PanelConfig) → (cfg_by cfg).formats ≡ cfg.formats
  pub power_by : Power → Power
  pub only : (k : Controller) → f k ≡ with_power (power_by k.power) (with_cfg (cfg_by k.cfg) k)

pub settles : (x : Setting) → Settles (settled x)
settles (power on) = record { cfg_by = λ c. c; mode = λ c. refl; power_by = powered_to on; only = λ k. refl }
settles (shows on) = record { cfg_by = switch_set on; mode = λ c. refl; power_by = λ p. p; only = λ k. refl }
settles (brightness level scale duty) = record { cfg_by = λ c. c; mode = λ c. refl; power_by = lit_to level scale duty; only = λ k. refl }

-- The panel with it made.
abbrev pub panel_settled : Setting → St7789p3 → St7789p3
panel_settled x s = with_controller (settled x s.controller) s

module _ (x : Setting) (s : St7789p3) where
  pub settled-good : Good s → Good (panel_settled x s)
  settled-good g = rw ((settles x).only s.controller) (switched-good s g _ _ ((settles x).mode s.controller.cfg))

  pub settled-marks : (panel_settled x s).controller.marks ≡ s.controller.marks
  settled-marks = ap (λ (k : Controller). k.marks) ((settles x).only s.controller)

  pub settled-unmarked : unmarked (panel_settled x s) ≡ unmarked (panel_settled x (unmarked s))
  settled-unmarked =
      ap (λ k. unmarked (with_controller k s)) ((settles x).only s.controller)
      ∙ sym (ap (λ k. unmarked (with_controller k s)) ((settles x).only (unmarked s).controller))
