-- Data by its kind: in a run, for the command in force, or lost.
use Rattle.std.specs.Prelude.{Option, Some, None}
use Prim.Native.Nat.{ℕ}
use mathlib.Core.Path.{◌≡◌, ap₂}
use mathlib.Core.Bool.{Bool, true, false, cond}
use mathlib.Core.List.{List}
use lib.ListN.{length}
use Rattle.lists.specs.Params.{filled}
use Rattle.st7789.specs.Data.{on_current, more_pixels, ran, taken_for, listed_for, stored_for, data_in}
use Rattle.st7789.specs.declared.St7789p3.{St7789p3}

-- The panel after data, by whether a run is on and by the command in force.
abbrev pub data_by : Bool → Option ℕ → List ℕ → St7789p3 → St7789p3
data_by run f bytes s =
    record {
      controller = cond run (ran bytes s.controller) (taken_for f bytes s.controller);
      stored = cond run s.stored (stored_for f (filled s.controller.chip.decoder.params bytes) s.stored);
      records = on_current (λ r. cond run (more_pixels (length bytes) r) (listed_for f bytes r)) s.controller.logs.current s.records;
      warnings = s.warnings;
    }

module _ (bytes : List ℕ) (s : St7789p3) where
  pub data-by :
      (run : Bool) (f : Option ℕ) → s.controller.chip.decoder.in_pixels ≡ run → s.controller.chip.decoder.cmd ≡ f →
      data_in bytes s ≡ data_by run f bytes s
  unfolding data_in
  data-by run f e g = ap₂ (λ x y. data_by x y bytes s) e g

  -- What holds of every kind holds of the data.
  pub by_kind :
      (P : Bool → St7789p3 → Type 0) → ((f : Option ℕ) → P true (data_by true f bytes s)) → P false (data_by false None bytes s) →
      ((c : ℕ) → P false (data_by false (Some c) bytes s)) → P s.controller.chip.decoder.in_pixels (data_in bytes s)
  unfolding data_in
  by_kind P in_run lost for_command = go s.controller.chip.decoder.in_pixels s.controller.chip.decoder.cmd
    where
      go : (run : Bool) (f : Option ℕ) → P run (data_by run f bytes s)
      go true f = in_run f
      go false None = lost
      go false (Some c) = for_command c
