-- The rows to copy: a transfer does not read them, and marks the rows of what it stores.
use Rattle.std.specs.Prelude.{Option, Some, None}
use Prim.Native.Nat.{ℕ}
use mathlib.Core.Path.{◌≡◌, refl, sym, ap, ◌∙◌}
use mathlib.Core.Bool.{Bool, true, false, cond}
use mathlib.Core.List.{List, [], ◌∷◌}
use Rattle.marks.specs.Rows.{no_rows}
use Rattle.pixels.specs.Run.{marked}
use Rattle.st7789.specs.Parts.{with_controller, with_marks}
use Rattle.st7789.specs.Command.{begun, begun_all, controller_released, released}
use Rattle.st7789.specs.Data.{ran, taken, data_in, stores_in}
use Rattle.st7789.specs.Entries.{rail_reset, moved}
use Rattle.st7789.specs.declared.St7789p3.{St7789p3}
use Rattle.laws.proofs.DataKinds.{data_by, by_kind}
use Rattle.laws.proofs.Stores.{stores_by}

-- A panel with no row to copy, and otherwise as it is.
abbrev pub unmarked : St7789p3 → St7789p3
unmarked s = with_controller (with_marks no_rows s.controller) s

begun-unmarked : (t : ℕ) (bytes : List ℕ) (s : St7789p3) → begun_all t bytes (unmarked s) ≡ unmarked (begun_all t bytes s)
unfolding begun
begun-unmarked t [] s = refl
begun-unmarked t (c ∷ bytes) s = begun-unmarked t bytes (begun c t s)

pub data-unmarked : (bytes : List ℕ) (s : St7789p3) → unmarked (data_in bytes s) ≡ unmarked (data_in bytes (unmarked s))
unfolding data_in ran taken
data-unmarked bytes s = go s.controller.chip.decoder.in_pixels s.controller.chip.decoder.cmd
  where
    go : (run : Bool) (f : Option ℕ) → unmarked (data_by run f bytes s) ≡ unmarked (data_by run f bytes (unmarked s))
    go true f = refl
    go false None = refl
    go false (Some c) = refl

pub release-unmarked : (cs : Bool) (s r : St7789p3) → unmarked s ≡ unmarked r → unmarked (cond cs (released s) s) ≡ unmarked (cond cs (released r) r)
unfolding controller_released
release-unmarked true s r e = ap released e
release-unmarked false s r e = e

pub moved-unmarked :
    (t : ℕ) (dc : Bool) (bytes : List ℕ) (cs : Bool) (s : St7789p3) → unmarked (moved t dc bytes cs s) ≡ unmarked (moved t dc bytes cs (unmarked s))
unfolding moved
moved-unmarked t true bytes cs s = release-unmarked cs (data_in bytes s) (data_in bytes (unmarked s)) (data-unmarked bytes s)
moved-unmarked t false bytes cs s =
    release-unmarked cs (begun_all t bytes s) (begun_all t bytes (unmarked s)) (ap unmarked (sym (begun-unmarked t bytes s)))

-- Nor does a reset read them.
pub rail-unmarked : (rail : Bool) (s : St7789p3) → unmarked (rail_reset rail s) ≡ unmarked (rail_reset rail (unmarked s))
rail-unmarked true s = refl
rail-unmarked false s = refl

-- Which rows are marked afterwards.
release-keeps : (cs : Bool) (s : St7789p3) → (cond cs (released s) s).controller.marks ≡ s.controller.marks
unfolding controller_released
release-keeps true s = refl
release-keeps false s = refl

begun-keeps : (t : ℕ) (bytes : List ℕ) (s : St7789p3) → (begun_all t bytes s).controller.marks ≡ s.controller.marks
unfolding begun
begun-keeps t [] s = refl
begun-keeps t (c ∷ bytes) s = begun-keeps t bytes (begun c t s)

data-marks : (bytes : List ℕ) (s : St7789p3) → (data_in bytes s).controller.marks ≡ marked s.controller.marks (stores_in true bytes s.controller)
unfolding ran taken
data-marks bytes s =
    by_kind bytes s (λ run r. r.controller.marks ≡ marked s.controller.marks (stores_by run bytes s.controller))
    (λ f. refl) refl (λ c. refl)

pub moved_marks :
    (t : ℕ) (dc : Bool) (bytes : List ℕ) (cs : Bool) (s : St7789p3) →
    (moved t dc bytes cs s).controller.marks ≡ marked s.controller.marks (stores_in dc bytes s.controller)
unfolding moved
moved_marks t true bytes cs s = release-keeps cs (data_in bytes s) ∙ data-marks bytes s
moved_marks t false bytes cs s = release-keeps cs (begun_all t bytes s) ∙ begun-keeps t bytes s
