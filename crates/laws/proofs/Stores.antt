-- What a data segment stores: its two parts store what the whole stores, and every store lies in the panel.
use Rattle.std.specs.Prelude.{Option, Some, None}
use Prim.Native.Nat.{ℕ, ◌<◌}
use mathlib.Core.Path.{◌≡◌, refl, sym, ap, ◌∙◌}
use mathlib.Core.Bool.{Bool, true, false, cond, ◌&&◌}
use mathlib.Core.List.Memᴰ
use mathlib.Core.List.{List, [], ◌++◌, Memᴰ}
use Rattle.pixels.specs.Run.{Store}
use Rattle.pixels.proofs.Laws.{stores-cut}
use Rattle.pixels.proofs.Stores.{stores-below}
use Rattle.codes.specs.Codes.{command_of}
use Rattle.chip.specs.Apply.{chip_taken}
use Rattle.chip.specs.Site.{site_of, chip_stores}
use Rattle.chip.proofs.Cuts.{taken-run}
use Rattle.st7789.specs.Data.{ran, taken, taken_for, controller_data, stores_in}
use Rattle.st7789.specs.declared.Controller.{Controller}

-- What data stores, by whether a run is on.
abbrev pub stores_by : Bool → List ℕ → Controller → List Store
stores_by run bytes k = cond run (chip_stores k.cfg.formats k.chip bytes) []

stores-by : (bytes : List ℕ) (k : Controller) (run : Bool) → k.chip.decoder.in_pixels ≡ run → stores_in true bytes k ≡ stores_by run bytes k
stores-by bytes k run e = ap (λ x. stores_by x bytes k) e

pub stores_both : (a b : List ℕ) (k : Controller) → stores_in true (a ++ b) k ≡ stores_in true a k ++ stores_in true b (controller_data a k)
unfolding ran taken chip_taken
stores_both a b k = go k.chip.decoder.in_pixels k.chip.decoder.cmd refl
  where
    go :
        (run : Bool) (f : Option ℕ) → k.chip.decoder.in_pixels ≡ run →
        stores_by run (a ++ b) k ≡ stores_by run a k ++ stores_in true b (cond run (ran a k) (taken_for f a k))
    go true f e =
        stores-cut (site_of k.cfg.formats k.chip) a b k.chip.walk
        ∙ ap (λ l. stores_by true a k ++ l) (sym (stores-by b (ran a k) true e))
    go false None e = sym (stores-by b k false e)
    go false (Some c) e = sym (stores-by b (taken c a k) false (taken-run (command_of c) a k.chip ∙ e))

pub in-panel : (dc : Bool) (bytes : List ℕ) (k : Controller) (x : Store) → Memᴰ x (stores_in dc bytes k) → x.index < 76800
in-panel dc bytes k x = go (dc && k.chip.decoder.in_pixels)
  where
    go : (run : Bool) → Memᴰ x (stores_by run bytes k) → x.index < 76800
    go true m = stores-below (site_of k.cfg.formats k.chip) k.chip.walk bytes x m
    go false m = elim (Memᴰ.not-nil m) [ ]
