-- What a transfer answers of its pixels: the counts grow by it, a cut adds up, and stored is the number of stores.
use Rattle.std.specs.Prelude.{Option, Some, None}
use Prim.Native.Nat.{ℕ}
use mathlib.Core.Path.{◌≡◌, refl, sym, ap, ◌∙◌}
use mathlib.Core.Bool.{Bool, true, false, cond}
use mathlib.Core.List.{List, [], ◌∷◌, ◌++◌}
use native.Mathlib.Omega.{arith}
use lib.Dec.{eqb}
use lib.ListN.{length}
use Rattle.pixels.specs.Run.{Store, added, no_totals, totals_of, stores}
use Rattle.pixels.specs.declared.Totals.{Totals}
use Rattle.pixels.proofs.Sums.{totals-cut, totals-counted}
use Rattle.codes.specs.Codes.{command_of}
use Rattle.chip.specs.Apply.{chip_taken}
use Rattle.chip.specs.Site.{site_of, chip_stores, chip_totals}
use Rattle.chip.proofs.Cuts.{taken-run}
use Rattle.status.specs.Numbers.{unless_refused}
use Rattle.st7789.specs.Command.{begun, begun_all, controller_released, released}
use Rattle.st7789.specs.Data.{ran, taken, data_in, stores_in, totals_in}
use Rattle.st7789.specs.Refusals.{transfer_refusal, bare_refusal}
use Rattle.st7789.specs.Entries.{moved, transferred, bare_transferred, transfer_totals, bare_totals, transferred_with, totals_with}
use Rattle.st7789.specs.declared.PanelMemory.{PanelMemory}
use Rattle.st7789.specs.declared.PanelMemory.TheVariants.{Lent, Without}
use Rattle.st7789.specs.declared.Controller.{Controller}
use Rattle.st7789.specs.declared.St7789p3.{St7789p3}
use Rattle.laws.specs.Answered.{Answered}
use Rattle.laws.proofs.DataKinds.{data_by, by_kind}

-- Commands write no pixel and drop no parameter.
pub begun-others : (t : ℕ) (bytes : List ℕ) (s : St7789p3) →
    ((begun_all t bytes s).controller.counts.pixels_written ≡ s.controller.counts.pixels_written)
    × (((begun_all t bytes s).controller.counts.dropped_params ≡ s.controller.counts.dropped_params)
    × (((begun_all t bytes s).controller.counts.inverted ≡ s.controller.counts.inverted)
    × ((begun_all t bytes s).controller.counts.unmapped ≡ s.controller.counts.unmapped)))
unfolding begun
begun-others t [] s = (refl, (refl, (refl, refl)))
begun-others t (c ∷ bytes) s = begun-others t bytes (begun c t s)

-- What keeps the counts answers none.
kept-answered :
    (s r : St7789p3) → r.controller.counts.pixels_written ≡ s.controller.counts.pixels_written →
    r.controller.counts.inverted ≡ s.controller.counts.inverted → r.controller.counts.unmapped ≡ s.controller.counts.unmapped →
    Answered no_totals s r
kept-answered s r ep ei eu = record { pixels = omega arith; inverted = omega arith; unmapped = omega arith }

data-answered : (bytes : List ℕ) (s : St7789p3) → Answered (totals_in true bytes s.controller) s (data_in bytes s)
unfolding ran taken
data-answered bytes s =
    by_kind bytes s (λ run r. Answered (cond run (chip_totals s.controller.cfg.formats s.controller.chip bytes) no_totals) s r)
    (λ f.
    record {
      pixels = omega (arith, totals-counted (site_of s.controller.cfg.formats s.controller.chip) s.controller.chip.walk bytes);
      inverted = refl;
      unmapped = refl;
    })
    (kept-answered s (data_by false None bytes s) refl refl refl)
    (λ c. kept-answered s (data_by false (Some c) bytes s) refl refl refl)

moved-answered : (t : ℕ) (dc : Bool) (bytes : List ℕ) (cs : Bool) (s : St7789p3) → Answered (totals_in dc bytes s.controller) s (moved t dc bytes cs s)
unfolding moved controller_released
moved-answered t dc bytes cs s = go dc cs
  where
    last : (a : Totals) (cs : Bool) (r : St7789p3) → Answered a s r → Answered a s (cond cs (released r) r)
    last a true r h = record { pixels = h.pixels; inverted = h.inverted; unmapped = h.unmapped }
    last a false r h = h

    go :
        (dc cs : Bool) →
        Answered (totals_in dc bytes s.controller) s
        (cond cs (released (cond dc (data_in bytes s) (begun_all t bytes s))) (cond dc (data_in bytes s) (begun_all t bytes s)))
    go true cs = last (totals_in true bytes s.controller) cs (data_in bytes s) (data-answered bytes s)
    go false cs =
        let o = begun-others t bytes s in
        last no_totals cs (begun_all t bytes s) (kept-answered s (begun_all t bytes s) o.0 o.1.1.0 o.1.1.1)

-- Every transfer, with memory and without, refused or not.
unless-answered :
    (n t : ℕ) (dc : Bool) (bytes : List ℕ) (cs : Bool) (s : St7789p3) →
    Answered (unless_refused n (totals_in dc bytes s.controller) no_totals) s (unless_refused n (moved t dc bytes cs s) s)
unless-answered n t dc bytes cs s = go (eqb n 0)
  where
    go : (b : Bool) → Answered (cond b (totals_in dc bytes s.controller) no_totals) s (cond b (moved t dc bytes cs s) s)
    go true = moved-answered t dc bytes cs s
    go false = kept-answered s s refl refl refl

pub transfer-answered :
    (memory : PanelMemory) (t : ℕ) (dc : Bool) (bytes : List ℕ) (cs : Bool) (cells : ℕ) (s : St7789p3) →
    Answered (totals_with memory dc bytes cells s) s (transferred_with memory t dc bytes cs cells s)
unfolding transferred bare_transferred transfer_totals bare_totals
transfer-answered Lent t dc bytes cs cells s = unless-answered (transfer_refusal s cells (length bytes)) t dc bytes cs s
transfer-answered Without t dc bytes cs cells s = unless-answered (bare_refusal s (length bytes)) t dc bytes cs s

-- Stored is the number of stores.
pub stored-stores : (dc : Bool) (bytes : List ℕ) (k : Controller) → (totals_in dc bytes k).stored ≡ length (stores_in dc bytes k)
unfolding totals_of stores
stored-stores true bytes k = go k.chip.decoder.in_pixels
  where
    go : (run : Bool) → (cond run (chip_totals k.cfg.formats k.chip bytes) no_totals).stored ≡ length (cond {A = List Store} run (chip_stores k.cfg.formats k.chip bytes) [])
    go true = refl
    go false = refl
stored-stores false bytes k = refl

-- By whether a run is on.
abbrev by : Bool → List ℕ → Controller → Totals
by run bytes k = cond run (chip_totals k.cfg.formats k.chip bytes) no_totals

-- A cut adds up: data in two parts answers what the whole answers.
pub answers-cut :
    (a b : List ℕ) (s : St7789p3) →
    totals_in true (a ++ b) s.controller ≡ added (totals_in true a s.controller) (totals_in true b (data_in a s).controller)
unfolding data_in ran taken chip_taken
answers-cut a b s = go s.controller.chip.decoder.in_pixels s.controller.chip.decoder.cmd refl
  where
    k : Controller
    k = s.controller

    go :
        (run : Bool) (f : Option ℕ) → k.chip.decoder.in_pixels ≡ run →
        by run (a ++ b) k ≡ added (by run a k) (totals_in true b (data_by run f a s).controller)
    go true f e =
        totals-cut (site_of k.cfg.formats k.chip) a b k.chip.walk
        ∙ ap (λ run. added (chip_totals k.cfg.formats k.chip a) (by run b (ran a k))) (sym e)
    go false None e = ap (λ run. added no_totals (by run b k)) (sym e)
    go false (Some c) e = ap (λ run. added no_totals (by run b (taken c a k))) (sym (taken-run (command_of c) a k.chip ∙ e))
