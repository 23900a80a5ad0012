-- Data: the controller after it, put together from what the parts answer.
use Rattle.std.specs.Prelude.{Option, Some, None}
use Prim.Native.Nat.{ℕ, ◌+◌, ◌^◌, ◌≤◌, ◌<◌}
use mathlib.Core.Path.{◌≡◌, refl, sym, ap, ap₂, ◌∙◌}
use mathlib.Core.Bool.{Bool, true, false, cond}
use mathlib.Core.List.{List, []}
use native.Mathlib.Omega.{arith}
use lib.ListN.{length}
use Rattle.geometry.specs.declared.Site.{Site}
use Rattle.pixels.specs.Run.{stores, written, no_totals, together, walked_on, unwalked}
use Rattle.pixels.specs.declared.Totals.{Totals}
use Rattle.pixels.specs.declared.Walked.{Walked}
use Rattle.pixels.proofs.Sums.{unwalked-totals, totals-counted, totals-few}
use Rattle.codes.specs.Codes.{command_of}
use Rattle.codes.specs.declared.Command.{Command}
use Rattle.lists.specs.Params.{excess}
use Rattle.chip.specs.Apply.{chip_taken}
use Rattle.chip.specs.Site.{site_of, chip_stores, chip_totals}
use Rattle.chip.specs.declared.Chip.{Chip}
use Rattle.st7789.specs.Parts.{whole, with_chip, with_counts}
use Rattle.st7789.specs.Data.{walk_over, walked_chip, pixels_added, dropped_added, ran, taken, taken_for, controller_data, stores_in, totals_in}
use Rattle.st7789.specs.Places.{command_for, command_in}
use Rattle.st7789.specs.Room.{Countable}
use Rattle.st7789.specs.declared.Counts.{Counts}
use Rattle.st7789.specs.declared.Controller.{Controller}

abbrev ran_by : Walked → Counts → Controller → Controller
ran_by w n k = whole k.cfg k.power (walked_chip w.walk k.chip) n w.marks k.logs

abbrev taken_by : Chip → ℕ → Controller → Controller
taken_by chip n k = with_counts (dropped_added n k.counts) (with_chip chip k)

module _ (k : Controller) (bytes : List ℕ) where
  -- The chip's site, as the engine is given it.
  pub walked_at :
      {site : Site} {w : Walked} → site ≡ site_of k.cfg.formats k.chip → w ≡ walked_on site (unwalked k.chip.walk k.marks) bytes → w ≡ walk_over k bytes
  walked_at e ew = ew ∙ ap (λ site. walked_on site (unwalked k.chip.walk k.marks) bytes) e

  -- The segment's totals are its own.
  own-totals : (walk_over k bytes).totals ≡ chip_totals k.cfg.formats k.chip bytes
  own-totals = unwalked-totals (site_of k.cfg.formats k.chip) k.chip.walk k.marks bytes

  -- A segment has no more pixels than bytes.
  pub pixels-fit :
      Countable (length bytes) k.counts → (w : Walked) → w ≡ walk_over k bytes →
      (k.counts.pixels_written + (w.totals.stored + w.totals.unmapped) < 2 ^ 64)
      × ((k.counts.inverted + w.totals.inverted < 2 ^ 64) × (k.counts.unmapped + w.totals.unmapped < 2 ^ 64))
  pixels-fit room w e =
      let t : together w.totals ≡ together (chip_totals k.cfg.formats k.chip bytes) = ap (λ w. together w.totals) e ∙ ap together own-totals in
      let h : together w.totals ≤ length bytes = omega (arith, t, totals-few (site_of k.cfg.formats k.chip) k.chip.walk bytes) in
      (omega (arith, h, room.pixels), (omega (arith, h, room.inverted), omega (arith, h, room.unmapped)))

  abbrev data_by : Bool → Option ℕ → Controller
  data_by b f = cond b (ran bytes k) (taken_for f bytes k)

  pub data-run :
      (w : Walked) (n : Counts) → k.chip.decoder.in_pixels ≡ true → w ≡ walk_over k bytes →
      n ≡ pixels_added (w.totals.stored + w.totals.unmapped) w.totals k.counts → ran_by w n k ≡ controller_data bytes k
  unfolding ran
  data-run w n e ew en =
      ap₂ (λ w n. ran_by w n k) ew
      (en
      ∙ ap (λ t. pixels_added (t.stored + t.unmapped) t k.counts) (ap (λ w. w.totals) ew ∙ own-totals)
      ∙ ap (λ m. pixels_added m (chip_totals k.cfg.formats k.chip bytes) k.counts) (totals-counted (site_of k.cfg.formats k.chip) k.chip.walk bytes))
      ∙ ap (λ b. data_by b k.chip.decoder.cmd) (sym e)

  abbrev command_by : Bool → Option ℕ → Option Command
  command_by b f = cond b None (command_for f)

  -- Where no run is on, data is for the command in force, or lost.
  pub data-lost : k.chip.decoder.in_pixels ≡ false → None ≡ command_in k → k ≡ controller_data bytes k
  data-lost e em = by_kind k.chip.decoder.cmd em' ∙ ap (λ b. data_by b k.chip.decoder.cmd) (sym e)
    where
      em' : None ≡ command_for k.chip.decoder.cmd
      em' = em ∙ ap (λ b. command_by b k.chip.decoder.cmd) e

      by_kind : (f : Option ℕ) → None ≡ command_for f → k ≡ taken_for f bytes k
      by_kind None em = refl
      by_kind (Some c) em = absurd (cc)

  pub data-for :
      {n : ℕ} {m : Command} {chip : Chip} → k.chip.decoder.in_pixels ≡ false → Some m ≡ command_in k →
      chip ≡ chip_taken m bytes k.chip → n ≡ excess k.chip.decoder.params (length bytes) → taken_by chip n k ≡ controller_data bytes k
  unfolding taken chip_taken
  data-for {n} {m} {chip} e em ek en = by_kind k.chip.decoder.cmd em' ∙ ap (λ b. data_by b k.chip.decoder.cmd) (sym e)
    where
      em' : Some m ≡ command_for k.chip.decoder.cmd
      em' = em ∙ ap (λ b. command_by b k.chip.decoder.cmd) e

      by_kind : (f : Option ℕ) → Some m ≡ command_for f → taken_by chip n k ≡ taken_for f bytes k
      by_kind None em = absurd (cc)
      by_kind (Some c) em =
          let same : m ≡ command_of c = cc in
          ap₂ (λ chip n. taken_by chip n k) (ek ∙ ap (λ m. chip_taken m bytes k.chip) same) en

  totals-by : Bool → Totals
  totals-by b = cond b (chip_totals k.cfg.formats k.chip bytes) no_totals

  pub totals-run : (w : Walked) → k.chip.decoder.in_pixels ≡ true → w ≡ walk_over k bytes → w.totals ≡ totals_in true bytes k
  unfolding totals-by
  totals-run w e ew = ap (λ w. w.totals) ew ∙ own-totals ∙ ap totals-by (sym e)

  pub totals-none : {t : Totals} → k.chip.decoder.in_pixels ≡ false → t ≡ no_totals → t ≡ totals_in true bytes k
  unfolding totals-by
  totals-none e et = et ∙ ap totals-by (sym e)

  module _ (m : List ℕ) where
    stored-by : Bool → List ℕ
    stored-by b = written m (cond b (chip_stores k.cfg.formats k.chip bytes) [])

    pub stores_run :
        {site : Site} {l : List ℕ} → k.chip.decoder.in_pixels ≡ true → site ≡ site_of k.cfg.formats k.chip →
        l ≡ written m (stores site k.chip.walk bytes) → l ≡ written m (stores_in true bytes k)
    unfolding stored-by
    stores_run e es el = el ∙ ap (λ site. written m (stores site k.chip.walk bytes)) es ∙ ap stored-by (sym e)

    pub stores-none : k.chip.decoder.in_pixels ≡ false → m ≡ written m (stores_in true bytes k)
    unfolding stored-by
    stores-none e = ap stored-by (sym e)
