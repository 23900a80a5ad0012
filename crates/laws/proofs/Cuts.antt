-- The cut law of the panel: a data segment in two parts leaves the panel that the whole leaves.
use Rattle.std.specs.Prelude.{Option, Some, None}
use Prim.Native.Nat.{ℕ, ◌+◌}
use mathlib.Core.Path.{◌≡◌, refl, sym, ap, ap₂, ◌∙◌}
use mathlib.Core.Bool.{Bool, true, false, cond}
use mathlib.Core.List.{List, ◌++◌}
use native.Mathlib.Nat.{add_assoc}
use lib.ListN.{length, set}
use lib.Seq.{set-set}
use Rattle.geometry.specs.declared.Site.{Site}
use Rattle.pixels.specs.Run.{pixels_counted, added, totals, walked_on, unwalked}
use Rattle.pixels.specs.declared.Totals.{Totals}
use Rattle.pixels.specs.declared.Walked.{Walked}
use Rattle.pixels.proofs.Laws.{count_cut}
use Rattle.pixels.proofs.Sums.{totals-cut, walked-cut}
use Rattle.lists.specs.Params.{filled, excess}
use Rattle.codes.specs.Codes.{kind_of, command_of, is_stored, place_of}
use Rattle.lists.specs.declared.Stored.{Stored}
use Rattle.lists.proofs.Cuts.{filled-cut, excess-cut}
use Rattle.chip.specs.Apply.{chip_taken}
use Rattle.chip.specs.Site.{site_of, chip_counted, chip_totals}
use Rattle.chip.specs.declared.Chip.{Chip}
use Rattle.chip.proofs.Cuts.{chip-cut, taken-params, taken-cmd, taken-run}
use Rattle.st7789.specs.Parts.{whole, with_chip, with_counts}
use Rattle.st7789.specs.Data.{walk_over, walked_chip, pixels_added, ran, taken, data_in}
use Rattle.st7789.specs.declared.Counts.{Counts}
use Rattle.st7789.specs.declared.Controller.{Controller}
use Rattle.st7789.specs.declared.St7789p3.{St7789p3}
use Rattle.st7789.proofs.Commands.{same-panel}
use Rattle.laws.proofs.DataKinds.{data_by, data-by}
use Rattle.laws.proofs.Records.{current-twice, pixels-twice, params-twice}

-- The controller: data in a run, and data for a command.
module _ (a b : List ℕ) (k : Controller) where
  -- The parts' pixels, one part after the other.
  added_twice :
      (m n : ℕ) (t u : Totals) → pixels_added (m + n) (added t u) k.counts ≡ pixels_added n u (pixels_added m t k.counts)
  added_twice m n t u i =
      record {
        commands = k.counts.commands;
        ramwr_count = k.counts.ramwr_count;
        pixels_written = sym (add_assoc k.counts.pixels_written m n) i;
        dropped_params = k.counts.dropped_params;
        inverted = sym (add_assoc k.counts.inverted t.inverted u.inverted) i;
        unmapped = sym (add_assoc k.counts.unmapped t.unmapped u.unmapped) i;
      }

  ran-cut : ran (a ++ b) k ≡ ran b (ran a k)
  unfolding ran
  ran-cut =
      ap (λ w. by w (pixels_added (chip_counted k.cfg.formats k.chip (a ++ b)) (chip_totals k.cfg.formats k.chip (a ++ b)) k.counts))
      (walked-cut site a b (unwalked k.chip.walk k.marks))
      ∙ ap (by (walked_on site (walk_over k a) b))
      (ap₂ (λ n t. pixels_added n t k.counts) (count_cut site a b k.chip.walk) (totals-cut site a b k.chip.walk)
      ∙ added_twice (chip_counted k.cfg.formats k.chip a) (pixels_counted site (walk_over k a).walk b) (chip_totals k.cfg.formats k.chip a) (totals site (walk_over k a).walk b))
    where
      site : Site
      site = site_of k.cfg.formats k.chip

      by : Walked → Counts → Controller
      by w n = whole k.cfg k.power (walked_chip w.walk k.chip) n w.marks k.logs

  taken-cut : (c : ℕ) → taken c (a ++ b) k ≡ taken c b (taken c a k)
  unfolding taken chip_taken
  taken-cut c =
      let p = k.chip.decoder.params in
      let q = (chip_taken (command_of c) a k.chip).decoder.params in
      ap₂ by
      (chip-cut c a b k.chip)
      (ap (λ n. k.counts.dropped_params + n)
      (excess-cut p a b ∙ ap (λ x. excess p (length a) + excess x (length b)) (sym (taken-params (command_of c) a k.chip)))
      ∙ sym (add_assoc k.counts.dropped_params (excess p (length a)) (excess q (length b))))
    where
      by : Chip → ℕ → Controller
      by chip n =
          with_counts
          (record {
            commands = k.counts.commands;
            ramwr_count = k.counts.ramwr_count;
            pixels_written = k.counts.pixels_written;
            dropped_params = n;
            inverted = k.counts.inverted;
            unmapped = k.counts.unmapped;
          })
          (with_chip chip k)

-- The panel, by the kind of the data.
module _ (a b : List ℕ) (s : St7789p3) where
  stored-twice :
      (r : Bool) (i : ℕ) (x y : Stored) →
      cond r (set s.stored i y) s.stored ≡
      cond r (set (cond r (set s.stored i x) s.stored) i y) (cond r (set s.stored i x) s.stored)
  stored-twice true i x y = sym (set-set s.stored i x y)
  stored-twice false i x y = refl

  by-cut : (run : Bool) (f : Option ℕ) → data_by run f (a ++ b) s ≡ data_by run f b (data_by run f a s)
  unfolding ran taken chip_taken
  by-cut true f =
      same-panel (ran-cut a b s.controller) refl (sym (pixels-twice a b s.controller.logs.current s.records)) refl
  by-cut false None =
      same-panel refl refl
      (sym (current-twice (λ r. r) (λ r. r) (λ r. r) (λ r. refl) s.controller.logs.current s.records)) refl
  by-cut false (Some c) =
      let p = s.controller.chip.decoder.params in
      let q = (chip_taken (command_of c) a s.controller.chip).decoder.params in
      same-panel (taken-cut a b s.controller c)
      (ap (λ x. cond (is_stored (kind_of c)) (set s.stored (place_of (kind_of c)) (record { present = true; params = x })) s.stored)
      (filled-cut p a b ∙ ap (λ x. filled x b) (sym (taken-params (command_of c) a s.controller.chip)))
      ∙ stored-twice (is_stored (kind_of c)) (place_of (kind_of c)) (record { present = true; params = filled p a }) (record { present = true; params = filled q b }))
      (sym (params-twice a b s.controller.logs.current s.records))
      refl

  -- The cut law: data in two parts leaves what the whole leaves.
  pub data-cut : data_in (a ++ b) s ≡ data_in b (data_in a s)
  unfolding data_in ran taken chip_taken
  data-cut = go s.controller.chip.decoder.in_pixels s.controller.chip.decoder.cmd refl refl
    where
      go :
          (run : Bool) (f : Option ℕ) → s.controller.chip.decoder.in_pixels ≡ run → s.controller.chip.decoder.cmd ≡ f →
          data_by run f (a ++ b) s ≡ data_in b (data_by run f a s)
      go true f e g = by-cut true f ∙ sym (data-by b (data_by true f a s) true f e g)
      go false None e g = by-cut false None ∙ sym (data-by b (data_by false None a s) false None e g)
      go false (Some c) e g =
          by-cut false (Some c)
          ∙ sym
          (data-by b (data_by false (Some c) a s) false (Some c) (taken-run (command_of c) a s.controller.chip ∙ e) (taken-cmd (command_of c) a s.controller.chip ∙ g))
