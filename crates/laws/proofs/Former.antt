-- With the mode off everything reads as before: a transfer's number, state, totals and lent numbers are those of the former definitions, and it
-- leaves a panel that was possible.
use Prim.Native.Nat.{ℕ, ◌+◌, ◌*◌}
use mathlib.Core.Path.{◌≡◌, refl, ap, ap₂, ◌∙◌}
use mathlib.Core.Bool.{Bool, true, false, cond, ◌&&◌, true≢false}
use mathlib.Core.List.{List, [], ◌∷◌, ◌++◌, map, foldl}
use lib.ListN.{length, take}
use Rattle.formats.specs.Formats.{carry_bad}
use Rattle.formats.specs.Bytes.{arrival, pixels_of, carry_after}
use Rattle.formats.specs.declared.Format.TheVariants.{HighFirst}
use Rattle.formats.specs.declared.Carry.{Carry}
use Rattle.formats.specs.declared.Carry.TheVariants.{Empty, One, Two}
use Rattle.formats.proofs.Waiting.{carry-good, few-good}
use Rattle.pixels.specs.Run.{counted, pointer_after, Store, stores_of, stores, written, marked, walk_after, pixels_counted, no_totals, totals_of}
use Rattle.pixels.specs.declared.Walk.{Walk}
use Rattle.codes.specs.Codes.{kind_of, command_of, starts_run}
use Rattle.lists.specs.Entries as entries
use Rattle.lists.specs.Fixed.{places, push_all}
use Rattle.timing.specs.Lint.{breaks1, breaks2, wrong_colmod, breaks4, broken_by, rules_of}
use Rattle.timing.specs.declared.Broken.{Broken}
use Rattle.board.specs.declared.PanelConfig.{PanelConfig}
use Rattle.chip.specs.Begin.{chip_begun, chip_released}
use Rattle.chip.specs.Apply.{chip_taken}
use Rattle.chip.specs.Site.{format_in, site_of, chip_stores, chip_totals}
use Rattle.chip.proofs.Stays.{begun-waits, taken-walk}
use Rattle.status.specs.Numbers.{unless_refused}
use Rattle.status.specs.Tests.{first, transfer_row, bare_row}
use Rattle.status.proofs.Unless.{unless-either}
use Rattle.st7789.specs.Parts.{warnings_of, with_chip, with_counts, with_marks, with_warnings}
use Rattle.st7789.specs.Command.{warning, broken_with, after_lint, begun, begun_all, controller_released, released}
use Rattle.st7789.specs.Data.{walked_chip, pixels_added, ran, taken, taken_for, on_current, record_data, stored_data, data_in}
use Rattle.st7789.specs.Refusals.{itself, clauses_of, bad_state, counts_of, transfer_refusal, bare_refusal}
use Rattle.st7789.specs.Entries.{moved, transferred, bare_transferred, transfer_totals, bare_totals, transfer_memory, refusal_with, transferred_with, totals_with, memory_with}
use Rattle.st7789.specs.declared.PanelMemory.{PanelMemory}
use Rattle.st7789.specs.declared.PanelMemory.TheVariants.{Lent, Without}
use Rattle.st7789.specs.declared.Controller.{Controller}
use Rattle.st7789.specs.declared.St7789p3.{St7789p3}
use Rattle.laws.specs.Former.{Former, odd_byte, waiting_byte, former_pixels, former_carry, former_stores, former_totals, former_ran, former_data, former_broken, former_begun, former_moved, former_bad, former_refusal, former_state, former_answered, former_memory}
use Rattle.laws.proofs.DataKinds.{by_kind}
use Rattle.laws.proofs.Profiles.{transferred-chosen}

-- Bytes to pixels.
pixels-former : (c : Carry) (bytes : List ℕ) → pixels_of HighFirst c bytes ≡ former_pixels (odd_byte c) bytes
unfolding arrival
pixels-former c [] = refl
pixels-former Empty (b ∷ bs) = pixels-former (One b) bs
pixels-former (One high) (b ∷ bs) = ap (λ l. (high * 256 + b) ∷ l) (pixels-former Empty bs)
pixels-former (Two a high) (b ∷ bs) = ap (λ l. (high * 256 + b) ∷ l) (pixels-former Empty bs)

carry-former : (bytes : List ℕ) (c : Carry) → carry_bad HighFirst c ≡ false → carry_after HighFirst c bytes ≡ waiting_byte (former_carry (odd_byte c) bytes)
unfolding arrival
carry-former [] Empty e = refl
carry-former [] (One high) e = refl
carry-former [] (Two a b) e = absurd (true≢false e)
carry-former (b ∷ bs) Empty e = carry-former bs (One b) refl
carry-former (b ∷ bs) (One high) e = carry-former bs Empty refl
carry-former (b ∷ bs) (Two a high) e = carry-former bs Empty refl

-- Data in a run, by its pixels and by what waits after them.
abbrev drawn_by : Bool → List ℕ → Carry → Controller → Controller
drawn_by formats vs waiting k =
    let p = k.chip.walk.pointer in
    let a : Controller =
    with_chip (walked_chip (record { pointer = pointer_after k.chip.window p (length vs); carry = waiting }) k.chip) k in
    let b : Controller =
    with_counts (pixels_added (counted k.chip.window (length vs)) (totals_of (site_of formats k.chip) p vs) a.counts) a in
    with_marks (marked k.marks (stores_of (site_of formats k.chip) p vs)) b

module _ (s : St7789p3) (w : Former s) where
  abbrev k : Controller
  k = s.controller

  abbrev c : Carry
  c = k.chip.walk.carry

  ran-former : (bytes : List ℕ) → ran bytes k ≡ former_ran bytes k
  unfolding ran stores walk_after pixels_counted
  ran-former bytes =
      ap (λ b. drawn_by b (pixels_of (format_in b k.chip) c bytes) (carry_after (format_in b k.chip) c bytes) k) w.off
      ∙ ap₂ (λ vs waiting. drawn_by false vs waiting k) (pixels-former c bytes) (carry-former bytes c w.few)

  data-former : (bytes : List ℕ) → data_in bytes s ≡ former_data bytes s
  unfolding data_in
  data-former bytes =
      ap
      (λ r. record {
        controller = cond k.chip.decoder.in_pixels r (taken_for k.chip.decoder.cmd bytes k);
        stored = stored_data bytes k s.stored;
        records = on_current (record_data bytes k) k.logs.current s.records;
        warnings = s.warnings;
      })
      (ran-former bytes)

  stores-former : (bytes : List ℕ) → chip_stores k.cfg.formats k.chip bytes ≡ former_stores k.chip bytes
  unfolding stores
  stores-former bytes =
      ap (λ b. chip_stores b k.chip bytes) w.off ∙ ap (stores_of (site_of false k.chip) k.chip.walk.pointer) (pixels-former c bytes)

  totals-alike : (bytes : List ℕ) → chip_totals k.cfg.formats k.chip bytes ≡ former_totals k.chip bytes
  totals-alike bytes =
      ap (λ b. chip_totals b k.chip bytes) w.off ∙ ap (totals_of (site_of false k.chip) k.chip.walk.pointer) (pixels-former c bytes)

  -- A command.
  rules-former : (cmd t : ℕ) → broken_with cmd t k ≡ former_broken cmd t k
  unfolding broken_by
  rules-former cmd t =
      ap
      (λ b. record {
        rule1 = breaks1 k.chip.times (kind_of cmd) t;
        rule2 = breaks2 k.chip.times (kind_of cmd) t;
        rule3 = starts_run (kind_of cmd) && wrong_colmod b k.chip.registers.colmod;
        rule4 = breaks4 k.cfg.strict k.chip.times t;
      })
      w.off

  begun-alike : (cmd t : ℕ) → begun cmd t s ≡ former_begun cmd t s
  unfolding begun
  begun-alike cmd t =
      ap (λ (b : Broken). after_lint cmd t (with_warnings (push_all places (warnings_of s) (map (warning cmd t) (rules_of b))) s)) (rules-former cmd t)

  -- It leaves a panel that was possible.
  begun-former : (cmd t : ℕ) → Former (begun cmd t s)
  unfolding begun chip_begun
  begun-former cmd t = record { off = w.off; few = begun-waits (command_of cmd) t k.chip HighFirst w.few }

  data-few : (bytes : List ℕ) → carry_bad HighFirst (data_in bytes s).controller.chip.walk.carry ≡ false
  unfolding ran taken chip_taken walk_after
  data-few bytes =
      by_kind bytes s (λ run r. carry_bad HighFirst r.controller.chip.walk.carry ≡ false)
      (λ f.
      ap (λ b. carry_bad HighFirst (carry_after (format_in b k.chip) c bytes)) w.off ∙ carry-good HighFirst c bytes w.few)
      w.few
      (λ cmd. ap (λ (v : Walk). carry_bad HighFirst v.carry) (taken-walk (command_of cmd) bytes k.chip) ∙ w.few)

  -- What is asked of the state.
  pub bad-former : bad_state s ≡ former_bad s
  unfolding bad_state
  bad-former = ap (λ b. entries.some itself (take 9 (clauses_of s) ++ (b ∷ []))) (few-good (format_in k.cfg.formats k.chip) c w.few)

  pub refusal-former : (memory : PanelMemory) (cells n : ℕ) → refusal_with memory s cells n ≡ former_refusal memory s cells n
  unfolding transfer_refusal bare_refusal
  refusal-former Lent cells n = ap (λ b. first (transfer_row b cells n (counts_of s))) bad-former
  refusal-former Without cells n = ap (λ b. first (bare_row b n (counts_of s))) bad-former

  -- The totals and what is lent.
  pub totals-former : (memory : PanelMemory) (dc : Bool) (bytes : List ℕ) (cells : ℕ) → totals_with memory dc bytes cells s ≡ former_answered memory dc bytes cells s
  unfolding transfer_totals bare_totals
  totals-former Lent dc bytes cells =
      ap₂ (λ n t. unless_refused n (cond (dc && k.chip.decoder.in_pixels) t no_totals) no_totals) (refusal-former Lent cells (length bytes)) (totals-alike bytes)
  totals-former Without dc bytes cells =
      ap₂ (λ n t. unless_refused n (cond (dc && k.chip.decoder.in_pixels) t no_totals) no_totals) (refusal-former Without cells (length bytes)) (totals-alike bytes)

  pub memory-former : (memory : PanelMemory) (dc : Bool) (bytes lent : List ℕ) → memory_with memory dc bytes lent s ≡ former_memory memory dc bytes lent s
  unfolding transfer_memory
  memory-former Lent dc bytes lent =
      ap₂ (λ n (ss : List Store). unless_refused n (written lent (cond (dc && k.chip.decoder.in_pixels) ss [])) lent)
      (refusal-former Lent (length lent) (length bytes)) (stores-former bytes)
  memory-former Without dc bytes lent = refl

-- The commands of a segment, a segment, and a transfer.
commands-alike :
    (t : ℕ) (bytes : List ℕ) (s : St7789p3) → Former s → begun_all t bytes s ≡ foldl (λ s c. former_begun c t s) s bytes
commands-alike t [] s w = refl
commands-alike t (c ∷ bytes) s w =
    commands-alike t bytes (begun c t s) (begun-former s w c t) ∙ ap (λ r. foldl (λ s c. former_begun c t s) r bytes) (begun-alike s w c t)

moved-former :
    (t : ℕ) (dc : Bool) (bytes : List ℕ) (cs : Bool) (s : St7789p3) → Former s → moved t dc bytes cs s ≡ former_moved t dc bytes cs s
unfolding moved
moved-former t true bytes cs s w = ap (λ (r : St7789p3). cond cs (released r) r) (data-former s w bytes)
moved-former t false bytes cs s w = ap (λ (r : St7789p3). cond cs (released r) r) (commands-alike t bytes s w)

pub state-former :
    (memory : PanelMemory) (t : ℕ) (dc : Bool) (bytes : List ℕ) (cs : Bool) (cells : ℕ) (s : St7789p3) → Former s →
    transferred_with memory t dc bytes cs cells s ≡ former_state memory t dc bytes cs cells s
unfolding transferred bare_transferred
state-former Lent t dc bytes cs cells s w = ap₂ (λ n r. unless_refused n r s) (refusal-former s w Lent cells (length bytes)) (moved-former t dc bytes cs s w)
state-former Without t dc bytes cs cells s w = ap₂ (λ n r. unless_refused n r s) (refusal-former s w Without cells (length bytes)) (moved-former t dc bytes cs s w)

-- A transfer leaves a panel that was possible.
abbrev Few : St7789p3 → Type 0
Few s = carry_bad HighFirst s.controller.chip.walk.carry ≡ false

commands-former : (t : ℕ) (bytes : List ℕ) (s : St7789p3) → Former s → Former (begun_all t bytes s)
commands-former t [] s w = w
commands-former t (c ∷ bytes) s w = commands-former t bytes (begun c t s) (begun-former s w c t)

release-few : (cs : Bool) (s : St7789p3) → Few s → Few (cond cs (released s) s)
unfolding controller_released chip_released
release-few true s e = refl
release-few false s e = e

moved-few : (t : ℕ) (dc : Bool) (bytes : List ℕ) (cs : Bool) (s : St7789p3) → Former s → Few (moved t dc bytes cs s)
unfolding moved
moved-few t true bytes cs s w = release-few cs (data_in bytes s) (data-few s w bytes)
moved-few t false bytes cs s w = release-few cs (begun_all t bytes s) (commands-former t bytes s w).few

transferred-few :
    (memory : PanelMemory) (t : ℕ) (dc : Bool) (bytes : List ℕ) (cs : Bool) (cells : ℕ) (s : St7789p3) → Former s →
    Few (transferred_with memory t dc bytes cs cells s)
unfolding transferred bare_transferred
transferred-few Lent t dc bytes cs cells s w =
    unless-either (transfer_refusal s cells (length bytes)) (moved t dc bytes cs s) s Few (moved-few t dc bytes cs s w) w.few
transferred-few Without t dc bytes cs cells s w =
    unless-either (bare_refusal s (length bytes)) (moved t dc bytes cs s) s Few (moved-few t dc bytes cs s w) w.few

pub stays-former :
    (memory : PanelMemory) (t : ℕ) (dc : Bool) (bytes : List ℕ) (cs : Bool) (cells : ℕ) (s : St7789p3) → Former s →
    Former (transferred_with memory t dc bytes cs cells s)
stays-former memory t dc bytes cs cells s w =
    record {
      off = ap (λ (cfg : PanelConfig). cfg.formats) (transferred-chosen memory t dc bytes cs cells s) ∙ w.off;
      few = transferred-few memory t dc bytes cs cells s w;
    }
