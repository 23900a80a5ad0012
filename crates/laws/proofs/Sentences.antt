-- Sentences of 01 that say what does not happen, those of Q-14 on the reset's time, and what a reset leaves of Q-3's counts, each as a law.
use Rattle.std.specs.Prelude.{Some, None}
use Prim.Native.Nat.{ℕ}
use mathlib.Core.Path.{◌≡◌, refl}
use mathlib.Core.Bool.{Bool, true, false}
use mathlib.Core.List.{List, [], ◌∷◌}
use lib.Dec.{eqb}
use Rattle.codes.specs.Codes.{kind_of, need_of}
use Rattle.codes.proofs.Bytes.{is-swreset, is-slpin, is-slpout, is-invoff, is-invon, is-dispoff, is-dispon}
use Rattle.lists.specs.Entries.{some}
use Rattle.std.proofs.lemmas.Bool.{or_parts}
use Rattle.timing.specs.Lint.{times_after}
use Rattle.chip.specs.Begin.{fresh_chip, effects, chip_released}
use Rattle.chip.specs.declared.Chip.{Chip}
use Rattle.st7789.specs.Command.{begun, controller_released, released}
use Rattle.st7789.specs.Entries.{fresh_controller, empty_lists, rail_reset, moved, transferred, bare_transferred}
use Rattle.st7789.specs.declared.St7789p3.{St7789p3}
use Rattle.laws.specs.Swreset.{ResetKeeps}

-- "Data never looks at time."
pub data-timeless :
    (t t' : ℕ) (bytes : List ℕ) (cs : Bool) (cells : ℕ) (s : St7789p3) →
    (transferred t true bytes cs cells s ≡ transferred t' true bytes cs cells s)
    × (bare_transferred t true bytes cs s ≡ bare_transferred t' true bytes cs s)
unfolding transferred bare_transferred moved
data-timeless t t' bytes cs cells s = (refl, refl)

-- "Then effects: 01 .., 10 .., 11 .., 20 and 21 .., 28 and 29 .. Other bytes have no effect here."
pub others-idle :
    (c t : ℕ) (s : Chip) → some (eqb c) (0x01 ∷ 0x10 ∷ 0x11 ∷ 0x20 ∷ 0x21 ∷ 0x28 ∷ 0x29 ∷ []) ≡ false → effects (kind_of c) t s ≡ s
unfolding times_after
others-idle c t s e =
    let a = or_parts (eqb c 0x01) _ e in
    let b = or_parts (eqb c 0x10) _ a.1 in
    let d = or_parts (eqb c 0x11) _ b.1 in
    let f = or_parts (eqb c 0x20) _ d.1 in
    let g = or_parts (eqb c 0x21) _ f.1 in
    let h = or_parts (eqb c 0x28) _ g.1 in
    let k = or_parts (eqb c 0x29) _ h.1 in
    rw (is-swreset c, is-slpin c, is-slpout c, is-invoff c, is-invon c, is-dispoff c, is-dispon c, a.0, b.0, d.0, f.0, g.0, h.0, k.0)

pub swreset-keeps : (t : ℕ) (s : St7789p3) → ResetKeeps s (begun 0x01 t s)
unfolding begun times_after kind_of need_of
swreset-keeps t s =
    record {
      madctl = refl;
      colmod = refl;
      ramctrl0 = refl;
      ramctrl1 = refl;
      stored = refl;
      commands = refl;
      ramwrs = refl;
      pixels = refl;
      dropped = refl;
      inverted = refl;
      unmapped = refl;
      woken = refl;
      nowhere = λ bytes. refl;
    }

-- Q-14: "The reset's time joins the state; a board-rail reset forgets it." Other commands keep it, and so does a CS release.
pub swreset-timed : (t : ℕ) (s : St7789p3) → (begun 0x01 t s).controller.chip.times.swreset ≡ Some t
unfolding begun times_after kind_of need_of
swreset-timed t s = refl

pub others-untimed : (c t : ℕ) (s : St7789p3) → eqb c 0x01 ≡ false → (begun c t s).controller.chip.times.swreset ≡ s.controller.chip.times.swreset
unfolding begun times_after
others-untimed c t s e = rw (is-swreset c, e)

pub release-remembers : (s : St7789p3) → (released s).controller.chip.times.swreset ≡ s.controller.chip.times.swreset
unfolding controller_released chip_released
release-remembers s = refl

pub rail-forgets : (s : St7789p3) → (rail_reset true s).controller.chip.times.swreset ≡ None
unfolding empty_lists fresh_controller fresh_chip
rail-forgets s = refl

-- Q-3: "Two new counts, inverted and unmapped, join the state." A SWRESET keeps them (`swreset-keeps`), the board rail begins anew.
pub rail-uncounted :
    (s : St7789p3) → ((rail_reset true s).controller.counts.inverted ≡ 0) × ((rail_reset true s).controller.counts.unmapped ≡ 0)
unfolding empty_lists fresh_controller
rail-uncounted s = (refl, refl)
