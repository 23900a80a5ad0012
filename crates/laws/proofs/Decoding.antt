-- "the decode equal to the former decisions for every byte"
use Prim.Native.Nat.{ℕ, ◌<◌}
use mathlib.Core.Path.{◌≡◌, refl, ◌∙◌}
use mathlib.Core.Bool.{Bool, true, ◌&&◌, beq, and-eq-true_iff}
use borrow.Author.Tests.{eqb-true}
use lib.Dec.{eqb}
use Rattle.codes.specs.Codes.{kind_of, need_of, is, starts_run, place_of, is_stored}
use Rattle.codes.proofs.Numbering.{same_kind}
use Rattle.codes.proofs.Bytes.{below, at_each, equal, need-for, is-swreset, is-slpin, is-slpout, is-invoff, is-invon, is-dispoff, is-dispon, is-caset, is-raset, is-ramwr, is-madctl, is-colmod, is-ramwrc, is-ramctrl}
use Rattle.geometry.specs.declared.Window.{Window}
use Rattle.pixels.specs.declared.Walk.{Walk}
use Rattle.lists.specs.declared.Params.{Params}
use Rattle.timing.specs.Lint.{broken_by, times_after}
use Rattle.timing.specs.declared.Times.{Times}
use Rattle.chip.specs.Begin.{walk_begun, walk_reset, window_begun, registers_begun}
use Rattle.chip.specs.Apply.{window_applied, registers_applied}
use Rattle.chip.specs.declared.Registers.{Registers}
use Rattle.st7789.specs.Command.{counts_begun}
use Rattle.st7789.specs.declared.Counts.{Counts}
use Rattle.laws.specs.Bytes.{stored_byte, place_of_byte, kind_of_byte, need_of_byte, broken_by_byte, times_after_byte, counts_by_byte, runs_by_byte, walk_by_byte, window_by_byte, registers_by_byte, window_applied_by_byte, registers_applied_by_byte}

-- Kind and place, by a test of every byte.
abbrev told : ℕ → Bool
told c = is (kind_of c) (kind_of_byte c) && (eqb (place_of (kind_of c)) (place_of_byte c) && beq (is_stored (kind_of c)) (stored_byte c))

all_told : below told 256 ≡ true
unfolding kind_of
all_told = refl

module _ (c : ℕ) (h : c < 256) where
  parts :
      (is (kind_of c) (kind_of_byte c) ≡ true)
      × (eqb (place_of (kind_of c)) (place_of_byte c) && beq (is_stored (kind_of c)) (stored_byte c) ≡ true)
  parts =
      (and-eq-true_iff (is (kind_of c) (kind_of_byte c)) (eqb (place_of (kind_of c)) (place_of_byte c) && beq (is_stored (kind_of c)) (stored_byte c))
      ).0 (at_each told 256 all_told c h)

  places : (eqb (place_of (kind_of c)) (place_of_byte c) ≡ true) × (beq (is_stored (kind_of c)) (stored_byte c) ≡ true)
  places = (and-eq-true_iff (eqb (place_of (kind_of c)) (place_of_byte c)) (beq (is_stored (kind_of c)) (stored_byte c))).0 parts.1

  pub kind-byte : kind_of c ≡ kind_of_byte c
  kind-byte = same_kind (kind_of c) (kind_of_byte c) parts.0

  pub place_byte : place_of (kind_of c) ≡ place_of_byte c
  place_byte = eqb-true (place_of (kind_of c)) (place_of_byte c) places.0

  pub stored-byte : is_stored (kind_of c) ≡ stored_byte c
  stored-byte = equal (is_stored (kind_of c)) (stored_byte c) places.1

-- The rest, by the byte of each kind.
pub need-byte : (c : ℕ) → need_of c ≡ need_of_byte c
need-byte c = need-for c ∙ rw (is-caset c, is-raset c, is-madctl c, is-colmod c, is-ramctrl c)

module _ (c : ℕ) where
  pub lint-byte : (strict formats : Bool) (times : Times) (colmod t : ℕ) → broken_by strict formats times colmod (kind_of c) t ≡ broken_by_byte strict formats times colmod c t
  unfolding broken_by
  lint-byte strict formats times colmod t = rw (is-slpin c, is-slpout c, is-ramwr c, is-ramwrc c)

  pub times-byte : (times : Times) (t : ℕ) → times_after times (kind_of c) t ≡ times_after_byte times c t
  unfolding times_after
  times-byte times t = rw (is-swreset c, is-slpin c, is-slpout c)

  pub counts-byte : (n : Counts) → counts_begun (kind_of c) n ≡ counts_by_byte c n
  counts-byte n = rw (is-ramwr c)

  pub run-byte : starts_run (kind_of c) ≡ runs_by_byte c
  run-byte = rw (is-ramwr c, is-ramwrc c)

  pub walk-byte : (w : Window) (v : Walk) → walk_reset (kind_of c) (walk_begun (kind_of c) w v) ≡ walk_by_byte c w v
  walk-byte w v = rw (is-swreset c, is-ramwr c, is-ramwrc c)

  pub window-byte : (madctl : ℕ) (w : Window) → window_begun (kind_of c) madctl w ≡ window_by_byte c madctl w
  window-byte madctl w = rw (is-swreset c)

  pub registers-byte : (g : Registers) → registers_begun (kind_of c) g ≡ registers_by_byte c g
  registers-byte g = rw (is-swreset c, is-slpin c, is-slpout c, is-invoff c, is-invon c, is-dispoff c, is-dispon c)

  pub window-applied-byte : (p : Params) (madctl : ℕ) (w : Window) → window_applied (kind_of c) p madctl w ≡ window_applied_by_byte c p madctl w
  window-applied-byte p madctl w = rw (is-caset c, is-raset c)

  pub registers-applied-byte : (p : Params) (g : Registers) → registers_applied (kind_of c) p g ≡ registers_applied_by_byte c p g
  registers-applied-byte p g = rw (is-madctl c, is-colmod c, is-ramctrl c)
