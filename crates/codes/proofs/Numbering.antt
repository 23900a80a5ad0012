-- Kinds by their numbers.
use Prim.Native.Nat.{◌-◌, ◌≤◌, ◌<◌}
use mathlib.Core.Path.{◌≡◌, refl, sym, ap, ◌∙◌}
use mathlib.Core.Bool.{Bool, true, false, cond, ◌&&◌, and-eq-true_iff, true≢false}
use native.Mathlib.Omega.{arith}
use borrow.Author.Tests.{eqb-true, ne_eqb, ltb-true}
use lib.Dec.{leb, ltb}
use Rattle.codes.specs.Codes.{kind_number, is, has_effect, is_stored, place_of}
use Rattle.codes.specs.Table.{kind_numbered}
use Rattle.codes.specs.declared.Kind.{Kind}
use Rattle.codes.specs.declared.Kind.TheVariants.{NoEffect, Swreset, Slpin, Slpout, Invoff, Invon, Dispoff, Dispon, Caset, Raset, Ramwr, Madctl, Colmod, Ramwrc, Ramctrl, Porctrl, Gctrl, Vcoms, Lcmctrl, Vdvvrhen, Vrhs, Vdvs, Frctrl2, Pwctrl1, VendorD6, Pvgamctrl, Nvgamctrl}

-- The number of a kind is its own.
pub kind-back : (k : Kind) → kind_numbered (kind_number k) ≡ k
unfolding kind_numbered
kind-back NoEffect = refl
kind-back Swreset = refl
kind-back Slpin = refl
kind-back Slpout = refl
kind-back Invoff = refl
kind-back Invon = refl
kind-back Dispoff = refl
kind-back Dispon = refl
kind-back Caset = refl
kind-back Raset = refl
kind-back Ramwr = refl
kind-back Madctl = refl
kind-back Colmod = refl
kind-back Ramwrc = refl
kind-back Ramctrl = refl
kind-back Porctrl = refl
kind-back Gctrl = refl
kind-back Vcoms = refl
kind-back Lcmctrl = refl
kind-back Vdvvrhen = refl
kind-back Vrhs = refl
kind-back Vdvs = refl
kind-back Frctrl2 = refl
kind-back Pwctrl1 = refl
kind-back VendorD6 = refl
kind-back Pvgamctrl = refl
kind-back Nvgamctrl = refl

-- What a test of a kind that passed says.
pub number_is : (k j : Kind) {b : Bool} → b ≡ is k j → b ≡ true → kind_number k ≡ kind_number j
number_is k j e h = eqb-true (kind_number k) (kind_number j) (sym e ∙ h)

pub same_kind : (k j : Kind) → is k j ≡ true → k ≡ j
same_kind k j h = sym (kind-back k) ∙ ap kind_numbered (number_is k j refl h) ∙ kind-back j

-- A kind without an effect is none of those that have one.
pub idle : (k j : Kind) → has_effect k ≡ false → has_effect j ≡ true → is k j ≡ false
idle k j e h = ne_eqb (kind_number k) (kind_number j) (λ same. true≢false (sym h ∙ ap (λ n. leb 1 n && leb n 7) (sym same) ∙ e))

-- A kind has a place where it is stored, and only there.
module _ (k : Kind) where
  pub stored_one : place_of k < 12 → is_stored k ≡ true
  stored_one h = go (is_stored k) refl h
    where
      go : (b : Bool) → is_stored k ≡ b → cond b (kind_number k - 15) 12 < 12 → is_stored k ≡ true
      go true e l = e
      go false e l = absurd (omega arith)

  pub none-stored : 12 ≤ place_of k → is_stored k ≡ false
  none-stored h = go (is_stored k) refl h
    where
      go : (b : Bool) → is_stored k ≡ b → 12 ≤ cond b (kind_number k - 15) 12 → is_stored k ≡ false
      go true e l = let n = ltb-true (kind_number k) 27 ((and-eq-true_iff (leb 15 (kind_number k)) (ltb (kind_number k) 27)).0 e).1 in absurd (omega arith)
      go false e l = e
