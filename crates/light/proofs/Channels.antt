-- A channel scaled, a pixel dimmed, and full brightness.
use Prim.Native.Nat.{ℕ, ◌*◌, ◌/◌, ◌≤◌, min}
use mathlib.Core.Path.{◌≡◌, refl, sym, ap, ◌∙◌}
use mathlib.Core.Bool.{Bool, true, false, cond}
use native.Mathlib.Nat.{mul-le-mul, mul_comm, mul-zero, zero-mul, zero-div, div-le_of_le-mul, mul-div_cancel}
use native.Mathlib.Omega.{arith}
use borrow.Author.Tests.{ne_eqb, eqb-true}
use lib.Dec.{eqb}
use Rattle.light.specs.Light.{red_of, green_of, blue_of, each_channel, scaled, dimmed}

-- A channel is never above what it was.
pub scaled-most : (channel level scale : ℕ) → scaled channel level scale ≤ channel
scaled-most channel level scale = go (eqb scale 0)
  where
    product : channel * min level scale ≤ scale * channel
    product = let p : channel * min level scale ≤ channel * scale = mul-le-mul (omega arith) (omega arith) in omega (arith, mul_comm channel scale)

    go : (b : Bool) → cond b 0 (channel * min level scale / scale) ≤ channel
    go true = omega arith
    go false = div-le_of_le-mul scale product

-- Full brightness leaves a channel as it is.
pub scaled-full : (channel level scale : ℕ) → scale ≤ level → (scale ≡ 0 → ⊥) → scaled channel level scale ≡ channel
scaled-full channel level scale full some =
    let m : min level scale ≡ scale = omega arith in rw (ne_eqb scale 0 some, m) (mul-div_cancel channel (omega arith))

-- Nothing stays nothing.
scaled-none : (channel level scale : ℕ) → channel * min level scale ≡ 0 → scaled channel level scale ≡ 0
scaled-none channel level scale e = go (eqb scale 0)
  where
    go : (b : Bool) → cond b 0 (channel * min level scale / scale) ≡ 0
    go true = refl
    go false = ap (λ n. n / scale) e ∙ zero-div scale

-- Level 0 needs no case of its own.
zero-anyway : (b : Bool) (x : ℕ) → (b ≡ true → x ≡ 0) → x ≡ cond b 0 x
zero-anyway true x h = h refl
zero-anyway false x h = refl

module _ (pixel level scale : ℕ) where
  pub dimmed-scaled : each_channel (λ channel. scaled channel level scale) pixel ≡ dimmed pixel level scale
  unfolding dimmed
  dimmed-scaled =
      zero-anyway (eqb level 0) (each_channel (λ channel. scaled channel level scale) pixel)
      (λ e. rw (dark (red_of pixel) e, dark (green_of pixel) e, dark (blue_of pixel) e))
    where
      dark : (channel : ℕ) → eqb level 0 ≡ true → scaled channel level scale ≡ 0
      dark channel e =
          let m : min level scale ≡ 0 = omega (arith, eqb-true level 0 e) in
          scaled-none channel level scale (ap (λ n. channel * n) m ∙ mul-zero channel)

  -- No channel reaches its neighbour: each channel of the dimmed pixel is that channel scaled.
  pub red-scaled : red_of (dimmed pixel level scale) ≡ scaled (red_of pixel) level scale
  red-scaled = rw (← dimmed-scaled) (omega (arith, scaled-most (green_of pixel) level scale, scaled-most (blue_of pixel) level scale))

  pub green-scaled : green_of (dimmed pixel level scale) ≡ scaled (green_of pixel) level scale
  green-scaled = rw (← dimmed-scaled) (omega (arith, scaled-most (green_of pixel) level scale, scaled-most (blue_of pixel) level scale))

  pub blue-scaled : blue_of (dimmed pixel level scale) ≡ scaled (blue_of pixel) level scale
  blue-scaled = rw (← dimmed-scaled) (omega (arith, scaled-most (blue_of pixel) level scale))

  -- Full brightness changes no pixel.
  pub dimmed-full : scale ≤ level → (scale ≡ 0 → ⊥) → dimmed pixel level scale ≡ pixel
  dimmed-full full some = sym dimmed-scaled ∙ rw (same (red_of pixel), same (green_of pixel), same (blue_of pixel)) (omega arith)
    where
      same : (channel : ℕ) → scaled channel level scale ≡ channel
      same channel = scaled-full channel level scale full some

-- "A pair with level above scale shall dim as level equal to scale"
pub dimmed-above : (pixel level scale : ℕ) → scale ≤ level → dimmed pixel level scale ≡ dimmed pixel scale scale
dimmed-above pixel level scale above =
    let m : min level scale ≡ min scale scale = omega arith in
    sym (dimmed-scaled pixel level scale) ∙ rw m (dimmed-scaled pixel scale scale)

-- Black stays black.
pub dimmed-black : (level scale : ℕ) → dimmed 0 level scale ≡ 0
dimmed-black level scale = sym (dimmed-scaled 0 level scale) ∙ rw (scaled-none 0 level scale (zero-mul (min level scale)))
