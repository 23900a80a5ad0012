-- The tables of a light: an entry made, and a pixel put together.
use Prim.Native.Nat.{ℕ, ◌+◌, ◌-◌, ◌*◌, ◌/◌, ◌%◌, ◌≤◌, ◌<◌}
use mathlib.Core.Path.{◌≡◌, refl, ap, ◌∙◌}
use mathlib.Core.Bool.{Bool, true, false, cond}
use mathlib.Core.List.{List}
use native.Mathlib.Omega.{arith}
use lib.Bits.{bit_or, or_shifted}
use lib.ListN.{get_or}
use Rattle.light.specs.Light.{red_of, green_of, blue_of, glass_of, scaled}
use Rattle.light.specs.Looks.{glass_of_most, placed, Tables, dimmed_by}
use Rattle.light.specs.declared.Light.{Light}
use Rattle.light.proofs.Channels.{scaled-most, dimmed-scaled}

-- An entry of a table, made step by step.
pub entry-made :
    (l : Light) (most times k : ℕ) {g w s : ℕ} → g ≡ glass_of_most most l k → w ≡ g → s ≡ scaled w l.level l.scale →
    s * times ≡ placed l most times k
entry-made l most times k eg ew es = ap (λ n. n * times) (es ∙ ap (λ n. scaled n l.level l.scale) (ew ∙ eg))

-- A channel of a number on the glass is that channel on the glass.
channel-on-glass :
    (f : ℕ → ℕ) (most : ℕ) (l : Light) (raw : ℕ) → f 0 ≡ 0 → f (65535 - raw) ≡ most - f raw → f (glass_of l raw) ≡ glass_of_most most l (f raw)
channel-on-glass f most l raw black turned = go l.lit l.plain
  where
    go : (b p : Bool) → f (cond b (cond p raw (65535 - raw)) 0) ≡ cond b (cond p (f raw) (most - f raw)) 0
    go true true = refl
    go true false = turned
    go false p = black

-- Channels in their places, joined by or, stand side by side.
side_by_side :
    (red green blue : ℕ) → green ≤ 63 → blue ≤ 31 → bit_or (bit_or (red * 2048) (green * 32)) (blue * 1) ≡ red * 2048 + green * 32 + blue
side_by_side red green blue hg hb =
    let upper : bit_or (red * 2048) (green * 32) ≡ (red * 64 + green) * 32 = or_shifted red 11 (green * 32) (omega arith) ∙ omega arith in
    rw upper (or_shifted (red * 64 + green) 5 (blue * 1) (omega arith) ∙ omega arith)

-- A pixel put together from the tables.
pub dimmed-by :
    (l : Light) {reds greens blues : List ℕ} (raw : ℕ) → raw < 65536 → Tables l reds greens blues →
    bit_or (bit_or (get_or reds (raw / 2048) 0) (get_or greens (raw / 32 % 64) 0)) (get_or blues (raw % 32) 0) ≡ dimmed_by l raw
dimmed-by l raw h t =
    rw (t.red (raw / 2048) (omega arith), t.green (raw / 32 % 64) (omega arith), t.blue (raw % 32) (omega arith), ← red, ← green, ← blue)
    (side_by_side _ _ _ (within (green_of glass) (omega arith)) (within (blue_of glass) (omega arith)) ∙ dimmed-scaled glass l.level l.scale)
  where
    glass : ℕ
    glass = glass_of l raw

    red : red_of (glass_of l raw) ≡ glass_of_most 31 l (raw / 2048)
    red = channel-on-glass red_of 31 l raw refl (omega arith)

    green : green_of (glass_of l raw) ≡ glass_of_most 63 l (raw / 32 % 64)
    green = channel-on-glass green_of 63 l raw refl (omega arith)

    blue : blue_of (glass_of l raw) ≡ glass_of_most 31 l (raw % 32)
    blue = channel-on-glass blue_of 31 l raw refl (omega arith)

    within : (channel : ℕ) {most : ℕ} → channel ≤ most → scaled channel l.level l.scale ≤ most
    within channel k = omega (arith, scaled-most channel l.level l.scale)
