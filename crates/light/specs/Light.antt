-- Rules: 01, "Fresh panel, views, publishing", and Q-1: what a number of memory looks like, dimmed or not.
use Rattle.std.specs.Prelude.{ℕ, ◌+◌, ◌-◌, ◌*◌, ◌/◌, ◌%◌, min, cond, List, map, length, eqb}
use Rattle.light.specs.declared.Light.{Light}
use Rattle.light.specs.declared.FrameView.{FrameView}
use Rattle.light.specs.declared.FrameView.TheVariants.{Raw, Glass, Perceived}

-- The channels of a pixel: red is its upper five bits, green the six below, blue the lower five.
abbrev pub red_of : ℕ → ℕ
red_of pixel = pixel / 2048

abbrev pub green_of : ℕ → ℕ
green_of pixel = pixel / 32 % 64

abbrev pub blue_of : ℕ → ℕ
blue_of pixel = pixel % 32

-- A pixel with each channel changed, the three side by side as they were.
abbrev pub each_channel : (ℕ → ℕ) → ℕ → ℕ
each_channel f pixel = f (red_of pixel) * 2048 + f (green_of pixel) * 32 + f (blue_of pixel)

-- "each channel becomes channel x level / scale, rounded down, .. and 0 for scale 0"; Q-1: "A pair with level above scale shall dim as level
-- equal to scale; scale 0 stays black."
abbrev pub scaled : ℕ → ℕ → ℕ → ℕ
scaled channel level scale = cond (eqb scale 0) 0 (channel * min level scale / scale)

-- "level 0 gives 0; each channel becomes .."
unfoldable pub dimmed : ℕ → ℕ → ℕ → ℕ
dimmed pixel level scale = cond (eqb level 0) 0 (each_channel (λ channel. scaled channel level scale) pixel)

-- "Glass is 0 unless powered, awake and on; then memory if inversion equals the switch, else its complement.": `lit` is the first, `plain`
-- the second.
abbrev pub glass_of : Light → ℕ → ℕ
glass_of l raw = cond l.lit (cond l.plain raw (65535 - raw)) 0

-- "Raw is memory." "Perceived dims Glass"
unfoldable pub viewed : FrameView → Light → ℕ → ℕ
viewed Raw l raw = raw
viewed Glass l raw = glass_of l raw
viewed Perceived l raw = dimmed (glass_of l raw) l.level l.scale

-- A part of memory seen into a part of a buffer: number by number where the two are as long, and otherwise not at all.
unfoldable pub part_seen : FrameView → Light → List ℕ → List ℕ → List ℕ
part_seen view l from to = cond (eqb (length to) (length from)) (map (viewed view l) from) to
