-- Perceived of a black glass, and at full brightness.
use Prim.Native.Nat.{ℕ, ◌≤◌}
use mathlib.Core.Path.{◌≡◌, sym}
use mathlib.Core.Bool.{false}
use mathlib.Core.List.{List, map}
use Rattle.light.proofs.Each.{map_same}
use Rattle.light.specs.Light.{glass_of, viewed}
use Rattle.light.specs.declared.FrameView.TheVariants.{Glass, Perceived}
use Rattle.light.specs.declared.Light.{Light}
use Rattle.light.proofs.Channels.{dimmed-full, dimmed-black}

-- A black glass dimmed is that glass.
pub perceived-black : (l : Light) (from : List ℕ) → l.lit ≡ false → map (glass_of l) from ≡ map (viewed Perceived l) from
unfolding viewed
perceived-black l from dark = map_same (glass_of l) (viewed Perceived l) each from
  where
    each : (raw : ℕ) → glass_of l raw ≡ viewed Perceived l raw
    each raw = rw dark (sym (dimmed-black l.level l.scale))

-- At full brightness Perceived is Glass.
pub perceived-full : (l : Light) (raw : ℕ) → l.scale ≤ l.level → (l.scale ≡ 0 → ⊥) → viewed Perceived l raw ≡ viewed Glass l raw
unfolding viewed
perceived-full l raw full some = dimmed-full (glass_of l raw) l.level l.scale full some
