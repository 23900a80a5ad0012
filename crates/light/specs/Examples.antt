-- Examples: edges of dimming, as rows of one table: a pixel, a brightness pair, and the pixel dimmed. P11 itself is a row of no_room's
-- table.
use Rattle.std.specs.Prelude.{ℕ, ◌-◌, ◌^◌, Bool, true, ◌&&◌, List, [], ◌∷◌, eqb}
use Rattle.light.specs.Light.{dimmed}

-- A row of the table.
pub record Row : Type 0 where
  pub pixel : ℕ
  pub level : ℕ
  pub scale : ℕ
  pub seen : ℕ

-- Whether every row is as the definition has it.
abbrev pub all_seen : List Row → Bool
all_seen [] = true
all_seen (r ∷ rs) = eqb (dimmed r.pixel r.level r.scale) r.seen && all_seen rs

-- The table.
unfoldable pub rows : List Row
rows =
    -- level 0, scale 0, full brightness
    record { pixel = 0xFFFF; level = 0; scale = 1; seen = 0 }
    ∷ record { pixel = 0xFFFF; level = 1; scale = 0; seen = 0 }
    ∷ record { pixel = 0xA5C3; level = 1024; scale = 1024; seen = 0xA5C3 }
    -- level above scale: one more, the largest pair, and Q-1's slider, 3 over 2, where channels spilled into their neighbours: 7BEE
    ∷ record { pixel = 0xA5C3; level = 1025; scale = 1024; seen = 0xA5C3 }
    ∷ record { pixel = 0xA5C3; level = 2 ^ 32 - 1; scale = 1; seen = 0xA5C3 }
    ∷ record { pixel = 0xFFFF; level = 3; scale = 2; seen = 0xFFFF }
    ∷ []
