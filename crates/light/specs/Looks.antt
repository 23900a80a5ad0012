-- Workshop: what the loops over a part go by.
use Rattle.std.specs.Prelude.{ℕ, ◌-◌, ◌*◌, ◌≤◌, ◌≡◌, cond, List, get_or}
use Rattle.light.specs.Light.{scaled, dimmed, glass_of}
use Rattle.light.specs.declared.Light.{Light}

-- A number on the glass, of those up to `most`: 65535 for a number of memory, 31 or 63 for a channel.
abbrev pub glass_of_most : ℕ → Light → ℕ → ℕ
glass_of_most most l value = cond l.lit (cond l.plain value (most - value)) 0

-- What a value of a channel becomes, on the glass and dimmed, in the channel's place in a pixel.
abbrev pub placed : Light → ℕ → ℕ → ℕ → ℕ
placed l most times value = scaled (glass_of_most most l value) l.level l.scale * times

-- A table of what each value of a channel becomes.
abbrev pub Table : Light → ℕ → ℕ → List ℕ → Type 0
Table l most times table = (k : ℕ) → k ≤ most → get_or table k 0 ≡ placed l most times k

-- The three tables of a light.
pub record Tables (l : Light) (reds greens blues : List ℕ) : Type 0 where
  pub red : Table l 31 2048 reds
  pub green : Table l 63 32 greens
  pub blue : Table l 31 1 blues

-- A number of memory on the glass and dimmed.
abbrev pub dimmed_by : Light → ℕ → ℕ
dimmed_by l raw = dimmed (glass_of l raw) l.level l.scale
