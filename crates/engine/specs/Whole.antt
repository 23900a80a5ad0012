-- Workshop: whole pixels, which are bytes of which the first begins one and none is left, and the bytes before them.
use Rattle.std.specs.Prelude.{ℕ, ◌+◌, ◌<◌, ◌≡◌, List, get_or}
use Rattle.formats.specs.declared.Format.{Format}
use Rattle.formats.specs.declared.Format.TheVariants.{Twelve, HighFirst, LowFirst, Eighteen}
use Rattle.formats.specs.declared.Carry.{Carry}
use Rattle.formats.specs.declared.Carry.TheVariants.{Empty, One, Two}
use Rattle.formats.specs.Bytes.{pixels_of}

-- The pixels of bytes whose first begins one.
abbrev pub pixels_in : Format → List ℕ → List ℕ
pixels_in f bytes = pixels_of f Empty bytes

-- How many bytes the first that waits waits for.
abbrev pub missing_in : Format → ℕ
missing_in Twelve = 2
missing_in HighFirst = 1
missing_in LowFirst = 1
missing_in Eighteen = 2

-- How many bytes stand before the first of the whole pixels.
abbrev pub head_of : Format → Carry → ℕ
head_of f Empty = 0
head_of f (One a) = missing_in f
head_of f (Two a b) = 1

-- n numbers of one list, from i on, are those of another, from j on.
pub record Agree (xs : List ℕ) (i : ℕ) (ys : List ℕ) (j n : ℕ) : Type 0 where
  pub each : (k : ℕ) → k < n → get_or xs (i + k) 0 ≡ get_or ys (j + k) 0
