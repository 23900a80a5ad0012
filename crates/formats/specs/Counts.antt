-- Rules: how many pixels a number of bytes completes, and how many bytes then wait; the laws on whole pixels are said in these words. None
-- stands for a sentence of 02.
use Rattle.std.specs.Prelude.{ℕ, ◌*◌, ◌/◌, ◌%◌}
use Rattle.formats.specs.declared.Format.{Format}
use Rattle.formats.specs.declared.Format.TheVariants.{Twelve, HighFirst, LowFirst, Eighteen}
use Rattle.formats.specs.declared.Carry.{Carry}
use Rattle.formats.specs.declared.Carry.TheVariants.{Empty, One, Two}

-- How many bytes wait.
abbrev pub held : Carry → ℕ
held Empty = 0
held (One a) = 1
held (Two a b) = 2

-- Of n bytes, the first of which begins a pixel: how many pixels are complete, and how many bytes wait.
abbrev pub whole_in : Format → ℕ → ℕ
whole_in Twelve n = 2 * n / 3
whole_in HighFirst n = n / 2
whole_in LowFirst n = n / 2
whole_in Eighteen n = n / 3

abbrev pub rest_in : Format → ℕ → ℕ
rest_in Twelve n = n % 3
rest_in HighFirst n = n % 2
rest_in LowFirst n = n % 2
rest_in Eighteen n = n % 3
