-- Rules: 01, "Data in a run", and 02, Q-5: bytes to pixels. One step, a byte that arrives at what waits; nothing else knows how bytes form a
-- pixel.
use Rattle.std.specs.Prelude.{ℕ, ◌+◌, ◌*◌, ◌/◌, ◌%◌, Option, Some, None}
use mathlib.Core.List.{List, [], ◌∷◌, ◌++◌, foldl}
use Rattle.formats.specs.declared.Format.{Format}
use Rattle.formats.specs.declared.Format.TheVariants.{Twelve, HighFirst, LowFirst, Eighteen}
use Rattle.formats.specs.declared.Carry.{Carry}
use Rattle.formats.specs.declared.Carry.TheVariants.{Empty, One, Two}
use Rattle.formats.specs.declared.Arrived.{Arrived}

-- A pixel of memory: five bits of red, six of green, five of blue.
abbrev pub colour : ℕ → ℕ → ℕ → ℕ
colour red green blue = red * 2048 + green * 32 + blue

-- "widened by repeating top bits": four bits to five, and to six.
abbrev pub to_five : ℕ → ℕ
to_five v = v * 2 + v / 8

abbrev pub to_six : ℕ → ℕ
to_six v = v * 4 + v / 4

abbrev pub widened : ℕ → ℕ → ℕ → ℕ
widened red green blue = colour (to_five red) (to_six green) (to_five blue)

-- "12-bit takes three bytes for two pixels": four bits of each colour in turn, from the first byte's upper half on.
abbrev pub first_of_two : ℕ → ℕ → ℕ
first_of_two a b = widened (a / 16) (a % 16) (b / 16)

abbrev pub second_of_two : ℕ → ℕ → ℕ
second_of_two b c = widened (b % 16) (c / 16) (c % 16)

-- "18-bit takes three bytes, the upper six bits of each; red and blue lose their lowest bit."
abbrev pub narrowed : ℕ → ℕ → ℕ → ℕ
narrowed a b c = colour (a / 4 / 2) (b / 4) (c / 4 / 2)

-- A byte that completes no pixel, and one that does.
abbrev pub waits : Carry → Arrived
waits waiting = record { waiting = waiting; pixel = None }

abbrev pub completes : ℕ → Carry → Arrived
completes value waiting = record { waiting = waiting; pixel = Some value }

-- A byte after one that waits. In 16 bits "pairs form pixels, high byte first", and ENDIAN "turns the byte order". In 12 bits the first pixel
-- is "stored when its last bit arrives", in the second byte; the other pixel begins in it, so that both bytes stay.
abbrev pub second : Format → ℕ → ℕ → Arrived
second Twelve a b = completes (first_of_two a b) (Two a b)
second HighFirst a b = completes (a * 256 + b) Empty
second LowFirst a b = completes (b * 256 + a) Empty
second Eighteen a b = waits (Two a b)

-- A byte after two that wait. In 16 bits, where two waiting are BAD_STATE, the older counts as not come.
abbrev pub third : Format → ℕ → ℕ → ℕ → Arrived
third Twelve a b c = completes (second_of_two b c) Empty
third HighFirst a b c = second HighFirst b c
third LowFirst a b c = second LowFirst b c
third Eighteen a b c = completes (narrowed a b c) Empty

-- The step: what waits after a byte, and the pixel that it completes. "an odd byte waits as carry"; "Carry holds up to two bytes."
unfoldable pub arrival : Format → Carry → ℕ → Arrived
arrival f Empty b = waits (One b)
arrival f (One a) b = second f a b
arrival f (Two a b) c = third f a b c

-- The pixel of a step, if there is one.
abbrev pub listed : Option ℕ → List ℕ
listed (Some value) = value ∷ []
listed None = []

-- The pixels that bytes complete, after what waits: the step, byte by byte.
abbrev pub pixels_of : Format → Carry → List ℕ → List ℕ
pixels_of f waiting [] = []
pixels_of f waiting (b ∷ bs) = listed (arrival f waiting b).pixel ++ pixels_of f (arrival f waiting b).waiting bs

-- What waits after them.
abbrev pub carry_after : Format → Carry → List ℕ → Carry
carry_after f waiting bytes = foldl (λ c b. (arrival f c b).waiting) waiting bytes
