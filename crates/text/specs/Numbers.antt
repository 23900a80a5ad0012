-- Rules: 01, "Numbers are decimal but for hex bytes."
use Rattle.std.specs.Prelude.{ℕ, zero, suc, ◌+◌, ◌/◌, ◌%◌, min, cond, List, [], ◌∷◌, ◌++◌, map, ltb}

-- The ASCII code of a digit: 0 to 9, then a to f.
abbrev pub digit_code : ℕ → ℕ
digit_code d = cond (ltb d 10) (48 + d) (87 + d)

-- The last `width` digits of n to a base, the most significant first.
unfoldable pub digits : ℕ → ℕ → ℕ → List ℕ
digits base zero n = []
digits base (suc width) n = digits base width (n / base) ++ (n % base ∷ [])

-- How many decimal digits n has, counted up to `most`.
unfoldable pub size : ℕ → ℕ → ℕ
size zero n = 0
size (suc most) n = cond (ltb n 10) 1 (suc (size most (n / 10)))

-- "Numbers are decimal": without leading zeros. 20 digits at most: no 64-bit number has more.
unfoldable pub decimal : ℕ → List ℕ
decimal n = map digit_code (digits 10 (size 20 n) n)

-- "hex bytes": the last `width` hex digits of a number. 16 at most: no 64-bit number has more.
unfoldable pub hex_digits : ℕ → ℕ → List ℕ
hex_digits width n = map digit_code (digits 16 (min width 16) n)
