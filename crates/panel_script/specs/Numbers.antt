-- Rules: docs/SCRIPTS.md, numbers in a script: "Bytes and pixels are lower-case hex, other numbers decimal"
use Rattle.std.specs.Prelude.{ℕ, ◌+◌, ◌-◌, ◌*◌, ◌^◌, cond, ◌&&◌, List, length, ◌==◌, nat_le, nat_lt, Option, Some, None}
use mathlib.Core.List.{foldl}

-- What a digit stands for: 0 to 9, then a to f; any other byte is none.
abbrev pub digit_of : ℕ → Option ℕ
digit_of byte =
    cond (nat_lt byte 48) None
    (cond (nat_lt byte 58) (Some (byte - 48)) (cond (nat_lt byte 97) None (cond (nat_lt byte 103) (Some (byte - 87)) None)))

-- The number with one digit more to a base, if it is a digit of that base and the number is at most `most`.
abbrev pub with_digit : ℕ → ℕ → ℕ → Option ℕ → Option ℕ
with_digit base most n None = None
with_digit base most n (Some d) = cond (nat_lt d base && nat_le (n * base + d) most) (Some (n * base + d)) None

-- The same of what was read before, which may be no number.
abbrev pub next : ℕ → ℕ → Option ℕ → ℕ → Option ℕ
next base most None byte = None
next base most (Some n) byte = with_digit base most n (digit_of byte)

-- One or more decimal digits whose value is at most `most`.
unfoldable pub decimal_of : ℕ → List ℕ → Option ℕ
decimal_of most word = cond (length word == 0) None (foldl (next 10 most) (Some 0) word)

-- So many hex digits, whose value fits 64 bits.
unfoldable pub hex_of : ℕ → List ℕ → Option ℕ
hex_of digits word = cond (length word == digits) (foldl (next 16 (2 ^ 64 - 1)) (Some 0) word) None
