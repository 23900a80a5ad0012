-- Rules: lines of text: words, numbers and hex bytes, parted by spaces.
use Rattle.std.specs.Prelude.{ℕ, List, ◌++◌, [] as none, ◌∷◌ as ◌then◌}
use Prim.Native.Char.{code}
use Prim.Native.String.{String, [], ◌∷◌}
use Rattle.text.specs.Numbers.{decimal, hex_digits}

-- The codes of a text.
abbrev pub ascii : String → List ℕ
ascii [] = none
ascii (c ∷ s) = code c then ascii s

-- The texts of entries, one after the other.
unfoldable pub texts : {A : Type 0} → (A → List ℕ) → List A → List ℕ
texts f none = none
texts f (x then xs) = f x ++ texts f xs

-- "Numbers are decimal": after a space.
abbrev pub number : ℕ → List ℕ
number n = ascii " " ++ decimal n

-- "in hex after a space"
abbrev pub hex_byte : ℕ → List ℕ
hex_byte b = ascii " " ++ hex_digits 2 b

-- Several numbers.
abbrev pub numbers : List ℕ → List ℕ
numbers ns = texts number ns

-- Several bytes.
abbrev pub hex_bytes : List ℕ → List ℕ
hex_bytes bs = texts hex_byte bs

-- The line's end.
abbrev pub newline : List ℕ
newline = 10 then none

-- A word, numbers and the line's end.
abbrev pub line : List ℕ → List ℕ → List ℕ
line word ns = word ++ numbers ns ++ newline
