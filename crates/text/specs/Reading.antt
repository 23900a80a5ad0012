-- Rules: text read as a number, the words in which the theorems about `decimal` and `hex_digits` are said.
use Rattle.std.specs.Prelude.{ℕ, ◌+◌, ◌-◌, ◌*◌, ◌≤◌, cond, ◌⊎◌, ltb}
use mathlib.Core.List.{List, [], ◌∷◌, foldl}

-- What the code of a digit, 0 to 9 or a to f, stands for.
abbrev pub digit_of : ℕ → ℕ
digit_of code = cond (ltb code 58) (code - 48) (code - 87)

-- The number that a text of digits says, the most significant first.
abbrev pub value : ℕ → List ℕ → ℕ
value base text = foldl (λ n code. n * base + digit_of code) 0 text

-- 0 to 9
abbrev pub Decimal : ℕ → Type 0
Decimal code = (48 ≤ code) × (code ≤ 57)

-- 0 to 9, or a to f
abbrev pub Hex : ℕ → Type 0
Hex code = Decimal code ⊎ ((97 ≤ code) × (code ≤ 102))

-- Each byte of a text is such.
abbrev pub Each : (ℕ → Type 0) → List ℕ → Type 0
Each P [] = Unit
Each P (x ∷ text) = P x × Each P text
