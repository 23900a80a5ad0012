-- Rules: 01's table of refusals: the tests that look at numbers alone, and the row of tests that each entry makes.
use Rattle.std.specs.Prelude.{ℕ, ◌^◌, Bool, cond, not, List, [], ◌∷◌, ltb, eqb}
use Rattle.lists.specs.Entries.{some}

-- A test of a row: whether it refuses, and the refusal's number.
pub record Test : Type 0 where
  pub refuses : Bool
  pub number : ℕ

-- "Tests run in number order": the number of the first test that refuses, 0 where none does.
abbrev pub first : List Test → ℕ
first [] = 0
first (x ∷ xs) = cond x.refuses x.number (first xs)

-- BAD_STATE, told by what looks at the whole state.
abbrev pub state_test : Bool → Test
state_test bad = record { refuses = bad; number = 1 }

-- BAD_MEMORY: "panel memory isn't 76,800 numbers"
abbrev pub memory_test : ℕ → Test
memory_test cells = record { refuses = not (eqb cells 76800); number = 2 }

-- BAD_FRAME: "frame or view buffer isn't 76,800 numbers"
abbrev pub frame_test : ℕ → Test
frame_test room = record { refuses = not (eqb room 76800); number = 3 }

-- TOO_LONG: "segment above 65,536 bytes"
abbrev pub length_test : ℕ → Test
length_test bytes = record { refuses = ltb 65536 bytes; number = 4 }

-- "above 2^63"; "exactly 2^63 are accepted."
abbrev pub high : ℕ → Bool
high n = ltb (2 ^ 63) n

-- COUNT_HIGH: "before a transfer, one of" the counts "is above 2^63"
abbrev pub high_test : List ℕ → Test
high_test counts = record { refuses = some high counts; number = 5 }

-- The rows: "each entry making those that concern its arguments; BAD_STATE is tested by transfer and publish only". A transfer:
abbrev pub transfer_row : Bool → ℕ → ℕ → List ℕ → List Test
transfer_row bad cells bytes counts = state_test bad ∷ memory_test cells ∷ length_test bytes ∷ high_test counts ∷ []

-- A transfer without memory:
abbrev pub bare_row : Bool → ℕ → List ℕ → List Test
bare_row bad bytes counts = state_test bad ∷ length_test bytes ∷ high_test counts ∷ []

-- Publishing:
abbrev pub publish_row : Bool → ℕ → ℕ → List Test
publish_row bad cells room = state_test bad ∷ memory_test cells ∷ frame_test room ∷ []

-- A whole view:
abbrev pub view_row : ℕ → ℕ → List Test
view_row cells room = memory_test cells ∷ frame_test room ∷ []

-- A pixel, a reset, and a panel made over lent memory:
abbrev pub memory_row : ℕ → List Test
memory_row cells = memory_test cells ∷ []

-- The refusal of these three.
abbrev pub memory_refusal : ℕ → ℕ
memory_refusal cells = first (memory_row cells)
