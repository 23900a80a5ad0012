-- Rules: a text under way: a buffer, and how much of it is used.
use Rattle.std.specs.Prelude.{ℕ, ◌≡◌, List, length}
use Rattle.lists.specs.Fixed.{Fixed, push_all}

-- The bytes of a text in turn from place `at` on, each kept while there is room.
unfoldable pub appended : List ℕ → ℕ → List ℕ → Fixed ℕ
appended out at text = push_all (length out) (record { count = at; places = out }) text

-- What a call that appends a text promises: of the count that it answers, and of the buffer afterwards.
abbrev pub Put : List ℕ → ℕ → List ℕ → ℕ → List ℕ → Type 0
Put out at text at₁ out₁ = (at₁ ≡ (appended out at text).count) × (out₁ ≡ (appended out at text).places)
