-- Rules: one list copied over another.
use Rattle.std.specs.Prelude.{ℕ, cond, List, length, eqb}

-- The numbers of one list in the place of another's where the two are as long, and otherwise those that were there.
abbrev pub overwritten : List ℕ → List ℕ → List ℕ
overwritten from to = cond (eqb (length to) (length from)) from to
