-- Rules: fixed lists.
use Rattle.std.specs.Prelude.{ℕ, ◌+◌, cond, take, set, ltb}
use mathlib.Core.List.{List, foldl}

-- "fixed lists .., each with a count of used ones": the first `count` places are used.
pub record Fixed (A : Type 0) : Type 0 where
  pub count : ℕ
  pub places : List A

-- "The state holds 128 trace records and 128 warnings."
abbrev pub places : ℕ
places = 128

-- "the used part of each list"
abbrev pub used : {A : Type 0} → Fixed A → List A
used f = take f.count f.places

-- One entry more, "kept while fewer than" `most` are used.
abbrev pub push : {A : Type 0} → ℕ → Fixed A → A → Fixed A
push most f x = cond (ltb f.count most) (record { count = f.count + 1; places = set f.places f.count x }) f

-- Entries in turn.
abbrev pub push_all : {A : Type 0} → ℕ → Fixed A → List A → Fixed A
push_all most f xs = foldl (push most) f xs
