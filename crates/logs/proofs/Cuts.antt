-- The part of a list that is lent from an offset on.
use Prim.Native.Nat.{ℕ, ◌-◌}
use mathlib.Core.Path.{◌≡◌, ap, ◌∙◌}
use mathlib.Core.List.{List}
use native.Mathlib.Omega.{arith}
use lib.ListN.{length, take, drop, length-drop}
use lib.Seq.{take_all}

abbrev pub lent : List ℕ → ℕ → List ℕ
lent log at = take (length log - at) (drop at log)

pub lent-all : (log : List ℕ) (at : ℕ) → lent log at ≡ drop at log
lent-all log at = take_all (length log - at) (drop at log) (rw length-drop (omega arith))

pub lent-long : (log : List ℕ) (at : ℕ) → length (lent log at) ≡ length log - at
lent-long log at = ap length (lent-all log at) ∙ length-drop at log
