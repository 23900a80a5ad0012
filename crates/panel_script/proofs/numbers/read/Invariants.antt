use Rattle.std.proofs.Common.{◌≡◌, drop}
use mathlib.Core.List.{foldl}
use Rattle.std.specs.Prelude.{Some}
use Rattle.panel_script.specs.Numbers.{next}
use Rattle.panel_script.proofs.numbers.read.Given as goal

abbrev pub invariant-loop-byte : goal.invariant-loop-byte
invariant-loop-byte l = foldl (next l.base l.most) (Some l.n) (drop l.byte-index l.word) ≡ foldl (next l.base l.most) (Some 0) l.word
