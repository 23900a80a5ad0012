-- What a row that is not refused has.
use Prim.Native.Nat.{ℕ, ◌+◌, ◌*◌, ◌<◌}
use mathlib.Core.Path.{◌≡◌, sym, ap, ◌∙◌}
use mathlib.Core.List.{List}
use native.Mathlib.Omega.{arith}
use borrow.Author.Tests.{eq-eqb, lt-ltb}
use lib.ListN.{length, get_or, take, drop, length-drop}
use lib.Seq.{length-take-le, get_or-take, get_or-drop}
use Rattle.views.specs.Views.{picked, row_seen}
use Rattle.views.specs.declared.Memory.{Memory}
use Rattle.views.specs.declared.Memory.TheVariants.{Panel, Frame}

module _ (memory : Memory) (row : ℕ) (panel frame : List ℕ) where
  part : length panel ≡ 76800 → length frame ≡ 76800 → row < 320 → take 240 (drop (row * 240) (picked memory panel frame)) ≡ row_seen memory row panel frame
  unfolding row_seen
  part p f h = rw (eq-eqb (length panel) 76800 p, eq-eqb (length frame) 76800 f, lt-ltb row 320 h)

  -- A row that is not refused: 240 numbers, those of the picked memory from row x 240 on.
  module _ (p : length panel ≡ 76800) (f : length frame ≡ 76800) (h : row < 320) where
    either : (m : Memory) → length (picked m panel frame) ≡ 76800
    either Panel = p
    either Frame = f

    pub row-long : length (row_seen memory row panel frame) ≡ 240
    row-long =
        ap length (sym (part p f h))
        ∙ length-take-le 240 (drop (row * 240) (picked memory panel frame))
        (omega (arith, length-drop (row * 240) (picked memory panel frame), either memory))

    pub row_number : (i : ℕ) → i < 240 → get_or (row_seen memory row panel frame) i 0 ≡ get_or (picked memory panel frame) (row * 240 + i) 0
    row_number i k =
        let all = picked memory panel frame in
        ap (λ l. get_or l i 0) (sym (part p f h)) ∙ get_or-take 240 (drop (row * 240) all) i 0 k ∙ get_or-drop (row * 240) all i 0
