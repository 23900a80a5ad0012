-- A window that lies on the panel loses no pixel, so a flush of it is stored whole.
use Prim.Native.Nat.{ℕ, ◌+◌, ◌≤◌}
use mathlib.Core.Path.{◌≡◌, refl, ◌∙◌}
use mathlib.Core.Bool.{Bool, true, false, cond}
use mathlib.Core.List.{List, [], ◌∷◌}
use native.Mathlib.Omega.{arith}
use borrow.Author.Tests.{lt-ltb, ltb-true, leb-false}
use lib.Dec.{ltb, leb}
use lib.ListN.{length, length-append}
use Rattle.geometry.specs.Place.{has, largest_column, largest_row, cell_at, map_of, is_inverted, placed, outcome, next}
use Rattle.geometry.specs.declared.Pointer.{Pointer}
use Rattle.geometry.specs.declared.Site.{Site}
use Rattle.pixels.specs.declared.Walk.{Walk}
use Rattle.formats.specs.Bytes.{pixels_of}
use Rattle.pixels.specs.Run.{onward, store_of, stores_of, totals_of, totals}
use Rattle.pixels.proofs.Sums.{totals-equal}

-- A pointer on the panel.
pub record PointerOnPanel (madctl : ℕ) (p : Pointer) : Type 0 where
  pub x : p.x ≤ largest_column madctl
  pub y : p.y ≤ largest_row madctl

-- A window on the panel, which is not inverted.
pub record WindowOnPanel (site : Site) : Type 0 where
  pub upright : is_inverted site.window ≡ false
  pub xs : site.window.xs ≤ largest_column site.madctl
  pub xe : site.window.xe ≤ largest_column site.madctl
  pub ys : site.window.ys ≤ largest_row site.madctl
  pub ye : site.window.ye ≤ largest_row site.madctl

-- On the panel a coordinate has its cell.
placed-once : (madctl : ℕ) (p : Pointer) (v : ℕ) → PointerOnPanel madctl p → length (store_of (placed (map_of madctl p.x p.y)) v) ≡ 1
unfolding map_of
placed-once madctl p v on = go (has madctl 0x20) on.x on.y
  where
    go :
        (b : Bool) → p.x ≤ cond b 319 239 → p.y ≤ cond b 239 319 →
        length (store_of (placed (cond b (cell_at madctl p.y p.x) (cell_at madctl p.x p.y))) v) ≡ 1
    go true h k = simp (lt-ltb p.y 240 (omega arith), lt-ltb p.x 320 (omega arith))
    go false h k = simp (lt-ltb p.x 240 (omega arith), lt-ltb p.y 320 (omega arith))

module _ (site : Site) (within : WindowOnPanel site) where
  stays_on : (p : Pointer) → PointerOnPanel site.madctl p → PointerOnPanel site.madctl (onward site.window p)
  unfolding next
  stays_on p on = rw within.upright (go (ltb p.x site.window.xe) (leb site.window.ye p.y) refl refl)
    where
      go :
          (a b : Bool) → ltb p.x site.window.xe ≡ a → leb site.window.ye p.y ≡ b →
          PointerOnPanel site.madctl
          (cond a (record { x = p.x + 1; y = p.y }) (record { x = site.window.xs; y = cond b site.window.ys (p.y + 1) }))
      go true b e f = record { x = omega (arith, ltb-true p.x site.window.xe e, within.xe); y = on.y }
      go false true e f = record { x = within.xs; y = within.ys }
      go false false e f = record { x = within.xs; y = omega (arith, leb-false site.window.ye p.y f, within.ye) }

  all-stored : (p : Pointer) (vs : List ℕ) → PointerOnPanel site.madctl p → length (stores_of site p vs) ≡ length vs
  unfolding outcome
  all-stored p [] on = refl
  all-stored p (v ∷ vs) on =
      let rest = all-stored (onward site.window p) vs (stays_on p on) in
      let one : length (store_of (outcome site p) v) ≡ 1 = rw within.upright (placed-once site.madctl p v on) in
      length-append (store_of (outcome site p) v) (stores_of site (onward site.window p) vs) ∙ omega (arith, one, rest)

  pub on-panel-stored :
      (k : Walk) (bytes : List ℕ) → PointerOnPanel site.madctl k.pointer →
      totals site k bytes ≡ record { stored = length (pixels_of site.format k.carry bytes); inverted = 0; unmapped = 0 }
  unfolding totals_of
  on-panel-stored k bytes on =
      let all = all-stored k.pointer (pixels_of site.format k.carry bytes) on in
      rw within.upright (totals-equal all refl (omega (arith, all)))
