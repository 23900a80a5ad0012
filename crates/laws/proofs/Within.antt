-- What BAD_STATE asks of a window and a pointer: the tests as bounds, and back.
use mathlib.Core.Path.{◌≡◌}
use mathlib.Core.Bool.{false}
use borrow.Author.Tests.{ltb-false, le-ltb}
use lib.Dec.{ltb}
use Rattle.geometry.specs.Bounds.{window_bad, pointer_bad}
use Rattle.geometry.specs.declared.Window.{Window}
use Rattle.geometry.specs.declared.Pointer.{Pointer}
use Rattle.geometry.proofs.Bounds.{WindowWithin, PointerWithin}
use Rattle.std.proofs.lemmas.Bool.{or_parts}

pub window-within : (w : Window) → window_bad w ≡ false → WindowWithin w
window-within w e =
    let t = or_parts (ltb 319 w.xs) _ e in
    let u = or_parts (ltb 319 w.xe) _ t.1 in
    let v = or_parts (ltb 319 w.ys) _ u.1 in
    record {
      xs = ltb-false 319 w.xs t.0;
      xe = ltb-false 319 w.xe u.0;
      ys = ltb-false 319 w.ys v.0;
      ye = ltb-false 319 w.ye v.1;
    }

pub within-window : (w : Window) → WindowWithin w → window_bad w ≡ false
within-window w h = rw (le-ltb 319 w.xs h.xs, le-ltb 319 w.xe h.xe, le-ltb 319 w.ys h.ys, le-ltb 319 w.ye h.ye)

pub pointer-within : (p : Pointer) → pointer_bad p ≡ false → PointerWithin p
pointer-within p e =
    let t = or_parts (ltb 319 p.x) (ltb 319 p.y) e in
    record { x = ltb-false 319 p.x t.0; y = ltb-false 319 p.y t.1 }

pub within-pointer : (p : Pointer) → PointerWithin p → pointer_bad p ≡ false
within-pointer p h = rw (le-ltb 319 p.x h.x, le-ltb 319 p.y h.y)
