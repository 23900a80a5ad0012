-- The law that ties a whole view to one pixel of it.
use Prim.Native.Nat.{ℕ, ◌+◌, ◌*◌, ◌<◌}
use mathlib.Core.Path.{◌≡◌}
use mathlib.Core.List.{List}
use native.Mathlib.Omega.{arith}
use borrow.Author.Tests.{eq-eqb, lt-ltb}
use lib.ListN.{length, get_or}
use Rattle.lists.proofs.Mapping.{at-index}
use Rattle.light.specs.Light.{viewed}
use Rattle.light.specs.declared.FrameView.{FrameView}
use Rattle.st7789.specs.declared.Controller.{Controller}
use Rattle.views.specs.Views.{light_of, pixel_seen, frame_seen}

-- Entry row x 240 + column of a whole view is the pixel.
module _ (view : FrameView) (s : Controller) (x y : ℕ) (memory : List ℕ) where
  pub frame-pixel :
      (buffer : List ℕ) → length memory ≡ 76800 → length buffer ≡ 76800 → x < 240 → y < 320 →
      get_or (frame_seen view s memory buffer) (y * 240 + x) 0 ≡ pixel_seen view s x y memory
  unfolding frame_seen pixel_seen
  frame-pixel buffer m b hx hy =
      let h : y * 240 + x < length memory = omega arith in
      rw (eq-eqb (length memory) 76800 m, eq-eqb (length buffer) 76800 b, lt-ltb x 240 hx, lt-ltb y 320 hy)
      (at-index (viewed view (light_of s)) memory (y * 240 + x) h)
