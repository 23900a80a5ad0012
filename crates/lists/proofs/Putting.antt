-- One entry more at the place that `free` tells, or none where no place is.
use Prim.Native.Nat.{ℕ, ◌+◌, ◌≤◌, ◌<◌, min}
use mathlib.Core.Path.{◌≡◌}
use mathlib.Core.List.{List}
use native.Mathlib.Omega.{arith}
use borrow.Author.Tests.{lt-ltb, le-ltb}
use lib.ListN.{set}
use Rattle.lists.specs.Fixed.{Fixed, push}

module _ {A : Type 0} (most n : ℕ) {at : ℕ} (e : at ≡ min n most) (l : List A) (x : A) where
  pub put-free : at < most → ◌≡◌ {A = Fixed A} (record { count = n + 1; places = set l at x }) (push most (record { count = n; places = l }) x)
  put-free h =
      let i : at ≡ n = omega (arith, e, h) in
      let b = lt-ltb n most (omega (arith, e, h)) in
      rw (i, b)

  pub put-none : most ≤ at → ◌≡◌ {A = Fixed A} (record { count = n; places = l }) (push most (record { count = n; places = l }) x)
  put-none h = let b = le-ltb n most (omega (arith, e, h)) in rw b
