-- Bytes a ++ b are a and then b, and no byte completes more than one pixel: laws of the fold, by the step alone, so of every format.
use Rattle.std.specs.Prelude.{Option, Some, None}
use Prim.Native.Nat.{ℕ, ◌≤◌}
use mathlib.Core.Path.{◌≡◌, refl}
use mathlib.Core.List.{List, [], ◌∷◌, ◌++◌, foldl-append, append_assoc}
use native.Mathlib.Omega.{arith}
use lib.ListN.{length, length-append}
use Rattle.formats.specs.declared.Format.{Format}
use Rattle.formats.specs.declared.Carry.{Carry}
use Rattle.formats.specs.Bytes.{arrival, listed, pixels_of, carry_after}

module _ (f : Format) where
  pub pixels-cut : (a b : List ℕ) (c : Carry) → pixels_of f c (a ++ b) ≡ pixels_of f c a ++ pixels_of f (carry_after f c a) b
  pixels-cut [] b c = refl
  pixels-cut (x ∷ a) b c = rw (pixels-cut a b (arrival f c x).waiting, append_assoc)

  pub carry-cut : (a b : List ℕ) (c : Carry) → carry_after f c (a ++ b) ≡ carry_after f (carry_after f c a) b
  carry-cut a b c = foldl-append (λ w x. (arrival f w x).waiting) c a b

  one_at_most : (p : Option ℕ) → length (listed p) ≤ 1
  one_at_most (Some v) = omega arith
  one_at_most None = omega arith

  pub pixels-few : (c : Carry) (bytes : List ℕ) → length (pixels_of f c bytes) ≤ length bytes
  pixels-few c [] = omega arith
  pixels-few c (b ∷ bytes) =
      simp length-append (omega (arith, one_at_most (arrival f c b).pixel, pixels-few (arrival f c b).waiting bytes))
