-- Numbers of document 01's printed log, the largest numbers, and a text cut where its buffer ends.
use Prim.Native.Nat.{◌-◌, ◌^◌}
use mathlib.Core.Path.{◌≡◌, refl}
use mathlib.Core.List.{[], ◌∷◌}
use lib.ListN.{replicate}
use Rattle.lists.specs.Fixed.{used}
use Rattle.text.specs.Text.{appended}
use Rattle.text.specs.Numbers.{digits, size, decimal, hex_digits}

pub colmod-66 : hex_digits 2 0x66 ≡ 54 ∷ 54 ∷ []
unfolding hex_digits digits
colmod-66 = refl

pub command-2c : hex_digits 2 0x2C ≡ 50 ∷ 99 ∷ []
unfolding hex_digits digits
command-2c = refl

pub column-239 : decimal 239 ≡ 50 ∷ 51 ∷ 57 ∷ []
unfolding decimal digits size
column-239 = refl

pub largest-decimal :
    decimal (2 ^ 64 - 1) ≡
    49 ∷ 56 ∷ 52 ∷ 52 ∷ 54 ∷ 55 ∷ 52 ∷ 52 ∷ 48 ∷ 55 ∷ 51 ∷ 55 ∷ 48 ∷ 57 ∷ 53 ∷ 53 ∷ 49 ∷ 54 ∷ 49 ∷ 53 ∷ []
unfolding decimal digits size
largest-decimal = refl

pub largest-hex : hex_digits 16 (2 ^ 64 - 1) ≡ replicate 16 102
unfolding hex_digits digits
largest-hex = refl

pub cut-239 : used (appended (replicate 2 0) 0 (decimal 239)) ≡ 50 ∷ 51 ∷ []
unfolding appended decimal digits size
cut-239 = refl
