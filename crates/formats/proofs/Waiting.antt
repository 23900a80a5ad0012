-- What waits and what is complete, format by format: two bytes wait in 12 and 18 bits alone, and n bytes complete n / 2, n / 3 or 2n / 3
-- pixels, counted from the first byte that waits.
use Prim.Native.Nat.{ℕ, suc, ◌+◌}
use mathlib.Core.Path.{◌≡◌, refl, ◌∙◌}
use mathlib.Core.Bool.{false, true≢false}
use mathlib.Core.List.{List, [], ◌∷◌}
use native.Mathlib.Omega.{arith}
use lib.ListN.{length, length-append}
use Rattle.formats.specs.declared.Format.{Format}
use Rattle.formats.specs.declared.Format.TheVariants.{Twelve, HighFirst, LowFirst, Eighteen}
use Rattle.formats.specs.declared.Carry.{Carry}
use Rattle.formats.specs.declared.Carry.TheVariants.{Empty, One, Two}
use Rattle.formats.specs.declared.Arrived.{Arrived}
use Rattle.formats.specs.Formats.{carry_bad}
use Rattle.formats.specs.Bytes.{second, third, arrival, listed, pixels_of, carry_after}
use Rattle.formats.specs.Counts.{held, whole_in, rest_in}

-- No byte leaves a carry that is bad, whatever it came to.
second-good : (f : Format) (a b : ℕ) → carry_bad f (second f a b).waiting ≡ false
second-good Twelve a b = refl
second-good HighFirst a b = refl
second-good LowFirst a b = refl
second-good Eighteen a b = refl

third-good : (f : Format) (a b c : ℕ) → carry_bad f (third f a b c).waiting ≡ false
third-good Twelve a b c = refl
third-good HighFirst a b c = refl
third-good LowFirst a b c = refl
third-good Eighteen a b c = refl

arrival-good : (f : Format) (c : Carry) (b : ℕ) → carry_bad f (arrival f c b).waiting ≡ false
unfolding arrival
arrival-good f Empty b = refl
arrival-good f (One a) b = second-good f a b
arrival-good f (Two a b) c = third-good f a b c

-- So a good carry stays good.
pub carry-good : (f : Format) (c : Carry) (bytes : List ℕ) → carry_bad f c ≡ false → carry_bad f (carry_after f c bytes) ≡ false
carry-good f c [] e = e
carry-good f c (b ∷ bytes) e = carry-good f (arrival f c b).waiting bytes (arrival-good f c b)

-- Where no two bytes wait, no format makes the carry bad.
pub few-good : (f : Format) (c : Carry) → carry_bad HighFirst c ≡ false → carry_bad f c ≡ false
few-good f Empty e = refl
few-good f (One a) e = refl
few-good f (Two a b) e = absurd (true≢false e)

-- One byte, and n after it.
record Counted (f : Format) (c : Carry) (a : Arrived) (n : ℕ) : Type 0 where
  whole : whole_in f (held c) + length (listed a.pixel) + whole_in f (held a.waiting + n) ≡ whole_in f (held c + suc n) + whole_in f (held a.waiting)
  rest : rest_in f (held a.waiting + n) ≡ rest_in f (held c + suc n)

counted : (f : Format) (c : Carry) (b n : ℕ) → carry_bad f c ≡ false → Counted f c (arrival f c b) n
unfolding arrival
counted Twelve Empty b n e = record { whole = omega arith; rest = omega arith }
counted Twelve (One x) b n e = record { whole = omega arith; rest = omega arith }
counted Twelve (Two x y) b n e = record { whole = omega arith; rest = omega arith }
counted HighFirst Empty b n e = record { whole = omega arith; rest = omega arith }
counted HighFirst (One x) b n e = record { whole = omega arith; rest = omega arith }
counted HighFirst (Two x y) b n e = record { whole = cc; rest = cc }
counted LowFirst Empty b n e = record { whole = omega arith; rest = omega arith }
counted LowFirst (One x) b n e = record { whole = omega arith; rest = omega arith }
counted LowFirst (Two x y) b n e = record { whole = cc; rest = cc }
counted Eighteen Empty b n e = record { whole = omega arith; rest = omega arith }
counted Eighteen (One x) b n e = record { whole = omega arith; rest = omega arith }
counted Eighteen (Two x y) b n e = record { whole = omega arith; rest = omega arith }

rest-held : (f : Format) (c : Carry) → carry_bad f c ≡ false → held c ≡ rest_in f (held c)
rest-held Twelve Empty e = refl
rest-held Twelve (One x) e = refl
rest-held Twelve (Two x y) e = refl
rest-held HighFirst Empty e = refl
rest-held HighFirst (One x) e = refl
rest-held HighFirst (Two x y) e = cc
rest-held LowFirst Empty e = refl
rest-held LowFirst (One x) e = refl
rest-held LowFirst (Two x y) e = cc
rest-held Eighteen Empty e = refl
rest-held Eighteen (One x) e = refl
rest-held Eighteen (Two x y) e = refl

-- What a segment completes, less what those that wait completed before.
pub pixels-whole :
    (f : Format) (c : Carry) (bytes : List ℕ) → carry_bad f c ≡ false →
    whole_in f (held c) + length (pixels_of f c bytes) ≡ whole_in f (held c + length bytes)
pixels-whole f c [] e = let z : held c + 0 ≡ held c = omega arith in rw z (omega arith)
pixels-whole f c (b ∷ bs) e =
    simp length-append
    (omega (arith, (counted f c b (length bs) e).whole, pixels-whole f (arrival f c b).waiting bs (arrival-good f c b)))

-- And how many bytes wait after it.
pub carry-held :
    (f : Format) (c : Carry) (bytes : List ℕ) → carry_bad f c ≡ false → held (carry_after f c bytes) ≡ rest_in f (held c + length bytes)
carry-held f c [] e = let z : held c + 0 ≡ held c = omega arith in rw z (rest-held f c e)
carry-held f c (b ∷ bs) e = carry-held f (arrival f c b).waiting bs (arrival-good f c b) ∙ (counted f c b (length bs) e).rest
