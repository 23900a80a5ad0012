-- What the decimal form and the hex digits of a number are.
use Prim.Native.Nat.{ℕ, zero, suc, ◌/◌, ◌%◌, ◌^◌, ◌≤◌, ◌<◌, min}
use mathlib.Core.Path.{◌≡◌, refl, ◌∙◌}
use mathlib.Core.List.{List, [], ◌∷◌, ◌++◌, map}
use native.Mathlib.Nat.{pow-suc, mod-eq_of_lt, div-lt_iff_lt-mul}
use native.Mathlib.Omega.{arith}
use borrow.Author.Tests.{lt-ltb, le-ltb}
use lib.ListN.{length, get_or, length-map}
use Rattle.text.specs.Numbers.{digit_code, digits, size, decimal, hex_digits}
use Rattle.text.specs.Reading.{value, Decimal, Hex, Each}
use Rattle.text.proofs.Sizing.{size_small, size-large, tenth-below}
use Rattle.text.proofs.Digits.{either, each_map, decimal-code, hex-code, length_digits, digits-below, value-digits}

-- How many digits: no more than are counted, no more than a power of ten above the number says, and enough to hold it.
size-most : (most n : ℕ) → size most n ≤ most
unfolding size
size-most zero n = omega arith
size-most (suc most) n =
    either n 10 (λ h. omega (arith, size_small most n h)) (λ h. omega (arith, size-large most n h, size-most most (n / 10)))

size_below : (most k n : ℕ) → 0 < k → n < 10 ^ k → size most n ≤ k
unfolding size
size_below zero k n p h = omega arith
size_below (suc most) zero n p h = absurd (omega arith)
size_below (suc most) (suc zero) n p h = omega (arith, size_small most n (omega arith))
size_below (suc most) (suc (suc k)) n p h =
    either n 10
    (λ l. omega (arith, size_small most n l))
    (λ l. omega (arith, size-large most n l, size_below most (suc k) (n / 10) (omega arith) (tenth-below (suc k) n h)))

size_holds : (most n : ℕ) → n < 10 ^ most → n < 10 ^ size most n
unfolding size
size_holds zero n h = h
size_holds (suc most) n h =
    either n 10
    (λ l. rw (size_small most n l) (omega arith))
    (λ l. rw (size-large most n l, pow-suc) ((div-lt_iff_lt-mul {k = 10} {x = n} (omega arith)).0 (size_holds most (n / 10) (tenth-below most n h))))

-- The first digit.
first-append : (a b : List ℕ) → 0 < get_or a 0 0 → get_or (a ++ b) 0 0 ≡ get_or a 0 0
first-append [] b h = absurd (omega arith)
first-append (x ∷ a) b h = refl

first-digit : (most n : ℕ) → 0 < n → n < 10 ^ most → 0 < get_or (digits 10 (size most n) n) 0 0
unfolding digits
first-digit zero n p h = absurd (omega arith)
first-digit (suc most) n p h =
    either n 10
    (λ l. rw (size_small most n l) (omega arith))
    (λ l.
    let rest = first-digit most (n / 10) (omega arith) (tenth-below most n h) in
    rw (size-large most n l, first-append (digits 10 (size most (n / 10)) (n / 10)) (n % 10 ∷ []) rest) rest)

first_code : (l : List ℕ) → 0 < get_or l 0 0 → 48 < get_or (map digit_code l) 0 0
first_code [] h = absurd (omega arith)
first_code (d ∷ l) h = either d 10 (λ k. rw (lt-ltb d 10 k) (omega arith)) (λ k. rw (le-ltb d 10 k) (omega arith))

-- The decimal form says the number, in digits, and begins with 0 only for 0.
pub value-decimal : (n : ℕ) → n < 10 ^ 20 → value 10 (decimal n) ≡ n
unfolding decimal
value-decimal n h = value-digits 10 (omega arith) (omega arith) (size 20 n) n ∙ mod-eq_of_lt (size_holds 20 n h)

pub decimal-codes : (n : ℕ) → Each Decimal (decimal n)
unfolding decimal
decimal-codes n = each_map (λ d. d < 10) Decimal digit_code decimal-code (digits 10 (size 20 n) n) (digits-below 10 (omega arith) (size 20 n) n)

pub decimal-zero : decimal 0 ≡ 48 ∷ []
unfolding decimal digits size
decimal-zero = refl

pub decimal-first : (n : ℕ) → 0 < n → n < 10 ^ 20 → 48 < get_or (decimal n) 0 0
unfolding decimal
decimal-first n p h = first_code (digits 10 (size 20 n) n) (first-digit 20 n p h)

pub length-decimal : (n : ℕ) → length (decimal n) ≡ size 20 n
unfolding decimal
length-decimal n = length-map (digits 10 (size 20 n) n) digit_code ∙ length_digits 10 (size 20 n) n

pub decimal-most : (n : ℕ) → length (decimal n) ≤ 20
decimal-most n = rw length-decimal (size-most 20 n)

pub decimal-below : (k n : ℕ) → 0 < k → n < 10 ^ k → length (decimal n) ≤ k
decimal-below k n p h = rw length-decimal (size_below 20 k n p h)

-- The hex digits say the number modulo a power of 16.
pub value-hex : (width n : ℕ) → value 16 (hex_digits width n) ≡ n % 16 ^ min width 16
unfolding hex_digits
value-hex width n = value-digits 16 (omega arith) (omega arith) (min width 16) n

pub hex-codes : (width n : ℕ) → Each Hex (hex_digits width n)
unfolding hex_digits
hex-codes width n =
    each_map (λ d. d < 16) Hex digit_code hex-code (digits 16 (min width 16) n) (digits-below 16 (omega arith) (min width 16) n)

pub length-hex : (width n : ℕ) → length (hex_digits width n) ≡ min width 16
unfolding hex_digits
length-hex width n = length-map (digits 16 (min width 16) n) digit_code ∙ length_digits 16 (min width 16) n
