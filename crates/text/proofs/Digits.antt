-- The digits of a number to any base: how many, each below the base, and what they say.
use Prim.Native.Nat.{ℕ, zero, suc, ◌+◌, ◌*◌, ◌/◌, ◌%◌, ◌^◌, ◌≤◌, ◌<◌}
use mathlib.Core.Path.{◌≡◌, refl, sym, ap, ap₂, ◌∙◌}
use mathlib.Core.Bool.{Bool, true, false}
use mathlib.Core.List.{List, [], ◌∷◌, ◌++◌, map, map-append, foldl-append}
use native.Mathlib.Nat.{pow-zero, pow-suc, one-le-pow, mod-lt, mod-one, lt_of_lt_of_le}
use native.Mathlib.Omega.{arith}
use borrow.Author.Tests.{lt-ltb, le-ltb, ltb-true, ltb-false}
use mathlib.Core.Logic.{inl, inr}
use lib.Arith.{mod-mul}
use lib.Dec.{ltb}
use lib.ListN.{length, length-append}
use Rattle.text.specs.Numbers.{digit_code, digits}
use Rattle.text.specs.Reading.{digit_of, value, Decimal, Hex, Each}

module _ (P Q : ℕ → Type 0) where
  each_append : (a b : List ℕ) → Each P a → Each P b → Each P (a ++ b)
  each_append [] b p q = q
  each_append (x ∷ a) b p q = (p.0, each_append a b p.1 q)

  pub each_map : (f : ℕ → ℕ) → ((x : ℕ) → P x → Q (f x)) → (l : List ℕ) → Each P l → Each Q (map f l)
  each_map f h [] p = tt
  each_map f h (x ∷ l) p = (h x p.0, each_map f h l p.1)

-- A number is below another, or not.
pub either : {A : Type 0} (n k : ℕ) → (n < k → A) → (k ≤ n → A) → A
either {A} n k f g = go (ltb n k) refl
  where
    go : (b : Bool) → ltb n k ≡ b → A
    go true e = f (ltb-true n k e)
    go false e = g (ltb-false n k e)

-- Codes of digits.
pub decimal-code : (d : ℕ) → d < 10 → Decimal (digit_code d)
decimal-code d h = rw (lt-ltb d 10 h) (omega arith)

pub hex-code : (d : ℕ) → d < 16 → Hex (digit_code d)
hex-code d h = either d 10 (λ l. inl (decimal-code d l)) (λ l. rw (le-ltb d 10 l) (inr (omega arith)))

code_read : (d : ℕ) → d < 16 → digit_of (digit_code d) ≡ d
code_read d h =
    either d 10
    (λ l. rw (lt-ltb d 10 l, lt-ltb (48 + d) 58 (omega arith)) (omega arith))
    (λ l. rw (le-ltb d 10 l, le-ltb (87 + d) 58 (omega arith)) (omega arith))

pub length_digits : (base width n : ℕ) → length (digits base width n) ≡ width
unfolding digits
length_digits base zero n = refl
length_digits base (suc width) n =
    length-append (digits base width (n / base)) (n % base ∷ []) ∙ omega (arith, length_digits base width (n / base))

module _ (base : ℕ) (some : 0 < base) where
  pub digits-below : (width n : ℕ) → Each (λ d. d < base) (digits base width n)
  unfolding digits
  digits-below zero n = tt
  digits-below (suc width) n = each_append (λ d. d < base) (λ d. d < base) (digits base width (n / base)) (n % base ∷ []) (digits-below width (n / base)) (mod-lt n some, tt)

  -- The last digits say the number modulo a power of the base.
  pub value-digits : base ≤ 16 → (width n : ℕ) → value base (map digit_code (digits base width n)) ≡ n % base ^ width
  unfolding digits
  value-digits h zero n = sym (ap (λ m. n % m) (pow-zero base) ∙ mod-one n)
  value-digits h (suc width) n =
      ap (value base) (map-append digit_code (digits base width (n / base)) (n % base ∷ []))
      ∙ foldl-append (λ v code. v * base + digit_of code) 0 (map digit_code (digits base width (n / base))) (digit_code (n % base) ∷ [])
      ∙ ap₂ (λ v d. v * base + d) (value-digits h width (n / base)) (code_read (n % base) (lt_of_lt_of_le (mod-lt n some) h))
      ∙ sym (ap (λ m. n % m) (pow-suc base width) ∙ mod-mul n (one-le-pow width base some) some)
