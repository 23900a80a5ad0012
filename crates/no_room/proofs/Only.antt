-- The steps by which a promise leaves no room.
use Prim.Native.Nat.{ℕ}
use mathlib.Core.Path.{◌≡◌, refl, sym, ap, ◌∙◌}
use Rattle.std.specs.Prelude.{Result, Ok, Err, ⊤}
use Rattle.status.specs.Numbers.{Status, number_of, number, value_of}
use Rattle.status.specs.declared.Refusal.{Refusal}
use Rattle.status.specs.declared.Refusal.TheVariants.{BadState, BadMemory, BadFrame, TooLong, CountHigh, LogLong, BadLog}
use Rattle.logs.specs.Refused.{refusal_of, offset_of}
use Rattle.logs.specs.declared.Refused.{Refused}
use Rattle.no_room.specs.Promised.{status_of}

pub same : {A : Type 0} {x y v : A} → x ≡ v → y ≡ v → x ≡ y
same p q = p ∙ sym q

read_back : (s : Status) → status_of (number s) ≡ s
read_back (Ok x) = refl
read_back (Err BadState) = refl
read_back (Err BadMemory) = refl
read_back (Err BadFrame) = refl
read_back (Err TooLong) = refl
read_back (Err CountHigh) = refl
read_back (Err LogLong) = refl
read_back (Err BadLog) = refl

pub number-injective : (s r : Status) → number s ≡ number r → s ≡ r
number-injective s r e = sym (read_back s) ∙ ap status_of e ∙ read_back r

-- A status is told by its number.
pub told : (s r : Status) {n : ℕ} → number s ≡ n → number r ≡ n → s ≡ r
told s r p q = number-injective s r (same p q)

-- And so is a refusal, whose number is not 0.
refusal-injective : (r s : Refusal) → number_of r ≡ number_of s → r ≡ s
refusal-injective r s e = let p : ◌≡◌ {A = Status} (Err r) (Err s) = number-injective (Err r) (Err s) e in cc

not-zero : {A : Type 0} (r : Refusal) → 0 ≡ number_of r → A
not-zero r e = let p : ◌≡◌ {A = Status} (Ok tt) (Err r) = number-injective (Ok tt) (Err r) e in absurd (cc)

-- A number or a refusal is told by the refusal's number, and by the number that is due, which is 0 where it is refused.
pub told-value :
    (x y : Result ℕ Refusal) {n v : ℕ} → number x ≡ n → number y ≡ n → value_of x ≡ v → value_of y ≡ v → x ≡ y
told-value (Ok a) (Ok b) p q g h = ap Ok (same g h)
told-value (Ok a) (Err s) p q g h = not-zero s (same p q)
told-value (Err r) (Ok b) p q g h = not-zero r (same q p)
told-value (Err r) (Err s) p q g h = ap Err (refusal-injective r s (same p q))

-- The answer of a check is told by the refusal's number and the offset.
pub told-check : (x y : Result ⊤ Refused) {n m : ℕ} → refusal_of x ≡ n → refusal_of y ≡ n → offset_of x ≡ m → offset_of y ≡ m → x ≡ y
told-check (Ok a) (Ok b) p q f g = refl
told-check (Ok a) (Err s) p q f g = not-zero s.refusal (same p q)
told-check (Err r) (Ok b) p q f g = not-zero r.refusal (same q p)
told-check (Err r) (Err s) p q f g =
    ap Err (λ i. record { refusal = refusal-injective r.refusal s.refusal (same p q) i; offset = same f g i })
