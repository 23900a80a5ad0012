-- What is left unless a call was refused: the new where it was not, and whatever holds of the new and of the old; and the numbers of
-- refusals.
use Prim.Native.Nat.{ℕ}
use mathlib.Core.Path.{◌≡◌, refl, ap}
use mathlib.Core.Bool.{Bool, true, false, cond}
use lib.Dec.{eqb}
use Rattle.status.specs.Numbers.{number_of, unless_refused}
use Rattle.status.specs.declared.Refusal.{Refusal}
use Rattle.status.specs.declared.Refusal.TheVariants.{BadState, BadMemory, BadFrame, TooLong, CountHigh, LogLong, BadLog}

module _ {A : Type 0} (n : ℕ) (new old : A) where
  pub unless-none : n ≡ 0 → unless_refused n new old ≡ new
  unless-none e = ap (λ k. cond (eqb k 0) new old) e

  pub unless-either : (P : A → Type 0) → P new → P old → P (unless_refused n new old)
  unless-either P h k = go (eqb n 0)
    where
      go : (b : Bool) → P (cond b new old)
      go true = h
      go false = k

-- A refusal's number is not the one of none.
pub refused : (refusal : Refusal) → eqb (number_of refusal) 0 ≡ false
refused BadState = refl
refused BadMemory = refl
refused BadFrame = refl
refused TooLong = refl
refused CountHigh = refl
refused LogLong = refl
refused BadLog = refl
