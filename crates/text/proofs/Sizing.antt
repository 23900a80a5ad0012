-- How many decimal digits a number has, and the loop that counts them.
use Prim.Native.Nat.{ℕ, zero, suc, ◌+◌, ◌/◌, ◌^◌, ◌≤◌, ◌<◌}
use mathlib.Core.Path.{◌≡◌, refl, subst}
use native.Mathlib.Nat.{pow-suc, div-lt_iff_lt-mul}
use native.Mathlib.Omega.{arith}
use borrow.Author.Tests.{lt-ltb, le-ltb}
use Rattle.text.specs.Numbers.{size}

pub size_small : (most n : ℕ) → n < 10 → size (suc most) n ≡ 1
unfolding size
size_small most n h = rw (lt-ltb n 10 h)

pub size-large : (most n : ℕ) → 10 ≤ n → size (suc most) n ≡ suc (size most (n / 10))
unfolding size
size-large most n h = rw (le-ltb n 10 h)

pub tenth-below : (k n : ℕ) → n < 10 ^ suc k → n / 10 < 10 ^ k
tenth-below k n h = (div-lt_iff_lt-mul {k = 10} {x = n} {y = 10 ^ k} (omega arith)).1 (subst (λ m. n < m) (pow-suc 10 k) h)

-- Of the 20 digits at most, `count` are counted and as many are still to be looked for as `fuel` says.
pub record Sizing (n rest count : ℕ) : Type 0 where
  pub fuel : ℕ
  pub sum : count + fuel ≡ 20
  pub small : rest < 10 ^ suc fuel
  pub left : size 20 n + 1 ≡ count + size (suc fuel) rest

pub sizing-first : {n : ℕ} → n < 2 ^ 64 → Sizing n n 1
sizing-first h = record { fuel = 19; sum = refl; small = omega arith; left = omega arith }

pub sizing-next : {n rest count : ℕ} → Sizing n rest count → 10 ≤ rest → Sizing n (rest / 10) (count + 1)
sizing-next {n} {rest} {count} s h = go s.fuel s.sum s.small s.left
  where
    go : (fuel : ℕ) → count + fuel ≡ 20 → rest < 10 ^ suc fuel → size 20 n + 1 ≡ count + size (suc fuel) rest → Sizing n (rest / 10) (count + 1)
    go zero e l m = absurd (omega arith)
    go (suc k) e l m =
        record { fuel = k; sum = omega arith; small = tenth-below (suc k) rest l; left = omega (arith, size-large (suc k) rest h) }

pub sizing-last : {n rest count : ℕ} → Sizing n rest count → rest < 10 → (count ≡ size 20 n) × (count ≤ 20)
sizing-last {n} {rest} s h = (omega (arith, size_small s.fuel rest h, s.left), omega (arith, s.sum))
