-- A loop that fills a list from another, entry by entry.
use Prim.Native.Nat.{ℕ, zero, suc, ◌≤◌, ◌<◌}
use mathlib.Core.Path.{◌≡◌, refl}
use mathlib.Core.List.{List, [], ◌∷◌, map}
use native.Mathlib.Nat.{not-suc-le-zero, le_of_suc-le-suc}
use borrow.Author.Tests.{eq-eqb, ne_eqb}
use lib.ListN.{length, get_or}
use Rattle.lists.specs.Copying.{overwritten}

pub at-index : (f : ℕ → ℕ) (l : List ℕ) (k : ℕ) → k < length l → get_or (map f l) k 0 ≡ f (get_or l k 0)
at-index f [] k h = absurd (not-suc-le-zero h)
at-index f (x ∷ l) zero h = refl
at-index f (x ∷ l) (suc k) h = at-index f l k (le_of_suc-le-suc h)

-- The first i entries of `to` are those of `from`, each by f.
pub record Mapped (f : ℕ → ℕ) (from to : List ℕ) (i : ℕ) : Type 0 where
  pub within : i ≤ length from
  pub long : length to ≡ length from
  pub each : (k : ℕ) → k < i → get_or to k 0 ≡ f (get_or from k 0)

-- One list over another, as long or not.
module _ (from to : List ℕ) where
  pub over-alike : length to ≡ length from → overwritten from to ≡ from
  over-alike h = rw (eq-eqb (length to) (length from) h)

  pub over-other : (length to ≡ length from → ⊥) → overwritten from to ≡ to
  over-other h = rw (ne_eqb (length to) (length from) h)
