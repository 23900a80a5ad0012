-- A list by what is told of its entries: a part of it, and a test that looks at no more.
use Prim.Native.Nat.{ℕ, zero, suc}
use mathlib.Core.Path.{◌≡◌, refl, ap, ap₂}
use mathlib.Core.Bool.{Bool, ◌||◌}
use mathlib.Core.List.{List, [], ◌∷◌, map}
use lib.ListN.{take}
use Rattle.lists.specs.Entries.{some}

module _ {A B : Type 0} (f : A → B) where
  pub map-take : (n : ℕ) (l : List A) → map f (take n l) ≡ take n (map f l)
  map-take zero l = refl
  map-take (suc n) [] = refl
  map-take (suc n) (x ∷ l) = ap (λ (r : List B). f x ∷ r) (map-take n l)

  pub some-told : (test : A → Bool) (told : B → Bool) → ((x : A) → test x ≡ told (f x)) → (l : List A) → some test l ≡ some told (map f l)
  some-told test told e [] = refl
  some-told test told e (x ∷ l) = ap₂ (λ a b. a || b) (e x) (some-told test told e l)
