-- Whether some element of a list passes a test: from "none does" to each element and back, and which changes keep that none does.
use Prim.Native.Nat.{ℕ, zero, suc}
use mathlib.Core.Path.{◌≡◌, refl}
use mathlib.Core.Bool.{Bool, true, false, or-true}
use mathlib.Core.List.{List, [], ◌∷◌, ◌++◌}
use lib.ListN.{get_or, set}
use Rattle.std.proofs.lemmas.Bool.{or_parts}
use Rattle.lists.specs.Entries.{some}

-- No element does.
abbrev pub None : {A : Type 0} → (A → Bool) → List A → Type 0
None test [] = Unit {0}
None test (x ∷ xs) = (test x ≡ false) × None test xs

module _ {A : Type 0} (test : A → Bool) where
  pub each-fails : (l : List A) → some test l ≡ false → (i : ℕ) (d : A) → test d ≡ false → test (get_or l i d) ≡ false
  each-fails [] e i d n = n
  each-fails (x ∷ l) e zero d n = (or_parts (test x) (some test l) e).0
  each-fails (x ∷ l) e (suc i) d n = each-fails l (or_parts (test x) (some test l) e).1 i d n

  pub none_passes : (l : List A) → None test l → some test l ≡ false
  none_passes [] h = refl
  none_passes (x ∷ l) h = rw h.0 (none_passes l h.1)

  pub one_passes : (l : List A) (i : ℕ) (d : A) → test d ≡ false → test (get_or l i d) ≡ true → some test l ≡ true
  one_passes [] i d n e = rw n at e
  one_passes (x ∷ l) zero d n e = rw e
  one_passes (x ∷ l) (suc i) d n e = rw (one_passes l i d n e) (or-true (test x))

  -- Two lists after one another, and an entry put anew.
  pub none-append : (l m : List A) → some test l ≡ false → some test m ≡ false → some test (l ++ m) ≡ false
  none-append [] m e f = f
  none-append (x ∷ l) m e f = let n = or_parts (test x) (some test l) e in rw n.0 (none-append l m n.1 f)

  pub none-set : (l : List A) (i : ℕ) (x : A) → some test l ≡ false → test x ≡ false → some test (set l i x) ≡ false
  none-set [] i x e f = refl
  none-set (y ∷ l) zero x e f = let n = or_parts (test y) (some test l) e in rw f n.1
  none-set (y ∷ l) (suc i) x e f = let n = or_parts (test y) (some test l) e in rw n.0 (none-set l i x n.1 f)
