-- Texts of entries, one more at a time.
use Prim.Native.Nat.{ℕ}
use mathlib.Core.Path.{◌≡◌, refl, sym}
use mathlib.Core.List.{List, [], ◌∷◌, ◌++◌, append_assoc, append-nil}
use Rattle.std.proofs.lemmas.Grind.{take_at_read}
use Rattle.text.proofs.Text.{joined}
use Rattle.lines.specs.Lines.{texts}

module _ {A : Type 0} (f : A → List ℕ) where
  pub texts-append : (a b : List A) → texts f (a ++ b) ≡ texts f a ++ texts f b
  unfolding texts
  texts-append [] b = refl
  texts-append (x ∷ a) b = rw (texts-append a b) (sym (append_assoc (f x) (texts f a) (texts f b)))

  pub texts_none : texts f [] ≡ []
  unfolding texts
  texts_none = refl

  pub texts_one : (x : A) → texts f (x ∷ []) ≡ f x
  unfolding texts
  texts_one x = append-nil (f x)

-- What `grind` joins the texts of entries with.
pub ruleset entries = (joined, texts-append, texts_none, texts_one, take_at_read)
