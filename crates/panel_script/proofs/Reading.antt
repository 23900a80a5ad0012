-- A number read digit by digit.
use Rattle.std.proofs.Common.{◌≡◌, ℕ, suc, ◌<◌, List, [], ◌∷◌, length, get_or, drop, refl, sym, ap, ◌∙◌, drop-cons}
use Rattle.std.specs.Prelude.{Option, Some, None}
use mathlib.Core.List.{foldl}
use Rattle.panel_script.specs.Numbers.{next}

-- What is no number stays none.
none-stays : (base most : ℕ) (word : List ℕ) → foldl (next base most) None word ≡ None
none-stays base most [] = refl
none-stays base most (x ∷ word) = none-stays base most word

pub stopped : (base most n i : ℕ) (word : List ℕ) {v : Option ℕ} → i < length word → None ≡ next base most (Some n) (get_or word i 0) → foldl (next base most) (Some n) (drop i word) ≡ v → None ≡ v
stopped base most n i word h e inv =
    sym (none-stays base most (drop (suc i) word))
    ∙ (ap (λ o. foldl (next base most) o (drop (suc i) word)) e ∙ (rw (drop-cons word i 0 h) at inv))
