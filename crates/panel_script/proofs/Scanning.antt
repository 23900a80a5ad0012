-- How far a scan comes, and the words of a text.
use Rattle.std.proofs.Common.{◌≡◌, ℕ, suc, ◌+◌, ◌-◌, ◌≤◌, ◌<◌, Bool, true, false, cond, ltb, List, [], ◌∷◌, length, drop, refl, sym, ap, ◌∙◌, arith}
use Rattle.std.specs.Prelude.{nat_eq, Option, Some, None}
use Rattle.std.specs.List.{position, position_or_len}
use Rattle.std.specs.Option.{unwrap_or}
use Rattle.std.proofs.lemmas.List.Recursion.{is_position_or_len}
use Rattle.panel_script.specs.Words.{up_to, until, unspaced, word_at}

by-test : (t : Bool) (n m : ℕ) → n ≤ m → cond t 0 (suc n) ≤ suc m
by-test true n m h = omega arith
by-test false n m h = omega arith

-- A scan stays within its text.
pub within : (test : ℕ → Bool) (l : List ℕ) → up_to test l ≤ length l
within test [] = omega arith
within test (x ∷ l) = by-test (test x) _ _ (within test l)

pub until-within : (b : ℕ) (l : List ℕ) {end : ℕ} → end ≡ until b l → end ≤ length l
until-within b l e = omega (arith, e, within (λ x. nat_eq x b) l)

-- A scan is std's.
scanned : (test : ℕ → Bool) (l : List ℕ) → up_to test l ≡ position_or_len test l
scanned test =
    is_position_or_len (up_to test) test refl
    (λ x xs. let e : suc (up_to test xs) ≡ 1 + up_to test xs = omega arith in ap (λ n. cond (test x) 0 n) e)

by-limit : (t : Bool) (p n : ℕ) → ltb p n ≡ t → p ≤ n → unwrap_or (cond t (Some p) None) n ≡ p
by-limit true p n e h = refl
by-limit false p n e h = grind (arith, e)

pub found : (test : ℕ → Bool) (l : List ℕ) {o : Option ℕ} {r : ℕ} → o ≡ position test l → r ≡ unwrap_or o (length l) → r ≡ up_to test l
found test l e f =
    let s = scanned test l in
    let h : position_or_len test l ≤ length l = omega (arith, s, within test l) in
    f ∙ (ap (λ o. unwrap_or o (length l)) e ∙ (by-limit _ _ _ refl h ∙ sym s))

-- A word more is passed.
pub word-turn : (k i : ℕ) (rest : List ℕ) {spaced after w : List ℕ} {n : ℕ} → i < k → spaced ≡ unspaced rest → n ≡ until 32 spaced → after ≡ drop n spaced → word_at (k - i) rest ≡ w → word_at (k - (i + 1)) after ≡ w
word-turn k i rest h es en ea inv =
    let m : k - i ≡ suc (k - (i + 1)) = omega arith in
    simp (ea, en, es) (sym (ap (λ m. word_at m rest) m) ∙ inv)
