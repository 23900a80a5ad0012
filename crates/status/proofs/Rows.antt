-- A row of tests: from "none refuses" to each test and back.
use Prim.Native.Nat.{ℕ}
use mathlib.Core.Path.{◌≡◌, refl, sym, ap, ◌∙◌}
use mathlib.Core.Bool.{Bool, true, false, true≢false}
use mathlib.Core.List.{List, [], ◌∷◌}
use lib.Dec.{eqb}
use lib.ListN.{get_or}
use Rattle.std.proofs.lemmas.Bool.{or_parts}
use Rattle.lists.specs.Entries.{some}
use Rattle.lists.proofs.Somes.{None, each-fails}
use Rattle.status.specs.Tests.{Test, first}

-- Whether a test refuses.
abbrev pub refusing : Test → Bool
refusing x = x.refuses

-- Whether its number is the one of no refusal.
abbrev pub unnumbered : Test → Bool
unnumbered x = eqb x.number 0

-- A test that passes.
abbrev pub passing : Test
passing = record { refuses = false; number = 0 }

none-refuses : (l : List Test) → some unnumbered l ≡ false → first l ≡ 0 → some refusing l ≡ false
none-refuses [] n e = refl
none-refuses (x ∷ l) n e =
    let t = or_parts (unnumbered x) (some unnumbered l) n in
    by-test x.refuses refl t.0 (none-refuses l t.1)
  where
    by-test : (b : Bool) → x.refuses ≡ b → unnumbered x ≡ false → (first l ≡ 0 → some refusing l ≡ false) → some refusing (x ∷ l) ≡ false
    by-test true r u rest = absurd (true≢false (sym (ap (λ m. eqb m 0) (rw r at e)) ∙ u))
    by-test false r u rest = rw r (rest (rw r at e))

-- Of a row that gives 0 no test refuses.
pub each-passes : (l : List Test) → some unnumbered l ≡ false → first l ≡ 0 → (i : ℕ) → (get_or l i passing).refuses ≡ false
each-passes l n e i = each-fails refusing l (none-refuses l n e) i passing refl

-- And the other way round.
pub all_pass : (l : List Test) → None refusing l → first l ≡ 0
all_pass [] h = refl
all_pass (x ∷ l) h = rw h.0 (all_pass l h.1)
