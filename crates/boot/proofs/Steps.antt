-- What it means that a record fits a row of the table.
use Prim.Native.Nat.{ℕ, zero, suc, ◌≤◌, ◌<◌}
use mathlib.Core.Path.{◌≡◌, refl}
use mathlib.Core.Bool.{Bool, true, false, ◌&&◌}
use mathlib.Core.List.{List, [], ◌∷◌}
use native.Mathlib.Omega.{arith}
use borrow.Author.Tests.{leb-true}
use lib.Dec.{eqb, leb}
use lib.ListN.{get_or}
use Rattle.lists.specs.declared.TraceRecord.{TraceRecord}
use Rattle.lists.proofs.Alike.{counts-differ}
use Rattle.std.proofs.lemmas.Bool.{and_parts}
use Rattle.sequence.specs.Sequence.{boot_sequence, past_step}
use Rattle.boot.specs.Boot.{fits}
use Rattle.sequence.specs.declared.BootStep.{BootStep}

-- Every row counts at most 14: one test, computed.
abbrev few : List BootStep → Bool
few [] = true
few (s ∷ steps) = leb s.params.count 14 && few steps

few-at : (steps : List BootStep) (k : ℕ) → few steps ≡ true → (get_or steps k past_step).params.count ≤ 14
few-at [] k e = omega arith
few-at (s ∷ steps) zero e = leb-true s.params.count 14 (and_parts (leb s.params.count 14) (few steps) e).0
few-at (s ∷ steps) (suc k) e = few-at steps k (and_parts (leb s.params.count 14) (few steps) e).1

-- "A record counting over 14 parameters differs from every step."
pub over-14-differs : (k : ℕ) (r : TraceRecord) → 14 < r.params.count → fits (get_or boot_sequence k past_step) r ≡ false
unfolding fits
over-14-differs k r h =
    let s = get_or boot_sequence k past_step in
    let l : s.params.count ≤ 14 = few-at boot_sequence k refl in
    rw (← counts-differ s.params r.params (λ e. omega arith)) (and-false (eqb s.cmd r.cmd))
  where
    and-false : (b : Bool) → b && false ≡ false
    and-false true = refl
    and-false false = refl
