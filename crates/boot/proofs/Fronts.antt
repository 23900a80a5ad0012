-- The first records of a list, and what follows them.
use Prim.Native.Nat.{ℕ, ◌+◌, ◌≤◌, min}
use mathlib.Core.Path.{◌≡◌, refl, ap, ◌∙◌}
use mathlib.Core.Bool.{cond}
use mathlib.Core.List.{List, [], ◌∷◌}
use native.Mathlib.Omega.{arith}
use lib.ListN.{length, take}
use Rattle.lists.specs.declared.TraceRecord.{TraceRecord}
use Rattle.lists.specs.Fixed.{places}
use Rattle.std.proofs.lemmas.List.{take_all, take_min}
use Rattle.sequence.specs.Sequence.{boot_sequence}
use Rattle.boot.specs.Boot.{fits, answered, compared_from, compared}
use Rattle.sequence.specs.declared.BootStep.{BootStep}
use Rattle.boot.specs.declared.BootCheck.TheVariants.{Differs}

-- Records past the last step do not matter.
past-steps : (k : ℕ) (steps : List BootStep) (records : List TraceRecord) → compared_from k steps (take (length steps) records) ≡ compared_from k steps records
unfolding compared_from
past-steps k [] records = refl
past-steps k (s ∷ steps) [] = refl
past-steps k (s ∷ steps) (r ∷ records) = ap (λ c. cond (fits s r) c (answered (Differs k) r)) (past-steps (k + 1) steps records)

pub past-23 : (records : List TraceRecord) → compared (take 23 records) ≡ compared records
past-23 records = past-steps 1 boot_sequence records

-- The loop ends with the first 23 of the records compared, or with all where there are fewer.
pub looked :
    (records : List TraceRecord) (n i : ℕ) → n ≡ min (length records) 23 → length (take n records) ≤ i →
    compared (take i (take n records)) ≡ compared records
looked records n i e h =
    let m : n ≡ min 23 (length records) = omega arith in
    ap compared (take_all i (take n records) h) ∙ ap (λ i. compared (take i records)) m ∙ ap compared (take_min 23 records) ∙ past-23 records

-- A count above the places is all of them.
pub used_front :
    (records : List TraceRecord) (used n : ℕ) → length records ≡ places → n ≡ min used places →
    compared (take n records) ≡ compared (take used records)
used_front records used n long e =
    let m : n ≡ min used (length records) = omega arith in
    ap (λ i. compared (take i records)) m ∙ ap compared (take_min used records)
