-- A match: each of the first 23 records fits its step, and no other list of records is one.
use Prim.Native.Nat.{ℕ, zero, suc, ◌+◌, ◌<◌}
use mathlib.Core.Path.{◌≡◌, refl}
use mathlib.Core.Bool.{Bool, true, false, cond}
use mathlib.Core.List.{List, [], ◌∷◌, map}
use native.Mathlib.Omega.{arith}
use lib.ListN.{length}
use Rattle.lists.specs.Params.{differ}
use Rattle.lists.specs.declared.TraceRecord.{TraceRecord}
use Rattle.sequence.specs.Sequence.{boot_sequence}
use Rattle.lists.specs.Entries.{empty_record}
use Rattle.boot.specs.Boot.{fits, answered, compared_from, compared, step_of, FitsAt}
use Rattle.sequence.specs.declared.BootStep.{BootStep}
use Rattle.boot.specs.declared.BootCheck.{BootCheck}
use Rattle.boot.specs.declared.BootCheck.TheVariants.{Match, Differs, Missing}

-- Only a match has the number 0.
pub only-match : (check : BootCheck) → step_of check ≡ 0 → check ≡ Match
only-match Match e = refl
only-match (Differs k) e = absurd (omega arith)
only-match (Missing k) e = absurd (omega arith)

all_fit :
    (k : ℕ) (steps : List BootStep) (records : List TraceRecord) → step_of (compared_from k steps records).check ≡ 0 → (i : ℕ) →
    i < length steps → FitsAt steps records i
unfolding compared_from
all_fit k [] records e i h = absurd (omega arith)
all_fit k (s ∷ steps) [] e i h = absurd (omega arith)
all_fit k (s ∷ steps) (r ∷ records) e i h = by-fit (λ e' j l. all_fit (k + 1) steps records e' j l) (fits s r) refl e i h
  where
    by-fit :
        (step_of (compared_from (k + 1) steps records).check ≡ 0 → (j : ℕ) → j < length steps → FitsAt steps records j) → (b : Bool) → fits s r ≡ b →
        step_of (cond b (compared_from (k + 1) steps records) (answered (Differs k) r)).check ≡ 0 → (i : ℕ) → i < length (s ∷ steps) →
        FitsAt (s ∷ steps) (r ∷ records) i
    by-fit next false f e i h = absurd (omega arith)
    by-fit next true f e zero h = (omega arith, f)
    by-fit next true f e (suc i) h = let n = next e i (omega arith) in (omega arith, n.1)

fit_all :
    (k : ℕ) (steps : List BootStep) (records : List TraceRecord) → ((i : ℕ) → i < length steps → FitsAt steps records i) →
    compared_from k steps records ≡ answered Match empty_record
unfolding compared_from
fit_all k [] records h = refl
fit_all k (s ∷ steps) [] h = let n = (h 0 (omega arith)).0 in absurd (omega arith)
fit_all k (s ∷ steps) (r ∷ records) h =
    rw (h 0 (omega arith)).1 (fit_all (k + 1) steps records (λ i l. let n = h (suc i) (omega arith) in (omega (arith, n.0), n.1)))

-- Where the answer's number is 0, each of the 23 steps has its record.
pub match-fits : (records : List TraceRecord) → step_of (compared records).check ≡ 0 → (i : ℕ) → i < 23 → FitsAt boot_sequence records i
match-fits records e i h = all_fit 1 boot_sequence records e i h

pub fits-match : (records : List TraceRecord) → ((i : ℕ) → i < 23 → FitsAt boot_sequence records i) → compared records ≡ answered Match empty_record
fits-match records h = fit_all 1 boot_sequence records h

-- The rows themselves, as a trace, are a match.
pub rows-match :
    compared (map (λ (s : BootStep). record { at = 0; pixel_bytes = 0; params = s.params; cmd = s.cmd }) boot_sequence) ≡ answered Match empty_record
unfolding compared_from fits differ
rows-match = refl
