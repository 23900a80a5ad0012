-- The records of a log: the first one, then those behind it.
use Prim.Native.Nat.{ℕ, zero, suc, ◌≤◌, ◌<◌}
use mathlib.Core.Path.{◌≡◌, refl, sym, ap, ◌∙◌}
use mathlib.Core.Bool.{Bool, true, false, ◌||◌, or-true, true≢false}
use mathlib.Core.Logic.{◌⊎◌, inl, inr}
use mathlib.Core.List.{List, [], ◌∷◌, map}
use native.Mathlib.Omega.{arith}
use borrow.Author.Tests.{le-ltb, lt-ltb, ltb-false}
use lib.Dec.{ltb}
use lib.ListN.{length, drop, get_or, length-drop}
use Rattle.logs.specs.Log.{record_length, segment_of, record_bad, records_in, records, segments, first_bad, from_bad}

-- As many turns as bytes are enough.
turns-enough : (m n : ℕ) (rest : List ℕ) → length rest ≤ m → length rest ≤ n → records_in m rest ≡ records_in n rest
turns-enough zero zero rest h k = refl
turns-enough zero (suc n) [] h k = refl
turns-enough zero (suc n) (b ∷ rest) h k = absurd (omega arith)
turns-enough (suc m) zero [] h k = refl
turns-enough (suc m) zero (b ∷ rest) h k = absurd (omega arith)
turns-enough (suc m) (suc n) [] h k = refl
turns-enough (suc m) (suc n) (b ∷ rest) h k =
    let r = b ∷ rest in
    ap (λ rs. r ∷ rs)
    (turns-enough m n (drop (record_length r) r) (rw length-drop (omega arith)) (rw length-drop (omega arith)))

records-next : (rest : List ℕ) → 0 < length rest → records rest ≡ rest ∷ records (drop (record_length rest) rest)
unfolding records
records-next [] h = absurd (omega arith)
records-next (b ∷ rest) h =
    let r = b ∷ rest in
    let left = drop (record_length r) r in
    ap (λ rs. r ∷ rs) (turns-enough (length rest) (length left) left (rw length-drop (omega arith)) (omega arith))

records-last : records [] ≡ []
unfolding records
records-last = refl

pub segments-next : (rest : List ℕ) → 0 < length rest → segments rest ≡ segment_of rest ∷ segments (drop (record_length rest) rest)
segments-next rest h = ap (map segment_of) (records-next rest h)

pub segments-last : segments [] ≡ []
segments-last = ap (map segment_of) records-last

-- A record that is not bad: its tag is at most 3, and all its bytes are there.
pub not-bad : (rest : List ℕ) → get_or rest 0 0 ≤ 3 → record_length rest ≤ length rest → record_bad rest ≡ false
unfolding record_bad
not-bad rest h k = rw (le-ltb 3 (get_or rest 0 0) h, le-ltb (length rest) (record_length rest) k)

-- A bad record: its tag is above 3, or it is cut short.
pub bad-for : (rest : List ℕ) → (3 < get_or rest 0 0) ⊎ ((get_or rest 0 0 ≤ 3) × (length rest < record_length rest)) → record_bad rest ≡ true
unfolding record_bad
bad-for rest (inl h) = rw (lt-ltb 3 (get_or rest 0 0) h)
bad-for rest (inr h) = rw (lt-ltb (length rest) (record_length rest) h.1) (or-true (ltb 3 (get_or rest 0 0)))

pub record Whole (rest : List ℕ) : Type 0 where
  pub tag : get_or rest 0 0 ≤ 3
  pub long : record_length rest ≤ length rest

pub whole : (rest : List ℕ) → record_bad rest ≡ false → Whole rest
unfolding record_bad
whole rest e = go (ltb 3 (get_or rest 0 0)) refl e
  where
    go : (b : Bool) → ltb 3 (get_or rest 0 0) ≡ b → b || ltb (length rest) (record_length rest) ≡ false → Whole rest
    go true p q = absurd (true≢false q)
    go false p q = record { tag = ltb-false 3 (get_or rest 0 0) p; long = ltb-false (length rest) (record_length rest) q }

-- Where the first bad record is: here, or behind a good one.
pub bad-here : (rest : List ℕ) → 0 < length rest → record_bad rest ≡ true → from_bad rest ≡ rest
bad-here rest h e = rw (records-next rest h, e)

pub bad-later : (rest : List ℕ) → 0 < length rest → record_bad rest ≡ false → from_bad rest ≡ from_bad (drop (record_length rest) rest)
bad-later rest h e = rw (records-next rest h, e)

pub bad-never : from_bad [] ≡ []
bad-never = ap first_bad records-last

-- A log without a bad record begins with a good one, and has no bad record behind it.
pub good-first : (rest : List ℕ) → 0 < length rest → from_bad rest ≡ [] → record_bad rest ≡ false
good-first rest h e = go (record_bad rest) refl
  where
    go : (b : Bool) → record_bad rest ≡ b → record_bad rest ≡ false
    go false k = k
    go true k = let z : length rest ≡ 0 = ap length (sym (bad-here rest h k) ∙ e) in absurd (omega arith)

pub good-rest : (rest : List ℕ) → 0 < length rest → from_bad rest ≡ [] → from_bad (drop (record_length rest) rest) ≡ []
good-rest rest h e = sym (bad-later rest h (good-first rest h e)) ∙ e

-- What holds of no byte, and of a record wherever it holds of what stands behind the record, holds of every log.
pub by-records :
    (P : List ℕ → Type 0) → P [] → ((rest : List ℕ) → 0 < length rest → P (drop (record_length rest) rest) → P rest) →
    (log : List ℕ) → P log
by-records P none one log = go (length log) log (omega arith)
  where
    go : (n : ℕ) (rest : List ℕ) → length rest ≤ n → P rest
    go zero [] h = none
    go zero (b ∷ rest) h = absurd (omega arith)
    go (suc n) [] h = none
    go (suc n) (b ∷ rest) h =
        let r = b ∷ rest in one r (omega arith) (go n (drop (record_length r) r) (rw length-drop (omega arith)))
