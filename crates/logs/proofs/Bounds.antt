-- How much a log holds: its length, and the lengths of its segments.
use Prim.Native.Nat.{ℕ, ◌+◌, ◌-◌, ◌≤◌}
use mathlib.Core.Path.{◌≡◌, refl}
use mathlib.Core.Bool.{Bool, true, false, cond}
use mathlib.Core.List.{List, [], ◌∷◌}
use native.Mathlib.Omega.{arith}
use borrow.Author.Tests.{ltb-false, eqb-true}
use lib.Dec.{ltb, eqb}
use lib.ListN.{length, drop, length-take, length-drop}
use Rattle.logs.specs.Log.{Segment, body_length, record_length, segment_of, segments, from_bad, log_refusal}
use Rattle.logs.specs.Stored.{Each}
use Rattle.logs.proofs.Records.{segments-next, segments-last, by-records}

-- An accepted log: not too long, and without a bad record.
pub record Accepted (log : List ℕ) : Type 0 where
  pub few : length log ≤ 65536
  pub good : from_bad log ≡ []

none_left : (l : List ℕ) → length l ≡ 0 → l ≡ []
none_left [] e = refl
none_left (b ∷ l) e = absurd (omega arith)

pub accepted : (log : List ℕ) → log_refusal log ≡ 0 → Accepted log
unfolding log_refusal
accepted log e = go (ltb 65536 (length log)) (eqb (length (from_bad log)) 0) refl refl e
  where
    go :
        (long none : Bool) → ltb 65536 (length log) ≡ long → eqb (length (from_bad log)) 0 ≡ none →
        cond {A = ℕ} long 6 (cond none 0 7) ≡ 0 → Accepted log
    go true none p q z = absurd (omega arith)
    go false true p q z =
        record { few = ltb-false 65536 (length log) p; good = none_left (from_bad log) (eqb-true (length (from_bad log)) 0 q) }
    go false false p q z = absurd (omega arith)

-- A segment has at most the bytes behind a header.
body-short : (rest : List ℕ) → length (segment_of rest).bytes ≤ length rest - 11
unfolding segment_of
body-short rest = omega (arith, length-take (body_length rest) (drop 11 rest), length-drop 11 rest)

bodies-short : (most : ℕ) (log : List ℕ) → length log ≤ most → Each (λ s. length s.bytes ≤ most - 11) (segments log)
bodies-short most =
    by-records (λ log. length log ≤ most → Each (λ s. length s.bytes ≤ most - 11) (segments log)) (λ h. rw segments-last tt)
    (λ rest some left h. rw (segments-next rest some) (omega (arith, body-short rest), left (omega (arith, length-drop (record_length rest) rest))))

pub segments-short : (log : List ℕ) → log_refusal log ≡ 0 → Each (λ s. length s.bytes ≤ 65525) (segments log)
segments-short log e = bodies-short 65536 log (accepted log e).few

-- The bytes of all segments together.
abbrev pub total : List Segment → ℕ
total [] = 0
total (s ∷ ss) = length s.bytes + total ss

body-told : (rest : List ℕ) → length (segment_of rest).bytes ≤ body_length rest
unfolding segment_of
body-told rest = omega (arith, length-take (body_length rest) (drop 11 rest))

pub total-within : (log : List ℕ) → total (segments log) ≤ length log
total-within =
    by-records (λ log. total (segments log) ≤ length log) (rw segments-last (omega arith))
    (λ rest some left. rw (segments-next rest some) (omega (arith, body-told rest, body-short rest, length-drop (record_length rest) rest)))
