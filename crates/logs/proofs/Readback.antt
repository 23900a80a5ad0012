-- Reading a log of bytes and storing what it says again.
use Prim.Native.Nat.{ℕ, zero, suc, ◌+◌, ◌≤◌, ◌<◌}
use mathlib.Core.Path.{◌≡◌, refl, sym, ap, ap₂, ◌∙◌}
use mathlib.Core.List.{List, [], ◌∷◌, ◌++◌}
use native.Mathlib.Nat.{lt_of_le_of_lt}
use native.Mathlib.Omega.{arith}
use lib.ListN.{length, take, drop, get_or, length-take, length-drop, take-append-drop}
use lib.Seq.{drop-drop, take-add}
use Rattle.logs.specs.Log.{big_endian, tag_of, encoded, log_of, time_of, body_length, record_length, dc_of, release_of, segment_of, segments, from_bad}
use Rattle.logs.specs.Stored.{Bytes, Storable, Each}
use Rattle.logs.proofs.Bytes.{bytes_take, bytes_drop}
use Rattle.logs.proofs.Numbers.{fewer_bytes, value-small, big_endian-value}
use Rattle.logs.proofs.Records.{Whole, whole, good-first, good-rest, segments-next, segments-last, by-records}

-- A good record is what its segment is stored as.
tag-again : (tag : ℕ) → tag ≤ 3 → tag_of (dc_of tag) (release_of tag) ≡ tag
tag-again zero h = refl
tag-again (suc zero) h = refl
tag-again (suc (suc zero)) h = refl
tag-again (suc (suc (suc zero))) h = refl
tag-again (suc (suc (suc (suc n)))) h = absurd (omega arith)

take-first : (l : List ℕ) → 0 < length l → take 1 l ≡ get_or l 0 0 ∷ []
take-first [] h = absurd (omega arith)
take-first (b ∷ l) h = refl

in_parts : (k : ℕ) (l : List ℕ) → take (11 + k) l ≡ take 1 l ++ (take 8 (drop 1 l) ++ (take 2 (drop 9 l) ++ take k (drop 11 l)))
in_parts k l =
    let sum : 11 + k ≡ 1 + (8 + (2 + k)) = omega arith in
    ap (λ n. take n l) sum
    ∙ take-add 1 (8 + (2 + k)) l
    ∙ ap (λ m. take 1 l ++ m)
    (take-add 8 (2 + k) (drop 1 l)
    ∙ ap (λ m. take 8 (drop 1 l) ++ m)
    (ap (take (2 + k)) (drop-drop 8 1 l) ∙ take-add 2 k (drop 9 l) ∙ ap (λ m. take 2 (drop 9 l) ++ take k m) (drop-drop 2 9 l)))

pub stored-again : (rest : List ℕ) → Bytes rest → Whole rest → encoded (segment_of rest) ≡ take (record_length rest) rest
unfolding encoded segment_of
stored-again rest bytes w =
    let k = body_length rest in
    let long : 11 + k ≤ length rest = w.long in
    let tag : tag_of (dc_of (get_or rest 0 0)) (release_of (get_or rest 0 0)) ∷ [] ≡ take 1 rest =
    ap (λ t. t ∷ []) (tag-again (get_or rest 0 0) w.tag) ∙ sym (take-first rest (omega arith))
    in
    let time : big_endian 8 (time_of rest) ≡ take 8 (drop 1 rest) =
    big_endian-value 8 (drop 1 rest) (bytes_drop 1 rest bytes) (omega (arith, length-drop 1 rest))
    in
    let body : length (take k (drop 11 rest)) ≡ k = length-take k (drop 11 rest) ∙ omega (arith, length-drop 11 rest) in
    let count : big_endian 2 (length (take k (drop 11 rest))) ≡ take 2 (drop 9 rest) =
    ap (big_endian 2) body ∙ big_endian-value 2 (drop 9 rest) (bytes_drop 9 rest bytes) (omega (arith, length-drop 9 rest))
    in
    ap₂ (λ m n. m ++ n) tag (ap₂ (λ m n. m ++ (n ++ take k (drop 11 rest))) time count) ∙ sym (in_parts k rest)

-- A log of bytes without a bad record is what its segments are stored as.
pub log-stored : (log : List ℕ) → Bytes log → from_bad log ≡ [] → log_of (segments log) ≡ log
log-stored =
    by-records (λ log. Bytes log → from_bad log ≡ [] → log_of (segments log) ≡ log) (λ bytes good. ap log_of segments-last)
    (λ rest some left bytes good.
    ap log_of (segments-next rest some)
    ∙ ap₂ (λ m n. m ++ n) (stored-again rest bytes (whole rest (good-first rest some good)))
    (left (bytes_drop (record_length rest) rest bytes) (good-rest rest some good))
    ∙ take-append-drop (record_length rest) rest)

-- Every segment of a log of bytes fits the stored form.
pub segment-fits : (rest : List ℕ) → Bytes rest → Storable (segment_of rest)
unfolding segment_of
segment-fits rest h =
    let time = take 8 (drop 1 rest) in
    let count = take 2 (drop 9 rest) in
    record {
      time =
          fewer_bytes (length time) 8 (omega (arith, length-take 8 (drop 1 rest)))
          (value-small time (bytes_take 8 (drop 1 rest) (bytes_drop 1 rest h)));
      short =
          lt_of_le_of_lt (omega (arith, length-take (body_length rest) (drop 11 rest)))
          (fewer_bytes (length count) 2 (omega (arith, length-take 2 (drop 9 rest)))
          (value-small count (bytes_take 2 (drop 9 rest) (bytes_drop 9 rest h))));
      bytes = bytes_take (body_length rest) (drop 11 rest) (bytes_drop 11 rest h);
    }

pub segments-fit : (log : List ℕ) → Bytes log → Each Storable (segments log)
segments-fit =
    by-records (λ log. Bytes log → Each Storable (segments log)) (λ h. rw segments-last tt)
    (λ rest some left h. rw (segments-next rest some) (segment-fits rest h, left (bytes_drop (record_length rest) rest h)))
