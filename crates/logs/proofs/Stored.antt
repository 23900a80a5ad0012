-- Storing segments and reading them back.
use Prim.Native.Nat.{ℕ, ◌≤◌, ◌<◌}
use mathlib.Core.Path.{◌≡◌, refl, sym, ap, ap₂, ◌∙◌}
use mathlib.Core.Bool.{Bool, true, false}
use mathlib.Core.List.{List, [], ◌∷◌, ◌++◌, append_assoc}
use native.Mathlib.Omega.{arith}
use lib.ListN.{length, take, drop, get_or, length-append}
use lib.Seq.{take-append_seam, take_at, drop_at, drop-drop}
use Rattle.logs.specs.Log.{Segment, big_endian, value_of, tag_of, encoded, log_of, body_length, record_length, dc_of, release_of, segment_of, record_bad, segments, from_bad, log_refusal}
use Rattle.logs.specs.Stored.{Bytes, Storable, Each}
use Rattle.logs.proofs.Bytes.{bytes-none, bytes-append, bytes_one}
use Rattle.logs.proofs.Numbers.{length-big_endian, bytes-big_endian, value-big_endian}
use Rattle.logs.proofs.Checking.{all-accepted}
use Rattle.logs.proofs.Records.{not-bad, bad-later, bad-never, segments-next, segments-last}

-- The parts of a record, whatever stands behind it.
module _ (tag : ℕ) (time count body behind : List ℕ) (eight : length time ≡ 8) (two : length count ≡ 2) where
  regrouped : (time ++ (count ++ body)) ++ behind ≡ time ++ (count ++ (body ++ behind))
  regrouped = simp append_assoc

  time-part : take 8 (drop 1 (tag ∷ ((time ++ (count ++ body)) ++ behind))) ≡ time
  time-part = ap (take 8) regrouped ∙ take_at time (count ++ (body ++ behind)) 8 eight

  past-time : drop 8 ((time ++ (count ++ body)) ++ behind) ≡ count ++ (body ++ behind)
  past-time = ap (drop 8) regrouped ∙ drop_at time (count ++ (body ++ behind)) 8 eight

  count-part : take 2 (drop 9 (tag ∷ ((time ++ (count ++ body)) ++ behind))) ≡ count
  count-part = ap (take 2) past-time ∙ take_at count (body ++ behind) 2 two

  body-part : drop 11 (tag ∷ ((time ++ (count ++ body)) ++ behind)) ≡ body ++ behind
  body-part =
      sym (drop-drop 2 8 ((time ++ (count ++ body)) ++ behind)) ∙ ap (drop 2) past-time ∙ drop_at count (body ++ behind) 2 two

-- What a tag says is what it was made of, and it is at most 3.
record Tagged (dc release : Bool) : Type 0 where
  is_data : dc_of (tag_of dc release) ≡ dc
  released : release_of (tag_of dc release) ≡ release
  known : tag_of dc release ≤ 3

tagged : (dc release : Bool) → Tagged dc release
tagged true true = record { is_data = refl; released = refl; known = omega arith }
tagged true false = record { is_data = refl; released = refl; known = omega arith }
tagged false true = record { is_data = refl; released = refl; known = omega arith }
tagged false false = record { is_data = refl; released = refl; known = omega arith }

same-segment :
    {t u : ℕ} {a b c d : Bool} {l m : List ℕ} → t ≡ u → a ≡ b → c ≡ d → l ≡ m →
    ◌≡◌ {A = Segment} (record { time = t; dc = a; release = c; bytes = l }) (record { time = u; dc = b; release = d; bytes = m })
same-segment p q r s = cc

module _ (s : Segment) (behind : List ℕ) (fits : Storable s) where
  eight : length (big_endian 8 s.time) ≡ 8
  eight = length-big_endian 8 s.time

  two : length (big_endian 2 (length s.bytes)) ≡ 2
  two = length-big_endian 2 (length s.bytes)

  body_back : body_length (encoded s ++ behind) ≡ length s.bytes
  unfolding encoded
  body_back =
      ap value_of (count-part (tag_of s.dc s.release) (big_endian 8 s.time) (big_endian 2 (length s.bytes)) s.bytes behind eight two)
      ∙ value-big_endian 2 (length s.bytes) fits.short

  segment-back : segment_of (encoded s ++ behind) ≡ s
  unfolding encoded segment_of
  segment-back =
      let tag = tag_of s.dc s.release in
      let time = big_endian 8 s.time in
      let count = big_endian 2 (length s.bytes) in
      same-segment
      (ap value_of (time-part tag time count s.bytes behind eight two) ∙ value-big_endian 8 s.time fits.time)
      (tagged s.dc s.release).is_data
      (tagged s.dc s.release).released
      (ap₂ (λ n l. take n l) body_back (body-part tag time count s.bytes behind eight two) ∙ take-append_seam s.bytes behind)

  length-stored : length (encoded s) ≡ record_length (encoded s ++ behind)
  unfolding encoded
  length-stored =
      omega (
        arith,
        body_back,
        length-append (big_endian 8 s.time) (big_endian 2 (length s.bytes) ++ s.bytes),
        length-append (big_endian 2 (length s.bytes)) s.bytes,
        eight,
        two,
      )

  behind-left : drop (record_length (encoded s ++ behind)) (encoded s ++ behind) ≡ behind
  behind-left = drop_at (encoded s) behind (record_length (encoded s ++ behind)) length-stored

  some_stored : 0 < length (encoded s ++ behind)
  some_stored = omega (arith, length-stored, length-append (encoded s) behind)

  tag_back : get_or (encoded s ++ behind) 0 0 ≤ 3
  unfolding encoded
  tag_back = (tagged s.dc s.release).known

  pub stored-good : record_bad (encoded s ++ behind) ≡ false
  stored-good = not-bad (encoded s ++ behind) tag_back (omega (arith, length-stored, length-append (encoded s) behind))

segment-bytes : (s : Segment) → Storable s → Bytes (encoded s)
unfolding encoded
segment-bytes s fits =
    let time = big_endian 8 s.time in
    let count = big_endian 2 (length s.bytes) in
    bytes_one (time ++ (count ++ s.bytes)) (omega (arith, (tagged s.dc s.release).known))
    (bytes-append time (count ++ s.bytes) (bytes-big_endian 8 s.time)
    (bytes-append count s.bytes (bytes-big_endian 2 (length s.bytes)) fits.bytes))

-- Segments, stored, are read back.
pub segments-stored : (ss : List Segment) → Each Storable ss → segments (log_of ss) ≡ ss
segments-stored [] all = segments-last
segments-stored (s ∷ ss) all =
    let behind = log_of ss in
    segments-next (encoded s ++ behind) (some_stored s behind all.0)
    ∙ ap₂ (λ r rs. r ∷ rs) (segment-back s behind all.0)
    (ap segments (behind-left s behind all.0) ∙ segments-stored ss all.1)

-- And no record of theirs is bad.
pub stored-no-bad : (ss : List Segment) → Each Storable ss → from_bad (log_of ss) ≡ []
stored-no-bad [] all = bad-never
stored-no-bad (s ∷ ss) all =
    let behind = log_of ss in
    bad-later (encoded s ++ behind) (some_stored s behind all.0) (stored-good s behind all.0)
    ∙ ap from_bad (behind-left s behind all.0)
    ∙ stored-no-bad ss all.1

-- So the log is accepted, unless it is too long.
pub stored-accepted : (ss : List Segment) → Each Storable ss → length (log_of ss) ≤ 65536 → log_refusal (log_of ss) ≡ 0
stored-accepted ss all few = sym (all-accepted (log_of ss) few (stored-no-bad ss all)).0

-- And it is a log of bytes.
pub stored_bytes : (ss : List Segment) → Each Storable ss → Bytes (log_of ss)
stored_bytes [] all = bytes-none
stored_bytes (s ∷ ss) all = bytes-append (encoded s) (log_of ss) (segment-bytes s all.0) (stored_bytes ss all.1)
