-- Rules: 01, "The log and its program": the stored form of a log of transfers.
use Rattle.std.specs.Prelude.{ℕ, zero, suc, ◌+◌, ◌-◌, ◌*◌, ◌/◌, ◌%◌, min, Bool, cond, not, ◌||◌, length, take, drop, get_or, ltb, eqb}
use mathlib.Core.List.{List, [], ◌∷◌, ◌++◌, map, foldl}
use Rattle.std.specs.Int.Bits.{bit_and}
use Rattle.logs.specs.declared.Head.{Head}

-- One transfer of a log.
pub record Segment : Type 0 where
  pub time : ℕ
  pub dc : Bool
  pub release : Bool
  pub bytes : List ℕ

-- "big-endian": a number as so many bytes, the high byte first.
abbrev pub big_endian : ℕ → ℕ → List ℕ
big_endian zero n = []
big_endian (suc width) n = big_endian width (n / 256) ++ (n % 256 ∷ [])

-- "big-endian": the number that bytes say.
abbrev pub value_of : List ℕ → ℕ
value_of bytes = foldl (λ v b. v * 256 + b) 0 bytes

-- "tag (0 command, 1 data, add 2 for CS release)"
abbrev pub tag_of : Bool → Bool → ℕ
tag_of dc release = cond dc 1 0 + cond release 2 0

-- "Record: tag .., time 8 bytes, length 2 bytes, all big-endian, then the bytes."
unfoldable pub encoded : Segment → List ℕ
encoded s = tag_of s.dc s.release ∷ (big_endian 8 s.time ++ (big_endian 2 (length s.bytes) ++ s.bytes))

-- The records of transfers, one behind the other.
abbrev pub log_of : List Segment → List ℕ
log_of [] = []
log_of (s ∷ ss) = encoded s ++ log_of ss

-- "length 2 bytes": of the first record of the bytes `rest`, behind tag and time.
abbrev pub body_length : List ℕ → ℕ
body_length rest = value_of (take 2 (drop 9 rest))

-- "tag .., time 8 bytes, length 2 bytes, .. then the bytes": 11 bytes and those.
abbrev pub record_length : List ℕ → ℕ
record_length rest = 11 + body_length rest

-- "0 command, 1 data"
abbrev pub dc_of : ℕ → Bool
dc_of tag = not (eqb (bit_and tag 1) 0)

-- "add 2 for CS release"
abbrev pub release_of : ℕ → Bool
release_of tag = not (eqb (bit_and tag 2) 0)

-- "time 8 bytes": of the first record of the bytes `rest`, behind the tag.
abbrev pub time_of : List ℕ → ℕ
time_of rest = value_of (take 8 (drop 1 rest))

-- What the first record of the bytes `rest` says.
unfoldable pub segment_of : List ℕ → Segment
segment_of rest =
    record {
      time = time_of rest;
      dc = dc_of (get_or rest 0 0);
      release = release_of (get_or rest 0 0);
      bytes = take (body_length rest) (drop 11 rest);
    }

-- "a log record has a tag above 3 or is cut short": a cut header has fewer than 11 bytes, whatever length is read from it.
unfoldable pub record_bad : List ℕ → Bool
record_bad rest = ltb 3 (get_or rest 0 0) || ltb (length rest) (record_length rest)

-- The log from each of its records on. A record takes 11 bytes or more, so that as many turns as bytes are enough.
abbrev pub records_in : ℕ → List ℕ → List (List ℕ)
records_in zero rest = []
records_in (suc turns) [] = []
records_in (suc turns) (b ∷ rest) = (b ∷ rest) ∷ records_in turns (drop (record_length (b ∷ rest)) (b ∷ rest))

-- The same with turns enough.
unfoldable pub records : List ℕ → List (List ℕ)
records log = records_in (length log) log

-- The transfers of a log, one a record.
abbrev pub segments : List ℕ → List Segment
segments log = map segment_of (records log)

-- The log from its first bad record on; empty where none is bad.
abbrev pub first_bad : List (List ℕ) → List ℕ
first_bad [] = []
first_bad (rest ∷ rests) = cond (record_bad rest) rest (first_bad rests)

-- The same of a log.
abbrev pub from_bad : List ℕ → List ℕ
from_bad log = first_bad (records log)

-- LOG_LONG: "a log is above 65,536 bytes"; then BAD_LOG: "a log record has a tag above 3 or is cut short".
unfoldable pub log_refusal : List ℕ → ℕ
log_refusal log = cond (ltb 65536 (length log)) 6 (cond (eqb (length (from_bad log)) 0) 0 7)

-- "BAD_LOG also gives the offset of the bad record's first byte."
unfoldable pub bad_offset : List ℕ → ℕ
bad_offset log = cond (eqb (log_refusal log) 7) (length log - length (from_bad log)) 0

-- The record at an offset, and where its bytes start and end; cut at the log's end.
unfoldable pub head_at : List ℕ → ℕ → Head
head_at log at =
    record {
      t = time_of (drop at log);
      start = min (at + 11) (length log);
      end = min (at + record_length (drop at log)) (length log);
      dc = dc_of (get_or (drop at log) 0 0);
      release = release_of (get_or (drop at log) 0 0);
    }
