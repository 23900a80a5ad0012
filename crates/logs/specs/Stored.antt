-- Rules: what the theorems about storing and reading back, and about the offset of a bad record, are said with.
use Rattle.std.specs.Prelude.{ℕ, ◌^◌, ◌<◌, ◌≡◌, true, List, [], ◌∷◌, ◌++◌, length, drop, get_or}
use Rattle.logs.specs.Log.{Segment, encoded, log_of, record_bad}

-- Each number of a list is a byte.
abbrev pub Bytes : List ℕ → Type 0
Bytes l = (i : ℕ) → get_or l i 0 < 256

-- What fits the stored form: "time 8 bytes, length 2 bytes", and bytes.
pub record Storable (s : Segment) : Type 0 where
  pub time : s.time < 2 ^ 64
  pub short : length s.bytes < 2 ^ 16
  pub bytes : Bytes s.bytes

-- A fact of each element of a list.
abbrev pub Each : {A : Type 0} → (A → Type 0) → List A → Type 0
Each P [] = Unit
Each P (x ∷ xs) = P x × Each P xs

-- "the offset of the bad record's first byte", of the first bad one: up to the offset the log is stored transfers, and the bytes from it on
-- begin with a bad record, and with no stored transfer.
pub record BadAt (log : List ℕ) (at : ℕ) : Type 0 where
  pub before : List Segment
  pub storable : Each Storable before
  pub splits : log ≡ log_of before ++ drop at log
  pub offset : length (log_of before) ≡ at
  pub inside : at < length log
  pub bad : record_bad (drop at log) ≡ true
  pub none : (s : Segment) (behind : List ℕ) → Storable s → encoded s ++ behind ≡ drop at log → ⊥
