-- Examples: 01's example of a log, and logs at the edges of the refusals, as rows of one table: a log, its refusal, its offset, and the
-- transfers of an accepted one.
use Rattle.std.specs.Prelude.{ℕ, true, false, cond, List, [], ◌∷◌, ◌++◌, replicate, eqb}
use Rattle.logs.specs.Log.{Segment, segments, log_refusal, bad_offset}

-- A row of the table.
pub record Row : Type 0 where
  pub log : List ℕ
  pub refusal : ℕ
  pub offset : ℕ
  pub transfers : List Segment

-- The row as the definitions have it.
abbrev pub computed : Row → Row
computed row =
    record {
      log = row.log;
      refusal = log_refusal row.log;
      offset = bad_offset row.log;
      transfers = cond (eqb (log_refusal row.log) 0) (segments row.log) [];
    }

-- "00 0000000000000000 0001 2c", the record of 12 bytes before the one that a row is about.
abbrev pub ramwr : List ℕ
ramwr = 0x00 ∷ (replicate 8 0x00 ++ (0x00 ∷ 0x01 ∷ 0x2C ∷ []))

-- The table.
unfoldable pub rows : List Row
rows =
    -- "00 0000000000000000 0001 2c 03 0000000000000000 0003 f8 00 07": RAMWR, then three bytes of data and a CS release
    record {
      log = ramwr ++ (0x03 ∷ (replicate 8 0x00 ++ (0x00 ∷ 0x03 ∷ 0xF8 ∷ 0x00 ∷ 0x07 ∷ [])));
      refusal = 0;
      offset = 0;
      transfers =
          record { time = 0; dc = false; release = false; bytes = 0x2C ∷ [] }
          ∷ record { time = 0; dc = true; release = true; bytes = 0xF8 ∷ 0x00 ∷ 0x07 ∷ [] }
          ∷ [];
    }
    -- its last byte missing
    ∷ record {
      log = ramwr ++ (0x03 ∷ (replicate 8 0x00 ++ (0x00 ∷ 0x03 ∷ 0xF8 ∷ 0x00 ∷ [])));
      refusal = 7;
      offset = 12;
      transfers = [];
    }
    -- a header without its last byte
    ∷ record { log = ramwr ++ (0x03 ∷ (replicate 8 0x00 ++ (0x00 ∷ []))); refusal = 7; offset = 12; transfers = [] }
    -- a tag of 4
    ∷ record { log = ramwr ++ (0x04 ∷ (replicate 8 0x00 ++ (0x00 ∷ 0x00 ∷ []))); refusal = 7; offset = 12; transfers = [] }
    -- big-endian time and length: a data record, and a bare CS release
    ∷ record {
      log =
          0x01 ∷ 0x01 ∷ 0x02 ∷ 0x03 ∷ 0x04 ∷ 0x05 ∷ 0x06 ∷ 0x07 ∷ 0x08 ∷ 0x01 ∷ 0x00
          ∷ (replicate 256 0xAB ++ (0x02 ∷ (replicate 8 0xFF ++ (0x00 ∷ 0x00 ∷ []))));
      refusal = 0;
      offset = 0;
      transfers =
          record { time = 0x0102030405060708; dc = true; release = false; bytes = replicate 256 0xAB }
          ∷ record { time = 0xFFFFFFFFFFFFFFFF; dc = false; release = true; bytes = [] }
          ∷ [];
    }
    -- no byte
    ∷ record { log = []; refusal = 0; offset = 0; transfers = [] }
    -- exactly 65,536 bytes, and one more
    ∷ record {
      log = 0x01 ∷ (replicate 8 0x00 ++ (0xFF ∷ 0xF5 ∷ replicate 65525 0x5A));
      refusal = 0;
      offset = 0;
      transfers = record { time = 0; dc = true; release = false; bytes = replicate 65525 0x5A } ∷ [];
    }
    ∷ record { log = 0x01 ∷ (replicate 8 0x00 ++ (0xFF ∷ 0xF6 ∷ replicate 65526 0x5A)); refusal = 6; offset = 0; transfers = [] }
    ∷ []
