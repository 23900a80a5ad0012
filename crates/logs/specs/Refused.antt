-- Rules: what the answer of a check says of a log.
use Rattle.std.specs.Prelude.{ℕ, Result, Ok, Err}
use Rattle.status.specs.Numbers.{number_of}
use Rattle.logs.specs.declared.Refused.{Refused}

-- The refusal's number, and 0 where the log is accepted.
abbrev pub refusal_of : {A : Type 0} → Result A Refused → ℕ
refusal_of (Ok x) = 0
refusal_of (Err refused) = number_of refused.refusal

-- "BAD_LOG also gives the offset of the bad record's first byte."
abbrev pub offset_of : {A : Type 0} → Result A Refused → ℕ
offset_of (Ok x) = 0
offset_of (Err refused) = refused.offset
