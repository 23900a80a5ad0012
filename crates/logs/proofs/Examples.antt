-- Every row of the table is as it says, by computing it.
use mathlib.Core.Path.{◌≡◌, refl}
use mathlib.Core.List.{map}
use Rattle.logs.specs.Log.{segment_of, record_bad, records, log_refusal, bad_offset}
use Rattle.logs.specs.Examples.{computed, rows}

pub all-computed : map computed rows ≡ rows
unfolding rows segment_of record_bad records log_refusal bad_offset
all-computed = refl
