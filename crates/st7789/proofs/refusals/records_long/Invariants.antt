use Rattle.std.proofs.Common.{length, false}
use Rattle.lists.specs.Entries.{record_long}
use Rattle.lists.proofs.Scanning.{Gather}
use Rattle.st7789.proofs.refusals.records_long.Given as goal

abbrev pub invariant-loop-record : goal.invariant-loop-record
invariant-loop-record l = Gather record_long l.used false (length l.used) l.long l.record-index
