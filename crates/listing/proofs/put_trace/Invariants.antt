use Rattle.std.proofs.Common.{take}
use Rattle.text.specs.Text.{Put}
use Rattle.lines.specs.Lines.{texts}
use Rattle.listing.specs.Listing.{trace_line}
use Rattle.listing.proofs.put_trace.Given as goal

abbrev pub invariant-loop-record : goal.invariant-loop-record
invariant-loop-record l = Put l.initial.out l.at (texts trace_line (take l.record-index l.record-items)) l.used l.out
