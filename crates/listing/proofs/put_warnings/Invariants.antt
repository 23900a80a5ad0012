use Rattle.std.proofs.Common.{take}
use Rattle.text.specs.Text.{Put}
use Rattle.lines.specs.Lines.{texts}
use Rattle.listing.specs.Listing.{warning_line}
use Rattle.listing.proofs.put_warnings.Given as goal

abbrev pub invariant-loop-warning : goal.invariant-loop-warning
invariant-loop-warning l = Put l.initial.out l.at (texts warning_line (take l.warning-index l.warning-items)) l.used l.out
