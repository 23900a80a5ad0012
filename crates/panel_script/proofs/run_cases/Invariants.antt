use Rattle.std.proofs.Common.{◌-◌, length}
use Rattle.panel_script.proofs.run_cases.Given as goal

abbrev pub decreases-loop-at : goal.decreases-loop-at
decreases-loop-at l = length l.text - l.at
