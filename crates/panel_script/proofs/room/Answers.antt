use Rattle.panel_script.proofs.Lent.{filled-long}
use Rattle.panel_script.proofs.room.Goals as goal

pub returns : goal.returns
returns c = filled-long 1048577
