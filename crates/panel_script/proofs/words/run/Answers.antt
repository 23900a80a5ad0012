use Rattle.panel_script.proofs.Scanning.{found}
use Rattle.panel_script.proofs.words.run.Goals as goal

pub returns : goal.returns
returns c = found _ _ c.first_other.ensures c.unwrap_or.ensures
