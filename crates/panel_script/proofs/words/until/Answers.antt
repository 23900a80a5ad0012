use Rattle.panel_script.proofs.Scanning.{found}
use Rattle.panel_script.proofs.words.until.Goals as goal

pub returns : goal.returns
returns c = found _ _ c.first.ensures c.unwrap_or.ensures
