use Rattle.std.proofs.Common.{sym, length-take-le}
use Rattle.panel_script.proofs.Scanning.{until-within}
use Rattle.panel_script.proofs.words.before.Goals as goal

pub slice_bounds-result-end : goal.slice_bounds-result-end
slice_bounds-result-end c = sym (length-take-le _ _ (until-within c.args.b c.args.bytes.now c.until.ensures))
