use Rattle.std.proofs.Common.{sym, ◌∙◌}
use Rattle.panel_script.proofs.Reading.{stopped}
use Rattle.panel_script.proofs.numbers.read.Goals as goal

pub returns-in_err-n : goal.returns-in_err-n
returns-in_err-n c =
    c.from_residual.ensures
    ∙ stopped _ _ _ _ _ c.loop-byte-test.true (sym c.in_err-n.was ∙ c.with_digit.ensures) c.loop-byte.invariant
