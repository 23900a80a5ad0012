use Rattle.std.proofs.Common.{◌∙◌, sym}
use Rattle.panel_script.specs.Numbers.{decimal_of}
use Rattle.panel_script.proofs.numbers.decimal.Goals as goal

pub returns-then-is_empty : goal.returns-then-is_empty
unfolding decimal_of
returns-then-is_empty c = simp (sym c.if-is_empty.ensures)

pub returns : goal.returns
unfolding decimal_of
returns c = c.read.ensures ∙ simp (sym c.if-is_empty.ensures)
