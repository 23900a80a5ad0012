use Rattle.std.proofs.Common.{◌∙◌, eq-eqb, ne_eqb}
use Rattle.panel_script.specs.Numbers.{hex_of}
use Rattle.panel_script.proofs.numbers.hex.Goals as goal

pub returns-then-word-digits : goal.returns-then-word-digits
unfolding hex_of
returns-then-word-digits c = simp (ne_eqb _ _ c.if-word-digits.true)

pub returns : goal.returns
unfolding hex_of
returns c = c.read.ensures ∙ simp (eq-eqb _ _ c.if-word-digits.false)
