-- Every case of the table of refusals is given its number, by computing them.
use mathlib.Core.Path.{◌≡◌, refl}
use mathlib.Core.Bool.{true}
use Rattle.lists.specs.Params.{differ}
use Rattle.chip.specs.Begin.{fresh_chip}
use Rattle.st7789.specs.Refusals.{bad_state, transfer_refusal, bare_refusal}
use Rattle.st7789.specs.Entries.{fresh_controller, empty_lists}
use Rattle.marks.specs.Rows.{no_rows, of_span, marks_bad}
use Rattle.laws.specs.Cases.{state_limits, count_limits, sent, cases, all_given}

pub all-given : all_given cases ≡ true
unfolding state_limits count_limits sent cases differ fresh_chip bad_state transfer_refusal bare_refusal fresh_controller empty_lists no_rows of_span marks_bad
all-given = refl
