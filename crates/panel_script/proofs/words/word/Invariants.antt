use Rattle.std.proofs.Common.{◌≡◌, ◌-◌}
use Rattle.panel_script.specs.Words.{word_at}
use Rattle.panel_script.proofs.words.word.Given as goal

abbrev pub invariant-loop : goal.invariant-loop
invariant-loop l = word_at (l.k - l.counter) l.rest ≡ word_at l.k l.text
