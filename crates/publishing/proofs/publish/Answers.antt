-- Rows are copied only where nothing was refused.
use Rattle.std.proofs.Common.{◌≡◌, sym, ◌∙◌, length, arith}
use Rattle.std.proofs.lemmas.Grind.{common_steps}
use Rattle.publishing.specs.Publish.{publish_refusal}
use Rattle.publishing.proofs.Refusing.{span-rows, span-right}
use Rattle.publishing.proofs.publish.Goals as goal

pub copy_rows-requires-clause-first_le_last : goal.copy_rows-requires-clause-first_le_last
unfolding publish_refusal
copy_rows-requires-clause-first_le_last c =
    let a = c.args in
    let cells = length a.memory.now in
    let room = length a.frame.now in
    let none : publish_refusal a.panel cells room ≡ 0 = grind (arith, common_steps) in
    span-rows (sym c.span-span.ensures.answer ∙ c.in-Some.is) c.from.ensures c.from-in-Some.ensures (span-right a.panel cells room none)
