-- The part that is lent is 240 numbers long.
use Rattle.std.proofs.Common.{◌≡◌, ◌+◌, ◌-◌, ◌*◌, arith}
use Rattle.std.proofs.lemmas.Grind.{common_steps}
use Rattle.views.specs.Views.{row_seen}
use Rattle.views.proofs.lent.row.Goals as goal

pub returns : goal.returns
unfolding row_seen
returns c =
    let long : c.args.row * 240 + 240 - c.args.row * 240 ≡ 240 = omega arith in
    record { answer = rw long (grind (arith, common_steps)) }
