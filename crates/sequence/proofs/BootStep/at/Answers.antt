use Rattle.std.proofs.Common.{◌≤◌, rules, sym}
use lib.ListN.{get_or-eq_default}
use Rattle.sequence.specs.Sequence.{boot_sequence, past_step}
use Rattle.sequence.proofs.BootStep.at.Goals as goal

pub returns-in-None : goal.returns-in-None
returns-in-None c =
    let past : 23 ≤ c.args.k = search rules in
    record { answer = sym (get_or-eq_default boot_sequence past_step past) }
