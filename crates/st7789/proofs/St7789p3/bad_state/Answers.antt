use Rattle.std.proofs.Common.{ap, refl, ◌∙◌}
use Rattle.lists.specs.Entries.{some}
use Rattle.st7789.specs.Refusals.{itself, clauses}
use Rattle.st7789.proofs.Tests.{bad-told}
use Rattle.st7789.proofs.St7789p3.bad_state.Goals as goal

pub returns : goal.returns
returns c =
    record {
      answer =
          c.bad.ensures
          ∙ ap (λ w. some itself (clauses c.args.self.controller c.stored_long-stored.result c.records_long-records.result w)) c.current_bad-wrong.ensures
          ∙ bad-told c.args.self c.stored_long-stored.ensures.answer refl c.records_long-records.ensures c.place.ensures.value;
    }
