use Rattle.std.proofs.Common.{◌∙◌, ap, length}
use Rattle.st7789.specs.Refusals.{transfer_refusal}
use Rattle.st7789.proofs.Accepted.{room, refusal-none, new-left, old-left}
use Rattle.st7789.proofs.Moves.{moved-run, stored-run, answer-with}
use Rattle.st7789.proofs.St7789p3.transfer.Goals as goal

pub run-totals-requires : goal.run-totals-requires
run-totals-requires c =
    room c.args.self _ (length c.args.bytes.now) (refusal-none c.judged-status.ensures c.accepted.ensures.answer c.if-accepted.true)

pub returns-then-accepted : goal.returns-then-accepted
returns-then-accepted c =
    let a = c.args in
    let e = c.judged-status.ensures ∙ ap (λ k. transfer_refusal a.self k (length a.bytes.now)) c.cells-cells.ensures in
    let o = c.accepted.ensures.answer in
    let y = c.if-accepted.true in
    let d = c.run-totals.ensures in
    let r =
    answer-with a.panel_memory a.t a.dc a.bytes.now a.cs_release a.memory.now a.self e
    (new-left e o _ y (moved-run a.t a.dc a.bytes.now a.cs_release a.self d.panel c.release-self.ensures))
    (new-left e o _ y d.totals)
    (new-left e o _ y (stored-run a.panel_memory a.dc a.bytes.now a.memory.now a.self.controller c.end-end.ensures d.memory_after))
    in
    record { refusal = r.0; answer = r.1.0; totals = r.1.1.0; lent = r.1.1.1 }

pub returns-else-accepted : goal.returns-else-accepted
returns-else-accepted c =
    let a = c.args in
    let e = c.judged-status.ensures ∙ ap (λ k. transfer_refusal a.self k (length a.bytes.now)) c.cells-cells.ensures in
    let o = c.accepted.ensures.answer in
    let n = c.if-accepted.false in
    let r =
    answer-with a.panel_memory a.t a.dc a.bytes.now a.cs_release a.memory.now a.self e (old-left e o _ n)
    (c.none-totals.ensures.answer ∙ old-left e o _ n) (old-left e o _ n)
    in
    record { refusal = r.0; answer = r.1.0; totals = r.1.1.0; lent = r.1.1.1 }
