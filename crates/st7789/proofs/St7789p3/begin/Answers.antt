use Rattle.std.proofs.Common.{ap}
use Rattle.st7789.specs.declared.St7789p3.{St7789p3}
use Rattle.st7789.proofs.Commands.{record-put, record-full, turn-first, turn_last, part_room, part-quiet, panel-part}
use Rattle.st7789.proofs.St7789p3.begin.Goals as goal

pub loop-i-init : goal.loop-i-init
loop-i-init c = turn-first c.requires.commands c.requires.ramwrs

pub begin_all-self-requires : goal.begin_all-self-requires
begin_all-self-requires c =
    record {
      room = part_room c.args.t c.loop-i.invariant c.reach-end.ensures.lower_bound.1 (ap (λ (s : St7789p3). s.controller.counts) c.warn.ensures);
      together = part-quiet _ c.loop-i.invariant c.loop-i-test.true c.reach-end.ensures.value c.lint-broken.ensures c.warn.ensures;
    }

pub loop-i-preserved-then-free-lt-PLACES : goal.loop-i-preserved-then-free-lt-PLACES
loop-i-preserved-then-free-lt-PLACES c =
    panel-part _ c.loop-i.invariant c.loop-i-test.true c.reach-end.ensures.value c.lint-broken.ensures c.warn.ensures c.begin_all-self.ensures
    (record-put c.warn.new.self c.free-free.ensures.answer c.if-free-lt-PLACES.true c.begun_record.ensures)

pub loop-i-preserved : goal.loop-i-preserved
loop-i-preserved c =
    panel-part _ c.loop-i.invariant c.loop-i-test.true c.reach-end.ensures.value c.lint-broken.ensures c.warn.ensures c.begin_all-self.ensures
    (record-full c.warn.new.self c.free-free.ensures.answer _ c.if-free-lt-PLACES.false)

pub returns : goal.returns
returns c = turn_last c.loop-i.invariant c.loop-i-test.false
