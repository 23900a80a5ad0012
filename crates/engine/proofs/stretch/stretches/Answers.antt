use Rattle.std.proofs.Common.{sym, ◌∙◌, arith}
use Rattle.engine.proofs.Segments.{still, still-memory, gone, gone-memory}
use Rattle.engine.proofs.Rounds.{whole_length}
use Rattle.engine.proofs.stretch.stretches.Goals as goal

pub returns-then-is_inverted-clause-value : goal.returns-then-is_inverted-clause-value
returns-then-is_inverted-clause-value c =
    let a = c.args in
    c.dropped.ensures ∙
    still a.site a.walk a.marks a.bytes.now _ c.requires _ c.pixels-complete.ensures
    (sym c.is_inverted.ensures ∙ c.if-is_inverted.true)

pub returns-then-is_inverted-clause-memory_after : goal.returns-then-is_inverted-clause-memory_after
returns-then-is_inverted-clause-memory_after c =
    let a = c.args in
    still-memory a.site a.walk a.marks a.bytes.now _ c.requires _ (sym c.is_inverted.ensures ∙ c.if-is_inverted.true)

pub overflow_sub-result : goal.overflow_sub-result
overflow_sub-result c =
    let a = c.args in
    omega (arith, c.pixels-complete.ensures, whole_length a.site.format a.bytes.now, c.rows-end.ensures.missed_value_2)

pub returns-clause-value : goal.returns-clause-value
returns-clause-value c =
    let a = c.args in
    let e = c.rows-end.ensures in
    gone a.site a.walk a.marks a.bytes.now _ c.requires _ c.pixels-complete.ensures
    (sym c.is_inverted.ensures ∙ c.if-is_inverted.false) _ _ _ e.pointer_value e.marks_value e.missed_value_2

pub returns-clause-memory_after : goal.returns-clause-memory_after
returns-clause-memory_after c =
    let a = c.args in
    gone-memory a.site a.walk a.marks a.bytes.now _ c.requires _ _ c.rows-end.ensures.memory_after
